use Rattle.std.proofs.Common.{◌≡◌, ℕ, ℤ, pos, ◌-ℤ◌, ◌≤◌, neg_ℤ, unsigned_abs, to_z, of_z, arith, ◌∙◌, ap, ap₂}
use Rattle.std.specs.Int.{w64, int_div_euclid, int_max}
use Rattle.std.proofs.lemmas.Int.{ints, clamps}
use Rattle.ngc_cells.proofs.Kept.{kept64}
use Rattle.ngc_cells.proofs.Quotients.{quotient_size}
use Rattle.ngc_sure_contacts.proofs.line.Line.highest_tip.Goals as goal

pub overflow_sub-result : goal.overflow_sub-result
overflow_sub-result c =
    let t = kept64 c.tip.result (omega (arith, c.tip.ensures.bound)) in
    let u = kept64 c.tip-2.result (omega (arith, c.tip-2.ensures.bound)) in
    let m = rw (t, u) at c.max-highest.ensures.value in
    let ms : unsigned_abs c.max-highest.result ≤ 400000000000000 = rw m (omega (arith, ints, clamps, c.tip.ensures.bound, c.tip-2.ensures.bound)) in
    let n : to_z w64 (of_z w64 c.from.result) ≡ pos c.pieces.result = rw c.from.ensures (kept64 (pos c.pieces.result) (omega (arith, c.pieces.ensures.most))) in
    let turned : to_z w64 (of_z w64 (pos 0 -ℤ to_z w64 (of_z w64 c.max-highest.result))) ≡ neg_ℤ c.max-highest.result = omega (arith, ints, ms) in
    let e = rw (turned, n) at c.div_euclid.ensures in
    let q = quotient_size (pos c.pieces.result) (neg_ℤ c.max-highest.result) (omega (arith, ints, c.pieces.ensures.least)) in
    let size : unsigned_abs c.div_euclid.result ≤ 400000000000000 = rw e (omega (arith, ints, q, ms)) in
    let back : to_z w64 (of_z w64 (pos 0 -ℤ to_z w64 (of_z w64 c.div_euclid.result))) ≡ neg_ℤ c.div_euclid.result = omega (arith, ints, size) in
    let d = kept64 c.div_euclid.result (omega (arith, size)) in
    rw d (omega (arith, ints, size))

pub returns-clause-value : goal.returns-clause-value
returns-clause-value c =
    let t = kept64 c.tip.result (omega (arith, c.tip.ensures.bound)) in
    let u = kept64 c.tip-2.result (omega (arith, c.tip-2.ensures.bound)) in
    let m = rw (t, u) at c.max-highest.ensures.value in
    let ms : unsigned_abs c.max-highest.result ≤ 400000000000000 = rw m (omega (arith, ints, clamps, c.tip.ensures.bound, c.tip-2.ensures.bound)) in
    let n : to_z w64 (of_z w64 c.from.result) ≡ pos c.pieces.result = rw c.from.ensures (kept64 (pos c.pieces.result) (omega (arith, c.pieces.ensures.most))) in
    let turned : to_z w64 (of_z w64 (pos 0 -ℤ to_z w64 (of_z w64 c.max-highest.result))) ≡ neg_ℤ c.max-highest.result = omega (arith, ints, ms) in
    let e = rw (turned, n) at c.div_euclid.ensures in
    let q = quotient_size (pos c.pieces.result) (neg_ℤ c.max-highest.result) (omega (arith, ints, c.pieces.ensures.least)) in
    let size : unsigned_abs c.div_euclid.result ≤ 400000000000000 = rw e (omega (arith, ints, q, ms)) in
    let back : to_z w64 (of_z w64 (pos 0 -ℤ to_z w64 (of_z w64 c.div_euclid.result))) ≡ neg_ℤ c.div_euclid.result = omega (arith, ints, size) in
    back ∙ ap neg_ℤ (e ∙ ap₂ (λ (x : ℤ) (y : ℕ). int_div_euclid (neg_ℤ x) (pos y)) (m ∙ ap₂ int_max c.tip.ensures.value c.tip-2.ensures.value) c.pieces.ensures.value)

pub returns-clause-bound : goal.returns-clause-bound
returns-clause-bound c =
    let t = kept64 c.tip.result (omega (arith, c.tip.ensures.bound)) in
    let u = kept64 c.tip-2.result (omega (arith, c.tip-2.ensures.bound)) in
    let m = rw (t, u) at c.max-highest.ensures.value in
    let ms : unsigned_abs c.max-highest.result ≤ 400000000000000 = rw m (omega (arith, ints, clamps, c.tip.ensures.bound, c.tip-2.ensures.bound)) in
    let n : to_z w64 (of_z w64 c.from.result) ≡ pos c.pieces.result = rw c.from.ensures (kept64 (pos c.pieces.result) (omega (arith, c.pieces.ensures.most))) in
    let turned : to_z w64 (of_z w64 (pos 0 -ℤ to_z w64 (of_z w64 c.max-highest.result))) ≡ neg_ℤ c.max-highest.result = omega (arith, ints, ms) in
    let e = rw (turned, n) at c.div_euclid.ensures in
    let q = quotient_size (pos c.pieces.result) (neg_ℤ c.max-highest.result) (omega (arith, ints, c.pieces.ensures.least)) in
    let size : unsigned_abs c.div_euclid.result ≤ 400000000000000 = rw e (omega (arith, ints, q, ms)) in
    let back : to_z w64 (of_z w64 (pos 0 -ℤ to_z w64 (of_z w64 c.div_euclid.result))) ≡ neg_ℤ c.div_euclid.result = omega (arith, ints, size) in
    rw back (omega (arith, ints, size))
