use Rattle.std.proofs.Common.{◌≡◌, ℕ, ℤ, pos, ◌+ℤ◌, ◌*ℤ◌, ◌≤◌, unsigned_abs, to_z, of_z, arith, ap, ap₂}
use Rattle.std.specs.Int.{w64}
use Rattle.std.proofs.lemmas.Int.{ints}
use Rattle.ngc_cells.proofs.Kept.{kept64, plus64}
use Rattle.ngc_material.proofs.Tips.{times_small, times_fits}
use Rattle.ngc_sure_contacts.proofs.line.Line.tip.Goals as goal

pub overflow_mul-result : goal.overflow_mul-result
overflow_mul-result c =
    let n : to_z w64 (of_z w64 c.from.result) ≡ pos c.pieces.result = rw c.from.ensures (kept64 (pos c.pieces.result) (omega (arith, c.pieces.ensures.most))) in
    let z = plus64 c.nanometres.result c.nanometres-2.result (omega (arith, c.nanometres.ensures.bound)) (omega (arith, c.nanometres-2.ensures.bound)) in
    let zs : unsigned_abs (c.nanometres.result +ℤ c.nanometres-2.result) ≤ 200000000000 = omega (arith, ints, c.nanometres.ensures.bound, c.nanometres-2.ensures.bound) in
    rw (n, z) (times_fits c.pieces.result (c.nanometres.result +ℤ c.nanometres-2.result) c.pieces.ensures.most zs)

pub overflow_mul-result-2 : goal.overflow_mul-result-2
overflow_mul-result-2 c =
    let k : to_z w64 (of_z w64 c.from-2.result) ≡ pos c.args.part = rw c.from-2.ensures (kept64 (pos c.args.part) (omega (arith, c.requires))) in
    let d = kept64 c.climb.result (omega (arith, c.climb.ensures.bound)) in
    rw (k, d) (times_fits c.args.part c.climb.result c.requires c.climb.ensures.bound)

pub overflow_add-result : goal.overflow_add-result
overflow_add-result c =
    let n : to_z w64 (of_z w64 c.from.result) ≡ pos c.pieces.result = rw c.from.ensures (kept64 (pos c.pieces.result) (omega (arith, c.pieces.ensures.most))) in
    let z = plus64 c.nanometres.result c.nanometres-2.result (omega (arith, c.nanometres.ensures.bound)) (omega (arith, c.nanometres-2.ensures.bound)) in
    let zs : unsigned_abs (c.nanometres.result +ℤ c.nanometres-2.result) ≤ 200000000000 = omega (arith, ints, c.nanometres.ensures.bound, c.nanometres-2.ensures.bound) in
    let k : to_z w64 (of_z w64 c.from-2.result) ≡ pos c.args.part = rw c.from-2.ensures (kept64 (pos c.args.part) (omega (arith, c.requires))) in
    let d = kept64 c.climb.result (omega (arith, c.climb.ensures.bound)) in
    let a = times_small c.pieces.result (c.nanometres.result +ℤ c.nanometres-2.result) c.pieces.ensures.most zs in
    let b = times_small c.args.part c.climb.result c.requires c.climb.ensures.bound in
    let p = kept64 (pos c.pieces.result *ℤ (c.nanometres.result +ℤ c.nanometres-2.result)) (omega (arith, a)) in
    let q = kept64 (pos c.args.part *ℤ c.climb.result) (omega (arith, b)) in
    let r = kept64 ((pos c.pieces.result *ℤ (c.nanometres.result +ℤ c.nanometres-2.result)) +ℤ (pos c.args.part *ℤ c.climb.result)) (omega (arith, ints, a, b)) in
    rw (n, z, k, d, p, q) (omega (arith, ints, a, b))

pub returns-clause-value : goal.returns-clause-value
returns-clause-value c =
    let n : to_z w64 (of_z w64 c.from.result) ≡ pos c.pieces.result = rw c.from.ensures (kept64 (pos c.pieces.result) (omega (arith, c.pieces.ensures.most))) in
    let z = plus64 c.nanometres.result c.nanometres-2.result (omega (arith, c.nanometres.ensures.bound)) (omega (arith, c.nanometres-2.ensures.bound)) in
    let zs : unsigned_abs (c.nanometres.result +ℤ c.nanometres-2.result) ≤ 200000000000 = omega (arith, ints, c.nanometres.ensures.bound, c.nanometres-2.ensures.bound) in
    let k : to_z w64 (of_z w64 c.from-2.result) ≡ pos c.args.part = rw c.from-2.ensures (kept64 (pos c.args.part) (omega (arith, c.requires))) in
    let d = kept64 c.climb.result (omega (arith, c.climb.ensures.bound)) in
    let a = times_small c.pieces.result (c.nanometres.result +ℤ c.nanometres-2.result) c.pieces.ensures.most zs in
    let b = times_small c.args.part c.climb.result c.requires c.climb.ensures.bound in
    let p = kept64 (pos c.pieces.result *ℤ (c.nanometres.result +ℤ c.nanometres-2.result)) (omega (arith, a)) in
    let q = kept64 (pos c.args.part *ℤ c.climb.result) (omega (arith, b)) in
    let r = kept64 ((pos c.pieces.result *ℤ (c.nanometres.result +ℤ c.nanometres-2.result)) +ℤ (pos c.args.part *ℤ c.climb.result)) (omega (arith, ints, a, b)) in
    rw (n, z, k, d, p, q, r) (ap₂ (λ (x y : ℤ). x +ℤ y)
    (ap₂ (λ (m : ℕ) (x : ℤ). pos m *ℤ x) c.pieces.ensures.value (ap₂ (λ (x y : ℤ). x +ℤ y) c.nanometres.ensures.value c.nanometres-2.ensures.value))
    (ap (λ (x : ℤ). pos c.args.part *ℤ x) c.climb.ensures.value))

pub returns-clause-bound : goal.returns-clause-bound
returns-clause-bound c =
    let n : to_z w64 (of_z w64 c.from.result) ≡ pos c.pieces.result = rw c.from.ensures (kept64 (pos c.pieces.result) (omega (arith, c.pieces.ensures.most))) in
    let z = plus64 c.nanometres.result c.nanometres-2.result (omega (arith, c.nanometres.ensures.bound)) (omega (arith, c.nanometres-2.ensures.bound)) in
    let zs : unsigned_abs (c.nanometres.result +ℤ c.nanometres-2.result) ≤ 200000000000 = omega (arith, ints, c.nanometres.ensures.bound, c.nanometres-2.ensures.bound) in
    let k : to_z w64 (of_z w64 c.from-2.result) ≡ pos c.args.part = rw c.from-2.ensures (kept64 (pos c.args.part) (omega (arith, c.requires))) in
    let d = kept64 c.climb.result (omega (arith, c.climb.ensures.bound)) in
    let a = times_small c.pieces.result (c.nanometres.result +ℤ c.nanometres-2.result) c.pieces.ensures.most zs in
    let b = times_small c.args.part c.climb.result c.requires c.climb.ensures.bound in
    let p = kept64 (pos c.pieces.result *ℤ (c.nanometres.result +ℤ c.nanometres-2.result)) (omega (arith, a)) in
    let q = kept64 (pos c.args.part *ℤ c.climb.result) (omega (arith, b)) in
    let r = kept64 ((pos c.pieces.result *ℤ (c.nanometres.result +ℤ c.nanometres-2.result)) +ℤ (pos c.args.part *ℤ c.climb.result)) (omega (arith, ints, a, b)) in
    rw (n, z, k, d, p, q, r) (omega (arith, ints, a, b))
