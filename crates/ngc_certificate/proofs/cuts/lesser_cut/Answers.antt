use Rattle.std.proofs.Common.{rules, arith, ◌≤◌, ◌+◌, ◌*◌, ℕ, ℤ, Bool, true, false, cond, int_lt, max, Fits, unsigned_abs}
use Rattle.std.specs.Int.{w32, w128, int_min}
use Rattle.std.proofs.lemmas.Int.{to_z-of_z}
use Rattle.ngc_certificate.proofs.cuts.lesser_cut.Goals as goal

-- one of two numbers is within the bound of both
one_of : (first : Bool) (a b : ℤ) (n : ℕ) → unsigned_abs a ≤ n → unsigned_abs b ≤ n → unsigned_abs (cond first a b) ≤ n
one_of true a b n h k = h
one_of false a b n h k = k

min_small : (a b : ℤ) (n : ℕ) → unsigned_abs a ≤ n → unsigned_abs b ≤ n → unsigned_abs (int_min a b) ≤ n
min_small a b n h k = one_of (int_lt b a) b a n k h

pub returns-clause-value : goal.returns-clause-value
returns-clause-value c =
    let kept = to_z-of_z w128 c.min.result (record { sfits = c.min.type_inv }) in
    let from = to_z-of_z w128 c.cut_at.result (record { sfits = c.cut_at.type_inv }) in
    let to = to_z-of_z w128 c.cut_at-2.result (record { sfits = c.cut_at-2.type_inv }) in
    rw (kept, c.min.ensures.value, from, to, c.cut_at.ensures.value, c.cut_at-2.ensures.value)

pub returns-clause-bound : goal.returns-clause-bound
returns-clause-bound c =
    let kept = to_z-of_z w128 c.min.result (record { sfits = c.min.type_inv }) in
    let from = to_z-of_z w128 c.cut_at.result (record { sfits = c.cut_at.type_inv }) in
    let to = to_z-of_z w128 c.cut_at-2.result (record { sfits = c.cut_at-2.type_inv }) in
    rw (kept, c.min.ensures.value, from, to)
    (min_small c.cut_at.result c.cut_at-2.result (6553600000000000 + 200000000000 * max c.args.cuts.now.from c.args.cuts.now.to)
    (omega (arith, c.cut_at.ensures.bound)) (omega (arith, c.cut_at-2.ensures.bound)))

pub returns-clause-reach : goal.returns-clause-reach
returns-clause-reach c =
    let kept = to_z-of_z w128 c.min.result (record { sfits = c.min.type_inv }) in
    let from = to_z-of_z w128 c.cut_at.result (record { sfits = c.cut_at.type_inv }) in
    let to = to_z-of_z w128 c.cut_at-2.result (record { sfits = c.cut_at-2.type_inv }) in
    let first : Fits w32 c.args.cuts.now.from = search rules in
    let last : Fits w32 c.args.cuts.now.to = search rules in
    rw (kept, c.min.ensures.value, from, to)
    (min_small c.cut_at.result c.cut_at-2.result 900000000000000000000
    (omega (arith, c.cut_at.ensures.bound, first)) (omega (arith, c.cut_at-2.ensures.bound, last)))
