use Rattle.std.proofs.Common.{arith, ◌≡◌, ◌≤◌, ◌*◌, pos, unsigned_abs, to_z, of_z, w32, w64}
use Rattle.std.specs.Int.{w128}
use Rattle.std.proofs.lemmas.Int.{ints, to_z-of_z}
use Rattle.std.proofs.lemmas.Nat.{mul-le}
use Rattle.ngc_step_kernel.proofs.ViewLemmas.{moved_sum, moved_near, moved_small}
use Rattle.ngc_step_kernel.proofs.view.moved_place.Goals as goal

pub rounded_quotient-requires-clause-dividend : goal.rounded_quotient-requires-clause-dividend
rounded_quotient-requires-clause-dividend c =
    let r = c.requires in
    let centre : to_z w64 (of_z w64 c.args.centre) ≡ c.args.centre = to_z-of_z w64 c.args.centre c.ranges.centre in
    let way : to_z w64 (of_z w64 c.args.way) ≡ c.args.way = to_z-of_z w64 c.args.way c.ranges.way in
    let a = rw centre at c.scaled.ensures.value in
    let b = rw centre at c.scaled.ensures.bound in
    let d = rw way at c.scaled-2.ensures.value in
    let e = rw way at c.scaled-2.ensures.bound in
    (moved_sum c.args.centre c.args.way _ _ c.args.radius c.args.other a b d e r.centre r.way r.radius r.other).small

pub returns-clause-near : goal.returns-clause-near
returns-clause-near c =
    let r = c.requires in
    let centre : to_z w64 (of_z w64 c.args.centre) ≡ c.args.centre = to_z-of_z w64 c.args.centre c.ranges.centre in
    let way : to_z w64 (of_z w64 c.args.way) ≡ c.args.way = to_z-of_z w64 c.args.way c.ranges.way in
    let a = rw centre at c.scaled.ensures.value in
    let b = rw centre at c.scaled.ensures.bound in
    let d = rw way at c.scaled-2.ensures.value in
    let e = rw way at c.scaled-2.ensures.bound in
    let sum = moved_sum c.args.centre c.args.way _ _ c.args.radius c.args.other a b d e r.centre r.way r.radius r.other in
    let few : c.args.radius * c.args.step ≤ 2000020000 * 50000 = mul-le c.args.radius c.args.step 2000020000 50000 r.radius r.greatest in
    let div : to_z w128 (of_z w128 c.from.result) ≡ pos (c.args.radius * c.args.step) = omega (arith, ints, few, c.from.ensures) in
    let near = moved_near c.args.step c.args.radius c.args.other c.args.centre c.args.way _ _ c.rounded_quotient.result c.rounded_quotient.ensures.nearest
    sum.is div in
    let small = moved_small c.args.step c.args.radius c.args.other c.args.centre c.args.way _ c.rounded_quotient.result r.some r.least r.greatest sum near in
    let same : to_z w32 (of_z w32 (to_z w128 (of_z w128 c.rounded_quotient.result))) ≡ c.rounded_quotient.result = omega (arith, ints, small) in
    rw same near

pub overflow_cast-result : goal.overflow_cast-result
overflow_cast-result c =
    let r = c.requires in
    let centre : to_z w64 (of_z w64 c.args.centre) ≡ c.args.centre = to_z-of_z w64 c.args.centre c.ranges.centre in
    let way : to_z w64 (of_z w64 c.args.way) ≡ c.args.way = to_z-of_z w64 c.args.way c.ranges.way in
    let a = rw centre at c.scaled.ensures.value in
    let b = rw centre at c.scaled.ensures.bound in
    let d = rw way at c.scaled-2.ensures.value in
    let e = rw way at c.scaled-2.ensures.bound in
    let sum = moved_sum c.args.centre c.args.way _ _ c.args.radius c.args.other a b d e r.centre r.way r.radius r.other in
    let few : c.args.radius * c.args.step ≤ 2000020000 * 50000 = mul-le c.args.radius c.args.step 2000020000 50000 r.radius r.greatest in
    let div : to_z w128 (of_z w128 c.from.result) ≡ pos (c.args.radius * c.args.step) = omega (arith, ints, few, c.from.ensures) in
    let near = moved_near c.args.step c.args.radius c.args.other c.args.centre c.args.way _ _ c.rounded_quotient.result c.rounded_quotient.ensures.nearest
    sum.is div in
    let small = moved_small c.args.step c.args.radius c.args.other c.args.centre c.args.way _ c.rounded_quotient.result r.some r.least r.greatest sum near in
    omega (arith, ints, small)

pub returns-clause-range : goal.returns-clause-range
returns-clause-range c =
    let r = c.requires in
    let centre : to_z w64 (of_z w64 c.args.centre) ≡ c.args.centre = to_z-of_z w64 c.args.centre c.ranges.centre in
    let way : to_z w64 (of_z w64 c.args.way) ≡ c.args.way = to_z-of_z w64 c.args.way c.ranges.way in
    let a = rw centre at c.scaled.ensures.value in
    let b = rw centre at c.scaled.ensures.bound in
    let d = rw way at c.scaled-2.ensures.value in
    let e = rw way at c.scaled-2.ensures.bound in
    let sum = moved_sum c.args.centre c.args.way _ _ c.args.radius c.args.other a b d e r.centre r.way r.radius r.other in
    let few : c.args.radius * c.args.step ≤ 2000020000 * 50000 = mul-le c.args.radius c.args.step 2000020000 50000 r.radius r.greatest in
    let div : to_z w128 (of_z w128 c.from.result) ≡ pos (c.args.radius * c.args.step) = omega (arith, ints, few, c.from.ensures) in
    let near = moved_near c.args.step c.args.radius c.args.other c.args.centre c.args.way _ _ c.rounded_quotient.result c.rounded_quotient.ensures.nearest
    sum.is div in
    let small = moved_small c.args.step c.args.radius c.args.other c.args.centre c.args.way _ c.rounded_quotient.result r.some r.least r.greatest sum near in
    let same : to_z w32 (of_z w32 (to_z w128 (of_z w128 c.rounded_quotient.result))) ≡ c.rounded_quotient.result = omega (arith, ints, small) in
    rw same small

pub scaled-requires-clause-x : goal.scaled-requires-clause-x
scaled-requires-clause-x c = omega (arith, ints)

pub scaled-requires-clause-radius : goal.scaled-requires-clause-radius
scaled-requires-clause-radius c = omega (arith, ints)

pub scaled-requires-2-clause-x : goal.scaled-requires-2-clause-x
scaled-requires-2-clause-x c = omega (arith, ints)

pub scaled-requires-2-clause-radius : goal.scaled-requires-2-clause-radius
scaled-requires-2-clause-radius c = omega (arith, ints)

pub overflow_add-place : goal.overflow_add-place
overflow_add-place c =
    let r = c.requires in
    let centre : to_z w64 (of_z w64 c.args.centre) ≡ c.args.centre = to_z-of_z w64 c.args.centre c.ranges.centre in
    let way : to_z w64 (of_z w64 c.args.way) ≡ c.args.way = to_z-of_z w64 c.args.way c.ranges.way in
    let b = rw centre at c.scaled.ensures.bound in
    let e = rw way at c.scaled-2.ensures.bound in
    let first = mul-le (unsigned_abs c.args.centre) c.args.radius 93000000000 2000020000 r.centre r.radius in
    let second = mul-le (unsigned_abs c.args.way) c.args.other 2000020000 2000020000 (omega (arith, r.way, r.radius)) r.other in
    omega (arith, ints, b, e, first, second)

pub overflow_mul-radius : goal.overflow_mul-radius
overflow_mul-radius c =
    let few = mul-le c.args.radius c.args.step 2000020000 50000 c.requires.radius c.requires.greatest in
    omega (arith, few)

pub rounded_quotient-requires-clause-divisor : goal.rounded_quotient-requires-clause-divisor
rounded_quotient-requires-clause-divisor c =
    let few = mul-le c.args.radius c.args.step 2000020000 50000 c.requires.radius c.requires.greatest in
    omega (arith, ints, few, c.from.ensures)
