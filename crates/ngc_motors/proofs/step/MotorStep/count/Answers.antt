use Rattle.std.proofs.Common.{◌≡◌, arith, pos, of_z, to_z, unsigned_abs, ◌≤◌, ◌*ℤ◌}
use Rattle.std.specs.Int.{w128}
use Rattle.std.proofs.lemmas.Int.{ints}
use Rattle.ngc_motors.specs.Counts as spec
use Rattle.ngc_motors.proofs.Sizes.{count_size, parts_size}
use Rattle.ngc_motors.proofs.step.MotorStep.count.Goals.{After-nearest}
use Rattle.ngc_motors.proofs.step.MotorStep.count.Goals as goal

pub overflow_mul-parts : goal.overflow_mul-parts
overflow_mul-parts c =
    let m = c.args.self.now in
    let small = parts_size m c.args.place c.requires (omega (arith, ints)) in
    let place : to_z w128 (of_z w128 c.from.result) ≡ c.args.place = omega (arith, ints) in
    let steps : to_z w128 (of_z w128 c.from-2.result) ≡ pos m.steps = omega (arith, ints) in
    rw (place, steps) (omega (arith, ints, small))

pub nearest-requires-clause-a : goal.nearest-requires-clause-a
nearest-requires-clause-a c =
    let m = c.args.self.now in
    let small = parts_size m c.args.place c.requires (omega (arith, ints)) in
    let place : to_z w128 (of_z w128 c.from.result) ≡ c.args.place = omega (arith, ints) in
    let steps : to_z w128 (of_z w128 c.from-2.result) ≡ pos m.steps = omega (arith, ints) in
    let whole : to_z w128 (of_z w128 (c.args.place *ℤ pos m.steps)) ≡ c.args.place *ℤ pos m.steps = omega (arith, ints, small) in
    rw (place, steps, whole) small

value : (c : After-nearest) → c.nearest.result ≡ spec.count c.args.self.now c.args.place
value c =
    let m = c.args.self.now in
    let small = parts_size m c.args.place c.requires (omega (arith, ints)) in
    let place : to_z w128 (of_z w128 c.from.result) ≡ c.args.place = omega (arith, ints) in
    let steps : to_z w128 (of_z w128 c.from-2.result) ≡ pos m.steps = omega (arith, ints) in
    let step : to_z w128 (of_z w128 c.from-3.result) ≡ pos m.nanometres = omega (arith, ints) in
    let whole : to_z w128 (of_z w128 (c.args.place *ℤ pos m.steps)) ≡ c.args.place *ℤ pos m.steps = omega (arith, ints, small) in
    rw (place, steps, step, whole) at c.nearest.ensures

pub returns-clause-value : goal.returns-clause-value
returns-clause-value c =
    let size = count_size c.args.self.now c.args.place c.requires (omega (arith, ints)) in
    rw (value c) (omega (arith, ints, size))

pub returns-clause-bound : goal.returns-clause-bound
returns-clause-bound c =
    let size = count_size c.args.self.now c.args.place c.requires (omega (arith, ints)) in
    rw (value c) (omega (arith, ints, size))
