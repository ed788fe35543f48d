use Rattle.std.proofs.Common.{◌≡◌, arith, pos, of_z, to_z, ◌*ℤ◌}
use Rattle.std.specs.Int.{w128}
use Rattle.std.proofs.lemmas.Int.{ints}
use Rattle.ngc_motors.specs.Counts as spec
use Rattle.ngc_motors.proofs.Ends.{down_size}
use Rattle.ngc_motors.proofs.Sizes.{parts_size}
use Rattle.ngc_motors.proofs.step.MotorStep.parts_down.Goals.{After-div_euclid}
use Rattle.ngc_motors.proofs.step.MotorStep.parts_down.Goals as goal

pub overflow_mul-parts : goal.overflow_mul-parts
overflow_mul-parts c =
    let m = c.args.self.now in
    let small = parts_size m c.args.place c.requires (omega (arith, ints)) in
    let place : to_z w128 (of_z w128 c.from.result) ≡ c.args.place = omega (arith, ints) in
    let steps : to_z w128 (of_z w128 c.from-2.result) ≡ pos m.steps = omega (arith, ints) in
    rw (place, steps) (omega (arith, ints, small))

value : (c : After-div_euclid) → c.div_euclid.result ≡ spec.count_down c.args.self.now c.args.place
value c =
    let m = c.args.self.now in
    let small = parts_size m c.args.place c.requires (omega (arith, ints)) in
    let place : to_z w128 (of_z w128 c.from.result) ≡ c.args.place = omega (arith, ints) in
    let steps : to_z w128 (of_z w128 c.from-2.result) ≡ pos m.steps = omega (arith, ints) in
    let nanometres : to_z w128 (of_z w128 c.from-nanometres.result) ≡ pos m.nanometres = omega (arith, ints) in
    let whole : to_z w128 (of_z w128 (c.args.place *ℤ pos m.steps)) ≡ c.args.place *ℤ pos m.steps = omega (arith, ints, small) in
    rw (place, steps, nanometres, whole) at c.div_euclid.ensures

pub overflow_mul-result : goal.overflow_mul-result
overflow_mul-result c =
    let m = c.args.self.now in
    let size = down_size m c.args.place c.requires (omega (arith, ints)) in
    let count : to_z w128 (of_z w128 c.div_euclid.result) ≡ spec.count_down m c.args.place = omega (arith, ints, value c) in
    let nanometres : to_z w128 (of_z w128 c.from-nanometres.result) ≡ pos m.nanometres = omega (arith, ints) in
    rw (count, nanometres) (omega (arith, ints, size))

pub returns-clause-value : goal.returns-clause-value
returns-clause-value c =
    let m = c.args.self.now in
    let size = down_size m c.args.place c.requires (omega (arith, ints)) in
    let count : to_z w128 (of_z w128 c.div_euclid.result) ≡ spec.count_down m c.args.place = omega (arith, ints, value c) in
    let nanometres : to_z w128 (of_z w128 c.from-nanometres.result) ≡ pos m.nanometres = omega (arith, ints) in
    rw (count, nanometres) (omega (arith, ints, size))

pub returns-clause-bound : goal.returns-clause-bound
returns-clause-bound c =
    let m = c.args.self.now in
    let size = down_size m c.args.place c.requires (omega (arith, ints)) in
    let count : to_z w128 (of_z w128 c.div_euclid.result) ≡ spec.count_down m c.args.place = omega (arith, ints, value c) in
    let nanometres : to_z w128 (of_z w128 c.from-nanometres.result) ≡ pos m.nanometres = omega (arith, ints) in
    rw (count, nanometres) (omega (arith, ints, size))
