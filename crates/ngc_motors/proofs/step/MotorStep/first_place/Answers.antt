use Rattle.std.proofs.Common.{◌≡◌, arith, pos, of_z, to_z, unsigned_abs, ◌≤◌}
use Rattle.std.specs.Int.{w64, w128}
use Rattle.std.proofs.lemmas.Int.{ints}
use Rattle.ngc_motors.specs.Counts as spec
use Rattle.ngc_motors.proofs.Ends.{first_range}
use Rattle.ngc_motors.proofs.step.MotorStep.first_place.Goals.{After-div_euclid}
use Rattle.ngc_motors.proofs.step.MotorStep.first_place.Goals as goal

value : (c : After-div_euclid) → c.div_euclid.result ≡ spec.first_place c.args.self.now c.args.low
value c =
    let m = c.args.self.now in
    let end : to_z w64 (of_z w64 c.args.low) ≡ c.args.low = omega (arith, ints) in
    let steps : to_z w128 (of_z w128 c.from.result) ≡ pos m.steps = omega (arith, ints) in
    let parts : to_z w128 (of_z w128 c.parts_up.result) ≡ c.parts_up.result = omega (arith, ints) in
    let is = rw end at c.parts_up.ensures.value in
    rw (parts, steps, is) at c.div_euclid.ensures

pub overflow_cast-result : goal.overflow_cast-result
overflow_cast-result c =
    let range = first_range c.args.self.now c.args.low c.requires.motor in
    rw (value c) (omega (arith, ints, range.0, range.1, c.requires.near))

pub returns : goal.returns
returns c =
    let range = first_range c.args.self.now c.args.low c.requires.motor in
    rw (value c) (omega (arith, ints, range.0, range.1, c.requires.near))
