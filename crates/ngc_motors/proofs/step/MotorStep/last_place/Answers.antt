use Rattle.std.proofs.Common.{◌≡◌, arith, pos, of_z, to_z, unsigned_abs, ◌≤◌}
use Rattle.std.specs.Int.{w64, w128}
use Rattle.std.proofs.lemmas.Int.{ints}
use Rattle.ngc_motors.specs.Counts as spec
use Rattle.ngc_motors.proofs.Ends.{last_range}
use Rattle.ngc_motors.proofs.step.MotorStep.last_place.Goals.{After-rounded_up}
use Rattle.ngc_motors.proofs.step.MotorStep.last_place.Goals as goal

value : (c : After-rounded_up) → c.rounded_up.result ≡ spec.last_place c.args.self.now c.args.high
value c =
    let m = c.args.self.now in
    let end : to_z w64 (of_z w64 c.args.high) ≡ c.args.high = omega (arith, ints) in
    let steps : to_z w128 (of_z w128 c.from.result) ≡ pos m.steps = omega (arith, ints) in
    let parts : to_z w128 (of_z w128 c.parts_down.result) ≡ c.parts_down.result = omega (arith, ints) in
    let is = rw end at c.parts_down.ensures.value in
    rw (parts, steps, is) at c.rounded_up.ensures

pub overflow_cast-result : goal.overflow_cast-result
overflow_cast-result c =
    let range = last_range c.args.self.now c.args.high c.requires.motor in
    rw (value c) (omega (arith, ints, range.0, range.1, c.requires.near))

pub returns : goal.returns
returns c =
    let range = last_range c.args.self.now c.args.high c.requires.motor in
    rw (value c) (omega (arith, ints, range.0, range.1, c.requires.near))
