use Rattle.std.proofs.Common.{◌≡◌, arith, pos, of_z, to_z, unsigned_abs, ◌≤◌, ◌*◌, ◌*ℤ◌}
use Rattle.std.specs.Int.{w64, w128}
use Rattle.std.proofs.lemmas.Int.{ints}
use Rattle.ngc_motors.specs.Counts.{count}
use Rattle.ngc_motors.proofs.Sizes.{product_size}
use Rattle.ngc_motors.proofs.step.MotorStep.commanded_parts.Goals.{After-from}
use Rattle.ngc_motors.proofs.step.MotorStep.commanded_parts.Goals as goal

value : (c : After-from) → c.count.result ≡ count c.args.self.now c.args.place
value c =
    let end : to_z w64 (of_z w64 c.args.place) ≡ c.args.place = omega (arith, ints) in
    rw end at c.count.ensures.value

size : (c : After-from) → unsigned_abs (count c.args.self.now c.args.place *ℤ pos c.args.self.now.nanometres) ≤ 9223372036854775809 * 1099511627776
size c =
    let bound : unsigned_abs (count c.args.self.now c.args.place) ≤ 9223372036854775809 = rw (← value c) c.count.ensures.bound in
    product_size (count c.args.self.now c.args.place) c.args.self.now.nanometres 9223372036854775809 1099511627776 bound c.requires.greatest

pub overflow_mul-result : goal.overflow_mul-result
overflow_mul-result c =
    let s = size c in
    let is : to_z w128 (of_z w128 c.count.result) ≡ count c.args.self.now c.args.place = omega (arith, ints, value c) in
    let nanometres : to_z w128 (of_z w128 c.from.result) ≡ pos c.args.self.now.nanometres = omega (arith, ints) in
    rw (is, nanometres) (omega (arith, ints, s))

pub returns-clause-value : goal.returns-clause-value
returns-clause-value c =
    let s = size c in
    let is : to_z w128 (of_z w128 c.count.result) ≡ count c.args.self.now c.args.place = omega (arith, ints, value c) in
    let nanometres : to_z w128 (of_z w128 c.from.result) ≡ pos c.args.self.now.nanometres = omega (arith, ints) in
    rw (is, nanometres) (omega (arith, ints, s))

pub returns-clause-bound : goal.returns-clause-bound
returns-clause-bound c =
    let s = size c in
    let is : to_z w128 (of_z w128 c.count.result) ≡ count c.args.self.now c.args.place = omega (arith, ints, value c) in
    let nanometres : to_z w128 (of_z w128 c.from.result) ≡ pos c.args.self.now.nanometres = omega (arith, ints) in
    rw (is, nanometres) (omega (arith, ints, s))
