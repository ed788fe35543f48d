use Rattle.std.proofs.Common.{◌≡◌, ◌*ℤ◌, of_z, to_z, arith, ap, sym, ◌∙◌, ℤ, Bool}
use Rattle.std.specs.Int.{w32, w64}
use Rattle.std.proofs.lemmas.Int.{ints}
use Rattle.ngc_motors.specs.Counts as spec
use Rattle.ngc_motors.proofs.Sizes.{IsPlace, count_place, count_same, motor_step, place_small}
use Rattle.ngc_motors.proofs.motors.count.Goals.{After-count}
use Rattle.ngc_motors.proofs.motors.count.Goals as goal

pub returns-then-is_grid_step : goal.returns-then-is_grid_step
returns-then-is_grid_step c =
    let back : to_z w32 (of_z w32 c.args.place) ≡ c.args.place = omega (arith, ints) in
    let unit : to_z w64 (of_z w64 c.nanometres-unit.result) ≡ c.args.grid = omega (arith, ints) in
    let G : ℤ → Bool = λ g. spec.is_grid_step g c.args.step.now in
    let same = sym (ap G unit) ∙ sym c.is_grid_step.ensures ∙ c.if-is_grid_step.true in
    back ∙ sym (count_same c.args.place c.args.grid c.args.step.now c.requires.grid same)

pub overflow_mul-from : goal.overflow_mul-from
overflow_mul-from c =
    let is_place : IsPlace c.args.place = record { least = omega (arith, ints); greatest = omega (arith, ints) } in
    let small = place_small c.args.place c.args.grid is_place c.requires.grid in
    let place : to_z w64 (of_z w64 c.from.result) ≡ c.args.place = omega (arith, ints) in
    let grid : to_z w64 (of_z w64 c.nanometres-unit.result) ≡ c.args.grid = omega (arith, ints) in
    rw (place, grid) (omega (arith, ints, small))

pub count-requires : goal.count-requires
count-requires c = motor_step c.args.grid c.args.step.now c.requires.grid c.requires.motor

value : (c : After-count) → c.count.result ≡ spec.count c.args.step.now (c.args.place *ℤ c.args.grid)
value c =
    let is_place : IsPlace c.args.place = record { least = omega (arith, ints); greatest = omega (arith, ints) } in
    let small = place_small c.args.place c.args.grid is_place c.requires.grid in
    let place : to_z w64 (of_z w64 c.from.result) ≡ c.args.place = omega (arith, ints) in
    let grid : to_z w64 (of_z w64 c.nanometres-unit.result) ≡ c.args.grid = omega (arith, ints) in
    let whole : to_z w64 (of_z w64 (c.args.place *ℤ c.args.grid)) ≡ c.args.place *ℤ c.args.grid = omega (arith, ints, small) in
    rw (place, grid, whole) at c.count.ensures.value

pub overflow_cast-result : goal.overflow_cast-result
overflow_cast-result c =
    let is_place : IsPlace c.args.place = record { least = omega (arith, ints); greatest = omega (arith, ints) } in
    let small = count_place c.args.place c.args.grid c.args.step.now is_place c.requires.grid c.requires.motor in
    rw (value c) (omega (arith, ints, small.least, small.greatest))

pub returns : goal.returns
returns c =
    let is_place : IsPlace c.args.place = record { least = omega (arith, ints); greatest = omega (arith, ints) } in
    let small = count_place c.args.place c.args.grid c.args.step.now is_place c.requires.grid c.requires.motor in
    rw (value c) (omega (arith, ints, small.least, small.greatest))
