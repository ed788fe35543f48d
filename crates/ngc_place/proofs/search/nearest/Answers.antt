use Rattle.std.proofs.Common.{arith, ◌∙◌, ◌≡◌, to_z, of_z}
use Rattle.std.specs.Int.{w32}
use Rattle.std.proofs.lemmas.Int.{ints}
use Rattle.ngc_machine_files.specs.Machine.{file_of}
use Rattle.ngc_place.proofs.GrowingIntervals.{found_law}
use Rattle.ngc_place.proofs.TriedShifts.{not_there, nowhere, first_found}
use Rattle.ngc_place.proofs.search.nearest.Goals as goal

pub returns-in-Some-clause-nearest : goal.returns-in-Some-clause-nearest
returns-in-Some-clause-nearest g c =
    let kept : to_z w32 (of_z w32 c.shift_at-shift.result) ≡ c.shift_at-shift.result = omega (arith, ints, c.shift_at-shift.ensures.limit) in
    first_found (file_of c.args.machine.now) c.args.cuts c.args.axis c.args.programs.now c.loop-index.index c.shift_at-shift.result c.first_side.result
    c.in-Some.found c.loop-index-test.true c.shift_at-shift.ensures.value c.loop-index.invariant (rw kept at c.first_side.ensures) (rw kept at c.in-Some.ensures)

pub returns-in-Some-clause-found : goal.returns-in-Some-clause-found
returns-in-Some-clause-found g c =
    found_law (file_of c.args.machine.now) c.args.cuts c.args.axis c.args.programs.now _ _ c.in-Some.found c.args.machine.now.step_in_range c.requires
    (omega (arith, c.ranges.cuts.fits)) c.in-Some.ensures

pub loop-index-preserved : goal.loop-index-preserved
loop-index-preserved g c =
    let kept : to_z w32 (of_z w32 c.shift_at-shift.result) ≡ c.shift_at-shift.result = omega (arith, ints, c.shift_at-shift.ensures.limit) in
    c.loop-index.invariant
    ∙ not_there (file_of c.args.machine.now) c.args.cuts c.args.axis c.args.programs.now c.loop-index.index c.shift_at-shift.result c.loop-index-test.true
    c.shift_at-shift.ensures.value (rw kept at c.in-None.ensures)

pub returns-clause-nearest : goal.returns-clause-nearest
returns-clause-nearest g c =
    nowhere (file_of c.args.machine.now) c.args.cuts c.args.axis c.args.programs.now c.loop-index.index (omega (arith, c.loop-index-test.false))
    c.loop-index.invariant
