use Rattle.std.proofs.Common.{true, false, arith, sym, ◌∙◌}
use Rattle.ngc_machine_files.specs.Machine.{file_of}
use Rattle.ngc_place.proofs.GrowingIntervals.{next_program, no_program}
use Rattle.ngc_place.proofs.programs.all_hold.Goals as goal

pub loop-program-preserved : goal.loop-program-preserved
loop-program-preserved g c =
    c.loop-program.invariant
    ∙ next_program (file_of c.args.machine.now) c.args.cuts c.args.shifts.now c.args.programs.now c.loop-program.program-index c.program-item.result
    c.holds.result true c.loop-program-test.true c.program-item.is c.holds.ensures c.if-not-holds.false

pub returns-then-not-holds : goal.returns-then-not-holds
returns-then-not-holds g c =
    sym (c.loop-program.invariant
    ∙ next_program (file_of c.args.machine.now) c.args.cuts c.args.shifts.now c.args.programs.now c.loop-program.program-index c.program-item.result
    c.holds.result false c.loop-program-test.true c.program-item.is c.holds.ensures c.if-not-holds.true)

pub returns : goal.returns
returns g c =
    sym (c.loop-program.invariant
    ∙ no_program (file_of c.args.machine.now) c.args.cuts c.args.shifts.now c.args.programs.now c.loop-program.program-index
    (omega (arith, c.loop-program-test.false)))
