use Rattle.std.proofs.Common.{refl}
use Rattle.ngc_machine_files.specs.Machine.{file_of}
use Rattle.ngc_sentences.proofs.Said.{all_left, less_left}
use Rattle.ngc_stock_report.proofs.Remaining.{next_fixture}
use Rattle.ngc_stock_report.proofs.overlaps.say_fixtures.Goals as goal

pub loop-i-init : goal.loop-i-init
loop-i-init g c = all_left _ _ _ refl

pub loop-i-preserved : goal.loop-i-preserved
loop-i-preserved g c =
    less_left _ _
    (next_fixture c.args.form (file_of c.args.machine.now) c.args.block.now c.args.fixtures.now c.loop-i.i c.index-fixtures-i.result c.loop-i-test.true c.index-fixtures-i.is)
    c.loop-i.invariant c.say_fixture.ensures
