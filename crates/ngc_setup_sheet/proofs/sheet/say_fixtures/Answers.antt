use Rattle.std.proofs.Common.{refl}
use Rattle.ngc_machine_files.specs.Machine.{file_of}
use Rattle.ngc_sentences.proofs.Said.{all_left, less_left}
use Rattle.ngc_setup_sheet.proofs.RemainingText.{next_fixture_text}
use Rattle.ngc_setup_sheet.proofs.sheet.say_fixtures.Goals as goal

pub loop-i-init : goal.loop-i-init
loop-i-init g c = all_left _ _ _ refl

pub loop-i-preserved : goal.loop-i-preserved
loop-i-preserved g c =
    less_left _ _
    (next_fixture_text (file_of c.args.machine.now) c.args.written.now c.args.reach.now (file_of c.args.machine.now).fixtures c.loop-i.i c.fixture-item.result
    (rw c.as_slice-fixture-items.ensures.value at c.loop-i-test.true)
    (rw c.as_slice-fixture-items.ensures.value at c.fixture-item.is)) c.loop-i.invariant
    (rw (c.as_slice.ensures.value, c.fixture_lines-lines.ensures) at c.say_lines.ensures)
