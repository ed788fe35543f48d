use Rattle.std.proofs.Common.{drop}
use Rattle.ngc_machine_files.specs.Machine.{file_of}
use Rattle.ngc_sentences.proofs.Said.{IsLeft}
use Rattle.ngc_setup_sheet.specs.Sheets.{fixtures_from}
use Rattle.ngc_setup_sheet.specs.Spelling.{lines_text}
use Rattle.ngc_setup_sheet.specs.Writes.{chosen}
use Rattle.ngc_setup_sheet.proofs.warned.warn_of_fixtures.Given as goal

abbrev pub invariant-loop-i : goal.invariant-loop-i
invariant-loop-i g l =
    IsLeft (g.W.Sink.written l.initial.output) (g.W.Sink.written l.output) (g.W.Sink.failures l.initial.output) (g.W.Sink.failures l.output)
    l.initial.page l.page
    (lines_text (chosen l.style (fixtures_from (file_of l.machine) l.written l.reach l.i (drop l.i l.machine.fixtures.items))))
    (lines_text (chosen l.style (fixtures_from (file_of l.machine) l.written l.reach 0 l.machine.fixtures.items)))
