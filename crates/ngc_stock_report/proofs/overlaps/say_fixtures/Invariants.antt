use Rattle.std.proofs.Common.{drop}
use Rattle.ngc_machine_files.specs.Machine.{file_of}
use Rattle.ngc_sentences.proofs.Said.{IsLeft}
use Rattle.ngc_stock_report.specs.Overlaps.{fixtures_text}
use Rattle.ngc_stock_report.proofs.overlaps.say_fixtures.Given as goal

abbrev pub invariant-loop-i : goal.invariant-loop-i
invariant-loop-i g l =
    IsLeft (g.W.Sink.written l.initial.output) (g.W.Sink.written l.output) (g.W.Sink.failures l.initial.output) (g.W.Sink.failures l.output)
    l.initial.page l.page (fixtures_text l.form (file_of l.machine) l.block l.i (drop l.i l.fixtures))
    (fixtures_text l.form (file_of l.machine) l.block 0 l.fixtures)
