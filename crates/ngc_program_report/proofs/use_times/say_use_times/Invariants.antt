use Rattle.std.proofs.Common.{length}
use Rattle.ngc_findings.specs.Uses.{uses_left}
use Rattle.ngc_sentences.proofs.Said.{IsLeft}
use Rattle.ngc_program_report.specs.Times.{use_times, uses_text}
use Rattle.ngc_program_report.proofs.use_times.say_use_times.Given as goal

abbrev pub invariant-loop-tool : goal.invariant-loop-tool
invariant-loop-tool g l =
    IsLeft (g.W.Sink.written l.initial.output) (g.W.Sink.written l.output) (g.W.Sink.failures l.initial.output) (g.W.Sink.failures l.output)
    l.initial.page l.page (use_times l.form l.time.whole (uses_left l.uses) l.left) (uses_text l.form l.commands l.time)

abbrev pub decreases-loop-tool : goal.decreases-loop-tool
decreases-loop-tool g l = length (uses_left l.uses)
