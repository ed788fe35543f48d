-- The lines so far are said.
use Rattle.std.proofs.Common.{flat_map, take}
use Rattle.ngc_sentences.specs.Saying.{Says}
use Rattle.ngc_plain_program.specs.Programs.{kept_text}
use Rattle.ngc_plain_program.proofs.printing.say_lines.Given as goal

abbrev pub invariant-loop-line : goal.invariant-loop-line
invariant-loop-line g l =
    Says (g.W.Sink.written l.initial.output) (g.W.Sink.written l.output) (g.W.Sink.failures l.initial.output) (g.W.Sink.failures l.output)
    l.initial.page l.page (flat_map kept_text (take l.line-index l.lines))
