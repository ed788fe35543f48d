use Rattle.std.proofs.Common.{flat_map, take}
use Rattle.ngc_sentences.specs.Saying.{Says}
use Rattle.ngc_material_report.specs.Sentences.{thin_text}
use Rattle.ngc_material_report.proofs.untested.say_tools.Given as goal

abbrev pub invariant-loop-tool : goal.invariant-loop-tool
invariant-loop-tool g l =
    Says (g.W.Sink.written l.initial.output) (g.W.Sink.written l.output) (g.W.Sink.failures l.initial.output) (g.W.Sink.failures l.output)
    l.initial.page l.page (flat_map (thin_text l.form l.grid) (take l.tool-index l.tools))
