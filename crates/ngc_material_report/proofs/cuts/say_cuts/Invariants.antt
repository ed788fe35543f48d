use Rattle.std.proofs.Common.{flat_map, take}
use Rattle.ngc_sentences.specs.Saying.{Says}
use Rattle.ngc_material_report.specs.Sentences.{cut_text}
use Rattle.ngc_material_report.proofs.cuts.say_cuts.Given as goal

abbrev pub invariant-loop-cut : goal.invariant-loop-cut
invariant-loop-cut g l =
    Says (g.W.Sink.written l.initial.output) (g.W.Sink.written l.output) (g.W.Sink.failures l.initial.output) (g.W.Sink.failures l.output)
    l.initial.page l.page (flat_map (cut_text l.form l.tools) (take l.cut-index l.cuts))
