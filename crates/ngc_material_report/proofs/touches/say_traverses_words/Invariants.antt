use Rattle.std.proofs.Common.{flat_map, take}
use Rattle.ngc_sentences.specs.Saying.{Says}
use Rattle.ngc_material_report.specs.Sentences.{traverse_words}
use Rattle.ngc_material_report.proofs.touches.say_traverses_words.Given as goal

abbrev pub invariant-loop-traverse : goal.invariant-loop-traverse
invariant-loop-traverse g l =
    Says (g.W.Sink.written l.initial.output) (g.W.Sink.written l.output) (g.W.Sink.failures l.initial.output) (g.W.Sink.failures l.output)
    l.initial.page l.page (flat_map (traverse_words l.origin l.tools) (take l.traverse-index l.all))
