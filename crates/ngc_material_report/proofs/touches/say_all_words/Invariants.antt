use Rattle.std.proofs.Common.{flat_map, take}
use Rattle.ngc_sentences.specs.Saying.{Says}
use Rattle.ngc_material_report.specs.Sentences.{touch_words}
use Rattle.ngc_material_report.proofs.touches.say_all_words.Given as goal

abbrev pub invariant-loop-found : goal.invariant-loop-found
invariant-loop-found g l =
    Says (g.W.Sink.written l.initial.output) (g.W.Sink.written l.output) (g.W.Sink.failures l.initial.output) (g.W.Sink.failures l.output)
    l.initial.page l.page (flat_map (touch_words l.origin l.tools l.kind) (take l.found-index l.all))
