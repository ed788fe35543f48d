use Rattle.std.proofs.lemmas.List.{get_or_default}
use Rattle.ngc_sentences.proofs.Said.{no_text, one_more, all_said}
use Rattle.ngc_material_report.specs.Sentences.{touch_words}
use Rattle.ngc_material_report.proofs.touches.say_all_words.Goals as goal

pub loop-found-init : goal.loop-found-init
loop-found-init g c = no_text _ _ _

pub loop-found-preserved : goal.loop-found-preserved
loop-found-preserved g c =
    one_more (touch_words c.args.origin.now c.args.tools.now c.args.kind) c.args.all.now c.loop-found.found-index _ c.loop-found-test.true
    (get_or_default c.args.all.now c.loop-found.found-index _ _ c.loop-found-test.true) c.loop-found.invariant c.say_words.ensures

pub returns : goal.returns
returns g c = all_said (touch_words c.args.origin.now c.args.tools.now c.args.kind) c.args.all.now c.loop-found.found-index c.loop-found-test.false c.loop-found.invariant
