use Rattle.std.proofs.lemmas.List.{get_or_default}
use Rattle.ngc_sentences.proofs.Said.{no_text, one_more, all_said}
use Rattle.ngc_material_report.specs.Sentences.{traverse_words}
use Rattle.ngc_material_report.proofs.touches.say_traverses_words.Goals as goal

pub loop-traverse-init : goal.loop-traverse-init
loop-traverse-init g c = no_text _ _ _

pub loop-traverse-preserved : goal.loop-traverse-preserved
loop-traverse-preserved g c =
    one_more (traverse_words c.args.origin.now c.args.tools.now) c.args.all.now c.loop-traverse.traverse-index _ c.loop-traverse-test.true
    (get_or_default c.args.all.now c.loop-traverse.traverse-index _ _ c.loop-traverse-test.true) c.loop-traverse.invariant c.say_traverse_words.ensures

pub returns : goal.returns
returns g c = all_said (traverse_words c.args.origin.now c.args.tools.now) c.args.all.now c.loop-traverse.traverse-index c.loop-traverse-test.false c.loop-traverse.invariant
