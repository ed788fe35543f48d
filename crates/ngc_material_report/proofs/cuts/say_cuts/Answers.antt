use Rattle.std.proofs.lemmas.List.{get_or_default}
use Rattle.ngc_sentences.proofs.Said.{no_text, one_more, all_said}
use Rattle.ngc_material_report.specs.Sentences.{cut_text}
use Rattle.ngc_material_report.proofs.cuts.say_cuts.Goals as goal

pub loop-cut-init : goal.loop-cut-init
loop-cut-init g c = no_text _ _ _

pub loop-cut-preserved : goal.loop-cut-preserved
loop-cut-preserved g c =
    one_more (cut_text c.args.form c.args.tools.now) c.args.cuts.now c.loop-cut.cut-index _ c.loop-cut-test.true
    (get_or_default c.args.cuts.now c.loop-cut.cut-index _ _ c.loop-cut-test.true) c.loop-cut.invariant c.say_cut.ensures

pub returns : goal.returns
returns g c = all_said (cut_text c.args.form c.args.tools.now) c.args.cuts.now c.loop-cut.cut-index c.loop-cut-test.false c.loop-cut.invariant
