use Rattle.ngc_sentences.proofs.Said.{no_text, one_more, all_said}
use Rattle.ngc_material_report.specs.Sentences.{thin_text}
use Rattle.ngc_material_report.proofs.untested.say_tools.Goals as goal

pub loop-tool-init : goal.loop-tool-init
loop-tool-init g c = no_text _ _ _

pub loop-tool-preserved : goal.loop-tool-preserved
loop-tool-preserved g c =
    one_more (thin_text c.args.form c.args.grid.now) c.args.tools.now c.loop-tool.tool-index c.tool-item.result c.loop-tool-test.true c.tool-item.is c.loop-tool.invariant
    c.say_tool.ensures

pub returns : goal.returns
returns g c = all_said (thin_text c.args.form c.args.grid.now) c.args.tools.now c.loop-tool.tool-index c.loop-tool-test.false c.loop-tool.invariant
