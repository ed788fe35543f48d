use Rattle.ngc_material_report.specs.Sentences.{thin_fact}
use Rattle.ngc_material_report.proofs.untested.say_thin_fact.Goals as goal

pub returns : goal.returns
unfolding thin_fact
returns g c = rw (← c.tool_number.ensures, ← c.whole_tool_width.ensures) c.say.ensures
