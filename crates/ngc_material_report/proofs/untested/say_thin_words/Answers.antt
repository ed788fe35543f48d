use Rattle.ngc_material_report.specs.Sentences.{thin_words}
use Rattle.ngc_material_report.proofs.untested.say_thin_words.Goals as goal

pub returns : goal.returns
unfolding thin_words
returns g c = rw (← c.tool_number.ensures, ← c.tool_width.ensures, ← c.width.ensures) c.say.ensures
