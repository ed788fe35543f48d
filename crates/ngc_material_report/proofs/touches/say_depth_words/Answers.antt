use Rattle.ngc_material_report.specs.Sentences.{depth_words}
use Rattle.ngc_material_report.proofs.touches.say_depth_words.Goals as goal

pub returns : goal.returns
unfolding depth_words
returns g c = rw (← c.bound.ensures, ← c.size.ensures) c.say.ensures
