use Rattle.ngc_material_report.specs.Sentences.{number_words}
use Rattle.ngc_material_report.proofs.touches.say_number.Goals as goal

pub returns : goal.returns
unfolding number_words
returns g c = rw (← c.index.ensures, ← c.motion.ensures, ← c.number.ensures) c.say.ensures
