use Rattle.ngc_material_report.specs.Sentences.{range_words}
use Rattle.ngc_material_report.proofs.depths.say_range_words.Goals as goal

pub returns : goal.returns
unfolding range_words
returns g c = rw (← c.number.ensures, ← c.number-2.ensures) c.say.ensures
