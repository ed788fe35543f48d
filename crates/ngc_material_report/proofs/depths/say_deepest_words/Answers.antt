use Rattle.ngc_material_report.specs.Sentences.{deepest_words}
use Rattle.ngc_material_report.proofs.depths.say_deepest_words.Goals as goal

pub returns : goal.returns
unfolding deepest_words
returns g c = rw (← c.number.ensures, ← c.number-2.ensures, ← c.depth.ensures) c.say.ensures
