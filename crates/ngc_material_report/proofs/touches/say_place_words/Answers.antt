use Rattle.ngc_material_report.specs.Sentences.{place_words}
use Rattle.ngc_material_report.proofs.touches.say_place_words.Goals as goal

pub returns : goal.returns
unfolding place_words
returns g c = rw (← c.signed.ensures, ← c.millimetres.ensures, ← c.signed-2.ensures, ← c.millimetres-2.ensures) c.say.ensures
