use Rattle.ngc_material_report.specs.Sentences.{low_words}
use Rattle.ngc_material_report.proofs.changes.say_low_words.Goals as goal

pub returns : goal.returns
unfolding low_words
returns g c = rw (← c.number.ensures, ← c.number-2.ensures, ← c.depth.ensures) c.say.ensures
