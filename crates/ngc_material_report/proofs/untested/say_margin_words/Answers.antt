use Rattle.ngc_material_report.specs.Sentences.{margin_words}
use Rattle.ngc_material_report.proofs.untested.say_margin_words.Goals as goal

pub returns : goal.returns
unfolding margin_words
returns g c = rw (← c.tested.ensures, ← c.rounded_margin.ensures) c.say.ensures
