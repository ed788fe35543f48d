use Rattle.ngc_material_report.specs.Sentences.{length_words}
use Rattle.ngc_material_report.proofs.cuts.say_length.Goals as goal

pub returns : goal.returns
unfolding length_words
returns g c = rw (← c.depth.ensures) c.say.ensures
