use Rattle.ngc_material_report.specs.Sentences.{depth_sentence}
use Rattle.ngc_material_report.proofs.cuts.say_depth.Goals as goal

pub returns : goal.returns
unfolding depth_sentence
returns g c = rw (← c.number.ensures, ← c.number-2.ensures, ← c.depth.ensures) c.say.ensures
