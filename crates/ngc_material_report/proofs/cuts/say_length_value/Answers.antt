use Rattle.ngc_material_report.specs.Sentences.{length_value}
use Rattle.ngc_material_report.proofs.cuts.say_length_value.Goals as goal

pub returns : goal.returns
unfolding length_value
returns g c = rw (← c.whole_depth.ensures) c.say.ensures
