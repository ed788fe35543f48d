use Rattle.ngc_sentences.proofs.Said.{then}
use Rattle.ngc_material_report.specs.Sentences.{depth_values}
use Rattle.ngc_material_report.proofs.cuts.say_depth_values.Goals as goal

pub returns : goal.returns
unfolding depth_values
returns g c = then c.say.ensures (then c.say_command_fact.ensures (rw (← c.whole_depth.ensures) c.say-2.ensures))
