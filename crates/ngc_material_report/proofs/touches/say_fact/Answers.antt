use Rattle.ngc_sentences.proofs.Said.{then}
use Rattle.ngc_material_report.specs.Sentences.{touch_fact}
use Rattle.ngc_material_report.proofs.touches.say_fact.Goals as goal

pub returns : goal.returns
unfolding touch_fact
returns g c = then c.say_kind_fact.ensures (then c.say_command_fact.ensures (then c.say_depth_fact.ensures c.say_place_fact.ensures))
