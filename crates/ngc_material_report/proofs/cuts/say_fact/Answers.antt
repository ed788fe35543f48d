use Rattle.ngc_sentences.proofs.Said.{then}
use Rattle.ngc_material_report.specs.Sentences.{cut_fact}
use Rattle.ngc_material_report.proofs.cuts.say_fact.Goals as goal

pub returns : goal.returns
unfolding cut_fact
returns g c = then c.say_depth_values.ensures (then (rw (← c.short_cutter.ensures) c.say_short_value.ensures) c.say.ensures)
