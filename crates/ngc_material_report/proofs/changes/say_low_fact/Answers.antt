use Rattle.ngc_sentences.proofs.Said.{then}
use Rattle.ngc_material_report.specs.Sentences.{low_fact}
use Rattle.ngc_material_report.proofs.changes.say_low_fact.Goals as goal

pub returns : goal.returns
unfolding low_fact
returns g c = then c.say.ensures (then c.say_command_fact.ensures (rw (← c.whole_depth.ensures) c.say-2.ensures))
