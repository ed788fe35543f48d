use Rattle.ngc_material_report.specs.Sentences.{command_fact}
use Rattle.ngc_material_report.proofs.parts.say_command_fact.Goals as goal

pub returns : goal.returns
unfolding command_fact
returns g c = rw (← c.number.ensures, ← c.index.ensures, ← c.number-2.ensures) c.say.ensures
