use Rattle.ngc_material_report.specs.Sentences.{place_fact}
use Rattle.ngc_material_report.proofs.touches.say_place_fact.Goals as goal

pub returns : goal.returns
unfolding place_fact
returns g c = rw (← c.signed.ensures, ← c.nanometres.ensures, ← c.signed-2.ensures, ← c.nanometres-2.ensures) c.say.ensures
