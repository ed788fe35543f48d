use Rattle.ngc_place_report.specs.Facts.{shift_fact}
use Rattle.ngc_place_report.proofs.facts.say_shift.Goals as goal

pub returns : goal.returns
unfolding shift_fact
returns g c = rw (← c.length.ensures, ← c.axis_text.ensures) c.say.ensures
