use Rattle.ngc_place_report.specs.Facts.{interval_fact}
use Rattle.ngc_place_report.proofs.facts.say_interval.Goals as goal

pub returns : goal.returns
unfolding interval_fact
returns g c = rw (← c.length.ensures, ← c.length-2.ensures) c.say.ensures
