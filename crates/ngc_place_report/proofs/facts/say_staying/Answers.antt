use Rattle.ngc_place_report.specs.Facts.{staying_fact}
use Rattle.ngc_place_report.proofs.facts.say_staying.Goals as goal

pub returns-in-None : goal.returns-in-None
unfolding staying_fact
returns-in-None g c = rw c.in-None.is c.say.ensures

pub returns-in-Some : goal.returns-in-Some
unfolding staying_fact
returns-in-Some g c = rw (c.in-Some.is, ← c.from.ensures) c.say-in-Some.ensures
