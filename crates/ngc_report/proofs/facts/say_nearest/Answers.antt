use Rattle.ngc_report.specs.Facts.{nearest_fact}
use Rattle.ngc_report.proofs.facts.say_nearest.Goals as goal

pub returns-in-None : goal.returns-in-None
unfolding nearest_fact
returns-in-None g c =
    rw c.in-None.is c.say.ensures
