use Rattle.ngc_report.specs.Facts.{obstacle_fact}
use Rattle.ngc_report.proofs.facts.say_obstacle.Goals as goal

pub returns-in-None : goal.returns-in-None
unfolding obstacle_fact
returns-in-None g c =
    rw c.in-None.is c.say.ensures
