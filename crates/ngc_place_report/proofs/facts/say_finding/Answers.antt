use Rattle.ngc_place_report.specs.Facts.{finding_fact}
use Rattle.ngc_place_report.proofs.facts.say_finding.Goals as goal

pub returns-in-Unmoved : goal.returns-in-Unmoved
unfolding finding_fact
returns-in-Unmoved g c = rw c.in-Unmoved.is c.say.ensures

pub returns-in-Nowhere : goal.returns-in-Nowhere
unfolding finding_fact
returns-in-Nowhere g c = rw c.in-Nowhere.is c.say-in-Nowhere.ensures
