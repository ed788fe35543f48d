use Rattle.ngc_report.specs.Facts.{over_fact}
use Rattle.ngc_report.proofs.facts.say_over.Goals as goal

pub returns-in-Some : goal.returns-in-Some
unfolding over_fact
returns-in-Some g c =
    rw (c.in-Some.is, ← c.signed.ensures) c.say-in-Some.ensures
