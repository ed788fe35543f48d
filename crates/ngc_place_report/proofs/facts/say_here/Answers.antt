use Rattle.ngc_place_report.specs.Facts.{here_fact}
use Rattle.ngc_place_report.proofs.facts.say_here.Goals as goal

pub returns-in-Fits : goal.returns-in-Fits
unfolding here_fact
returns-in-Fits g c = rw c.in-Fits.is c.say.ensures

pub returns-in-NotCleared : goal.returns-in-NotCleared
unfolding here_fact
returns-in-NotCleared g c = rw (c.in-NotCleared.is, ← c.setting_fact.ensures, ← c.from.ensures) c.say-in-NotCleared.ensures
