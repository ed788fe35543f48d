use Rattle.ngc_sentences.proofs.Said.{then}
use Rattle.ngc_place_report.specs.Facts.{along_fact}
use Rattle.ngc_place_report.proofs.facts.say_along.Goals as goal

pub returns : goal.returns
unfolding along_fact
returns g c = rw (← c.axis_text.ensures) (then (then c.say.ensures c.say_finding.ensures) c.say_staying.ensures)
