use Rattle.ngc_sentences.proofs.Said.{then, says_as}
use Rattle.ngc_place_report.specs.Facts.{origin_fact}
use Rattle.ngc_place_report.proofs.facts.say_origin.Goals as goal

pub returns : goal.returns
unfolding origin_fact
returns g c = rw (← c.code_text.ensures) (then (then c.say.ensures (says_as c.say-2.ensures c.place.ensures)) c.say-3.ensures)
