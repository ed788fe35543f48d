use Rattle.ngc_sentences.proofs.Said.{then, says_as}
use Rattle.ngc_origins.specs.Lines.{origin_fact}
use Rattle.ngc_origins.proofs.report_lines.say_fact.Goals as goal

pub returns : goal.returns
unfolding origin_fact
returns g c = rw (← c.code.ensures) (then (then c.say.ensures (says_as c.say-2.ensures c.place.ensures)) c.say-3.ensures)
