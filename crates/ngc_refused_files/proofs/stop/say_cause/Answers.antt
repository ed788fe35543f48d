use Rattle.ngc_sentences.proofs.Said.{then}
use Rattle.ngc_refused_files.specs.Stops.{cause_text}
use Rattle.ngc_refused_files.proofs.stop.say_cause.Goals as goal

pub returns : goal.returns
unfolding cause_text
returns g c = rw (← c.lacks_quotes.ensures) (then (then c.say.ensures c.say_hint.ensures) c.say-2.ensures)
