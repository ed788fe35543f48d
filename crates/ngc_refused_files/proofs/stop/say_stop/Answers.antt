use Rattle.ngc_sentences.proofs.Said.{then}
use Rattle.ngc_refused_files.specs.Stops.{text_at}
use Rattle.ngc_refused_files.proofs.stop.say_stop.Goals as goal

pub returns : goal.returns
unfolding text_at
returns g c = rw (← c.mark_at.ensures) (then (then c.say.ensures c.say_cause.ensures) c.say_below.ensures)
