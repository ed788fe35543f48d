use Rattle.ngc_sentences.proofs.Said.{then}
use Rattle.ngc_refused_files.specs.Refusals.{text_by}
use Rattle.ngc_refused_files.proofs.refusal.say_all.Goals as goal

pub returns : goal.returns
unfolding text_by
returns g c =
    rw (← c.subject_of.ensures, ← c.mark_of.ensures)
    (then (then (then (then (then (then c.say.ensures c.say_number.ensures) c.say-2.ensures) c.say_place.ensures) c.say_wrong.ensures) c.say-3.ensures) c.say_line.ensures)
