use Rattle.ngc_sentences.proofs.Said.{then}
use Rattle.ngc_report.proofs.facts.say_inward.Goals as goal

pub returns : goal.returns
returns g c =
    rw (← c.axis_name.ensures, ← c.away.ensures) (then c.say.ensures c.say_shift.ensures)
