use Rattle.ngc_sentences.proofs.Said.{says_as, then}
use Rattle.ngc_report.proofs.words.say_side.Goals as goal

pub returns : goal.returns
returns g c =
    rw (← c.side_name.ensures, ← c.axis_name.ensures)
    (then (then c.say.ensures (says_as c.say-2.ensures c.space.ensures)) c.say-3.ensures)
