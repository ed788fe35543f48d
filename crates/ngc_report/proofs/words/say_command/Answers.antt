use Rattle.ngc_sentences.proofs.Said.{says_as, then}
use Rattle.ngc_report.proofs.words.say_command.Goals as goal

pub returns : goal.returns
returns g c =
    rw (← c.from.ensures)
    (then (then (then (then (then (then c.say.ensures c.say_called.ensures) c.say-2.ensures) (says_as c.say-3.ensures c.place.ensures)) c.say-4.ensures)
    (says_as c.say-5.ensures c.place-2.ensures)) c.say-6.ensures)
