use Rattle.ngc_sentences.proofs.Said.{says_as, then}
use Rattle.ngc_report.proofs.words.say_along.Goals as goal

pub returns : goal.returns
returns g c =
    then (then (then (then (says_as c.say.ensures c.along.ensures) (says_as c.say-2.ensures c.space.ensures)) c.say-3.ensures)
    (says_as c.say-4.ensures c.space-2.ensures)) c.say-5.ensures
