use Rattle.ngc_sentences.proofs.Said.{says_as, then}
use Rattle.ngc_report.proofs.facts.say_passed.Goals as goal

pub returns : goal.returns
returns g c =
    rw (← c.from.ensures)
    (then (then (then (then (then (then c.say.ensures c.say_name.ensures) c.say-2.ensures) (says_as c.say-3.ensures c.distances.ensures)) c.say-4.ensures)
    (says_as c.say-5.ensures c.distances-2.ensures)) c.say-6.ensures)
