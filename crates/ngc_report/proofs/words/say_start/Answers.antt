use Rattle.ngc_sentences.proofs.Said.{says_as, then}
use Rattle.ngc_report.proofs.words.say_start.Goals as goal

pub returns : goal.returns
returns g c =
    then (then c.say.ensures (says_as c.say-2.ensures c.place.ensures)) c.say-3.ensures
