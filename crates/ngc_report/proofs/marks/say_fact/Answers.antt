use Rattle.ngc_sentences.proofs.Said.{then}
use Rattle.ngc_report.proofs.marks.say_fact.Goals as goal

pub returns : goal.returns
returns g c =
    then (then c.say.ensures c.say_phrase.ensures) c.say-2.ensures
