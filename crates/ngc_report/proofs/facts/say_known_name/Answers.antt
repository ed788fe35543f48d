use Rattle.ngc_sentences.proofs.Said.{then}
use Rattle.ngc_report.proofs.facts.say_known_name.Goals as goal

pub returns : goal.returns
returns g c =
    then (then c.say.ensures c.say_string.ensures) c.say-2.ensures
