use Rattle.ngc_sentences.proofs.Said.{then}
use Rattle.ngc_refused_values.proofs.texts.say_fact.Goals as goal

pub returns : goal.returns
returns g c = then (then (then (then c.begin_fact.ensures c.say.ensures) c.say-2.ensures) c.say-3.ensures) c.say-4.ensures
