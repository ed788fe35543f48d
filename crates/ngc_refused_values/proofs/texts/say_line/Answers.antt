use Rattle.ngc_sentences.proofs.Said.{then}
use Rattle.ngc_refused_values.proofs.texts.say_line.Goals as goal

pub returns : goal.returns
returns g c = then c.say.ensures c.say-2.ensures
