use Rattle.ngc_sentences.proofs.Said.{then}
use Rattle.ngc_simulator.specs.Mistaken.{mistake_fact}
use Rattle.ngc_simulator.proofs.mistaken_files.say_fact.Goals as goal

pub returns : goal.returns
unfolding mistake_fact
returns g c = then (then c.say.ensures c.say_quoted.ensures) c.say-2.ensures
