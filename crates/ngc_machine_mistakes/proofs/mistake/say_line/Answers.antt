use Rattle.ngc_sentences.proofs.Said.{then}
use Rattle.ngc_machine_mistakes.proofs.mistake.say_line.Goals as goal

pub returns : goal.returns
returns g c = then (then c.say.ensures c.say_figures.ensures) c.say-2.ensures
