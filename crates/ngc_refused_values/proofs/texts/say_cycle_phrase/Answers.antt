use Rattle.ngc_sentences.proofs.Said.{then}
use Rattle.ngc_refused_values.specs.Texts.{cycle_phrase}
use Rattle.ngc_refused_values.proofs.texts.say_cycle_phrase.Goals as goal

pub returns : goal.returns
unfolding cycle_phrase
returns g c = rw (← c.cycle_words.ensures) (then c.say.ensures c.say_inches_phrase.ensures)
