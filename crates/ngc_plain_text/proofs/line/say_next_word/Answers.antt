use Rattle.ngc_sentences.proofs.Said.{then}
use Rattle.ngc_plain_text.proofs.line.say_next_word.Goals as goal

pub returns : goal.returns
returns g c = then c.say.ensures c.say_word.ensures
