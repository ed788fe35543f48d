use Rattle.ngc_sentences.proofs.Said.{then}
use Rattle.ngc_plain_text.proofs.line.say_line.Goals as goal

pub returns : goal.returns
returns g c = then c.say_words.ensures c.say.ensures
