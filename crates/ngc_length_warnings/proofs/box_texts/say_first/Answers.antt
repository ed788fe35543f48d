use Rattle.ngc_sentences.proofs.Said.{then}
use Rattle.ngc_length_warnings.proofs.box_texts.say_first.Goals as goal

pub returns : goal.returns
returns g c = then c.say_number.ensures (then c.say_bracketed.ensures c.say_more.ensures)
