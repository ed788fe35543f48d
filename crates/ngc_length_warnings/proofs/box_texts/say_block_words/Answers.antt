use Rattle.ngc_sentences.proofs.Said.{then}
use Rattle.ngc_length_warnings.proofs.box_texts.say_block_words.Goals as goal

pub returns : goal.returns
returns g c = then c.say.ensures (then c.say_cut.ensures c.say_lower.ensures)
