use Rattle.ngc_sentences.proofs.Said.{then, says_as}
use Rattle.ngc_plain_text.proofs.Lengths.{words_said}
use Rattle.ngc_plain_text.proofs.line.say_words.Goals as goal

pub returns-in-len1-up : goal.returns-in-len1-up
returns-in-len1-up g c =
    says_as (then c.say_word.ensures c.say_next_words.ensures) (words_said c.args.words.now c.first-item.result c.in-len1-up.len_at_least c.first-item.is)
