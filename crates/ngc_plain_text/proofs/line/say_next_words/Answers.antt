use Rattle.ngc_sentences.proofs.Said.{no_text, one_more, all_said}
use Rattle.ngc_plain_text.specs.Text.{next_word_text}
use Rattle.ngc_plain_text.proofs.line.say_next_words.Goals as goal

pub loop-word-init : goal.loop-word-init
loop-word-init g c = no_text _ _ _

pub loop-word-preserved : goal.loop-word-preserved
loop-word-preserved g c =
    one_more next_word_text c.args.words.now c.loop-word.word-index c.word-item.result c.loop-word-test.true c.word-item.is c.loop-word.invariant
    c.say_next_word.ensures

pub returns : goal.returns
returns g c = all_said next_word_text c.args.words.now c.loop-word.word-index c.loop-word-test.false c.loop-word.invariant
