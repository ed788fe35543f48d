use Rattle.std.proofs.Common.{arith}
use Rattle.ngc_plain_text.proofs.Lengths.{is_tested, all_values}
use Rattle.ngc_plain_text.proofs.length.is_short.Goals as goal

pub returns-clause-limits : goal.returns-clause-limits
returns-clause-limits c =
    is_tested c.args.words.now c.loop-word.word-index c.loop-word.length c.loop-word-test.false c.loop-word.invariant.0
    (omega (arith, c.if-words-gt-MOST_WORDS.false))

pub returns-clause-values : goal.returns-clause-values
returns-clause-values c = λ _. all_values c.args.words.now c.loop-word.word-index c.loop-word-test.false c.loop-word.invariant.2
