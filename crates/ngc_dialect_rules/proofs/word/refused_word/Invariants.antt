-- No word so far is refused.
use Rattle.std.proofs.Common.{◌≡◌, drop}
use Rattle.ngc_dialect_rules.specs.Words.{refused_word}
use Rattle.ngc_dialect_rules.proofs.word.refused_word.Given as goal

abbrev pub invariant-loop-word : goal.invariant-loop-word
invariant-loop-word l = refused_word l.dialect l.line (drop l.word-index l.words) ≡ refused_word l.dialect l.line l.words
