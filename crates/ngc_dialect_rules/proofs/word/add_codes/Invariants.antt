-- The remaining words, added to the codes so far, have the same result as all words.
use Rattle.std.proofs.Common.{◌≡◌, drop}
use Rattle.ngc_dialect_rules.specs.Words.{codes_of}
use Rattle.ngc_dialect_rules.proofs.word.add_codes.Given as goal

abbrev pub invariant-loop-word : goal.invariant-loop-word
invariant-loop-word l = codes_of l.dialect (drop l.word-index l.words) l.line.items ≡ codes_of l.dialect l.words l.initial.line.items
