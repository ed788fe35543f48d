-- The words so far, and those of the rest that are kept, are all.
use Rattle.std.proofs.Common.{◌≡◌, ◌++◌, drop}
use Rattle.ngc_dialect_repeats.specs.Kept.{kept_words}
use Rattle.ngc_dialect_repeats.proofs.kept.add_all_kept.Given as goal

abbrev pub invariant-loop-word : goal.invariant-loop-word
invariant-loop-word g l = l.line.items ++ kept_words l.kept (drop l.word-index l.words) ≡ l.fn.line.items ++ kept_words l.kept l.words
