use Rattle.std.proofs.Common.{◌≡◌, ◌++◌, drop, map}
use Rattle.ngc_job_words.specs.Words.{values_of, values_from}
use Rattle.ngc_job_words.proofs.values.values_of.Given as goal

abbrev pub invariant-loop-word : goal.invariant-loop-word
invariant-loop-word l =
    values_of l.name (map (λ w. w.now) l.words)
    ≡ map (λ v. v.now) l.values.items ++ values_from l.is_open l.name (map (λ w. w.now) (drop l.word-index l.words))
