use Rattle.std.proofs.Common.{◌≡◌, map}
use Rattle.ngc_job_words.specs.Seen.{seen_before, words_in}
use Rattle.ngc_job_words.proofs.call.see_all.Given as goal

abbrev pub invariant-loop-word : goal.invariant-loop-word
invariant-loop-word l =
    words_in l.seen ≡ seen_before l.command (map (λ w. w.now) l.rest) l.word-index
