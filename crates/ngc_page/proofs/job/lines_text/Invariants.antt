use Rattle.std.proofs.Common.{◌≡◌, ◌++◌, drop, map}
use Rattle.ngc_page.specs.JobCalls.{lines_text}
use Rattle.ngc_page.proofs.job.lines_text.Given as goal

abbrev pub invariant-loop-word : goal.invariant-loop-word
invariant-loop-word l =
    lines_text (map (λ w. w.now) l.words) ≡ l.text.items ++ lines_text (map (λ w. w.now) (drop l.word-index l.words))
