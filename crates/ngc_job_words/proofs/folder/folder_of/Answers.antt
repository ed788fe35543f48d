use Rattle.std.proofs.Common.{◌≡◌, ◌<◌, ◌-◌, ◌∙◌, ℕ, ap, sym, take, true, arith}
use Rattle.std.specs.List.{slice_index}
use Rattle.ngc_job_words.specs.Folders.{is_separator}
use Rattle.ngc_job_words.proofs.Ends.{cut, ended, step}
use Rattle.ngc_job_words.proofs.folder.folder_of.Goals as goal
use Rattle.ngc_job_words.proofs.folder.folder_of.Goals.{then-loop-end-test+else-not-is_separator, else-loop-end-test}

pub loop-end-preserved : goal.loop-end-preserved
loop-end-preserved c =
    step c.args.name.now c.loop-end.end c.loop-end.invariant.0 c.loop-end.invariant.1 c.loop-end-test.true
    (rw c.as_bytes-bytes.ensures.value at (sym c.is_separator.ensures ∙ c.if-not-is_separator.true))

pub range-requires-clause-end_boundary : goal.range-requires-clause-end_boundary
range-requires-clause-end_boundary c =
    let stopped : 0 < c.loop-end.end → is_separator (slice_index c.args.name.now (c.loop-end.end - 1)) ≡ true =
    elim c.loop-end-test.branch [
      | then-loop-end-test+else-not-is_separator w ↦ λ some. rw c.as_bytes-bytes.ensures.value at (sym w.is_separator.ensures ∙ w.if-not-is_separator.false)
      | else-loop-end-test w ↦ λ some. absurd (omega (arith, some, w.loop-end-test))
    ] in
    cut c.args.name.now c.loop-end.end c.utf8.name c.loop-end.invariant.0 stopped

pub returns : goal.returns
returns c =
    let stopped : 0 < c.loop-end.end → is_separator (slice_index c.args.name.now (c.loop-end.end - 1)) ≡ true =
    elim c.loop-end-test.branch [
      | then-loop-end-test+else-not-is_separator w ↦ λ some. rw c.as_bytes-bytes.ensures.value at (sym w.is_separator.ensures ∙ w.if-not-is_separator.false)
      | else-loop-end-test w ↦ λ some. absurd (omega (arith, some, w.loop-end-test))
    ] in
    let from_first : c.loop-end.end - 0 ≡ c.loop-end.end = omega arith in
    c.range.ensures.value ∙ ap (λ n. take n c.args.name.now) from_first ∙ ended c.args.name.now c.loop-end.end c.loop-end.invariant.0 c.loop-end.invariant.1 stopped
