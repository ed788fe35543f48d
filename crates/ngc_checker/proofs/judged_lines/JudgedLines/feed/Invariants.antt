-- The rest of the bytes has the same result as the whole.
use Rattle.std.proofs.Common.{◌≡◌, ◌+◌, ◌≤◌, ◌++◌, ℕ, List, length}
use Rattle.ngc_certificate_text.specs.LinesView.{room_of}
use Rattle.ngc_certificate_text.specs.Parted.{PartsLines}
use Rattle.ngc_checker.specs.Checked.{judged, accepted_by, IsJudged}
use Rattle.ngc_checker.proofs.judged_lines.JudgedLines.feed.Given as goal

abbrev pub invariant-lines : goal.invariant-lines
invariant-lines g l = record {
  text : (lines : List ℕ → List (List ℕ)) → PartsLines lines → (rest : List ℕ) →
      judged l.initial.self lines (l.bytes ++ rest) ≡ judged l.self lines (l.rest ++ rest);
  reading : IsJudged l.self;
  kept : accepted_by l.self.judge ≡ accepted_by l.initial.self.judge;
  room : room_of l.self.lines + length l.bytes ≤ room_of l.initial.self.lines + length l.rest;
}

abbrev pub decreases-lines : goal.decreases-lines
decreases-lines g l = length l.rest
