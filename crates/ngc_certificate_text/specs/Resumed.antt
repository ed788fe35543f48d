-- The result of the lines so far and those that follow. Our own.
use Rattle.ngc_certificate_text.specs.declared.text.TextSoFar.{TextSoFar}
use Rattle.ngc_certificate_text.specs.Ahead.{made_with}
use Rattle.ngc_certificate_text.specs.Found.{begun_of, gathered, read_so_far, IsKept, MayExpect}
use Rattle.ngc_certificate_text.specs.Joined.{Form}
use Rattle.ngc_certificate_text.specs.LinesView.{left_by, expected_in, IsReading}
use Rattle.ngc_certificate_text.specs.Reader.{Saying}

-- the result of these bytes after the lines so far
abbrev pub resumed : {A : Type 0} → TextSoFar A → Saying Form
resumed t lines bytes = made_with (gathered (begun_of (expected_in t.lines)) (read_so_far t.found))
    (left_by lines t.lines bytes)

pub record IsResuming {A : Type 0} (t : TextSoFar A) : Type 0 where
  pub reading : IsReading t.lines
  pub expecting : MayExpect (expected_in t.lines) (read_so_far t.found)
  pub kept : IsKept t.found
