-- The lines as a reader that checks a certificate judges them. Our own.
use Rattle.std.specs.Prelude.{◌≡◌, Option, Some, None, Result, Ok, Err}
use Rattle.ngc_certificate_text.specs.Ahead.{Rest, made_with}
use Rattle.ngc_certificate_text.specs.LinesView.{left_by, expected_in, IsReading}
use Rattle.ngc_certificate_text.specs.Reader.{Saying}
use Rattle.ngc_checker.specs.declared.fault.CheckFault.{CheckFault}
use Rattle.ngc_checker.specs.declared.judged_lines.JudgedLines.{JudgedLines}
use Rattle.ngc_checker.specs.Accepted.{AcceptedData}
use Rattle.ngc_checker.specs.Judging.{JudgeData, IsAt, verdict_of, stored_contents}

-- the first refusal, if this remains: that of the program takes precedence
abbrev pub judged_by : Result JudgeData CheckFault → Rest → Option CheckFault
judged_by (Ok v) r = verdict_of v r
judged_by (Err fault) r = Some fault

abbrev pub accepted_by : Result JudgeData CheckFault → Option AcceptedData
accepted_by (Ok v) = Some (stored_contents v)
accepted_by (Err fault) = None

-- the result of these bytes after the lines so far
abbrev pub judged : {A : Type 0} → JudgedLines A → Saying (Option CheckFault)
judged t lines bytes = made_with (judged_by t.judge) (left_by lines t.lines bytes)

pub record IsJudged {A : Type 0} (t : JudgedLines A) : Type 0 where
  pub reading : IsReading t.lines
  pub at : (v : JudgeData) → t.judge ≡ Ok v → IsAt (expected_in t.lines) v
