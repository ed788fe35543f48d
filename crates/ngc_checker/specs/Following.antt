-- The judge of the motion that has begun. Our own.
use Rattle.std.specs.Prelude.{ℕ, ◌+◌, ◌≤◌, Option, Some, None}
use Rattle.ngc_machine_files.specs.Machine.{MachineFile}
use Rattle.ngc_certificate_text.specs.Certificate.{PIECE_LIMIT}
use Rattle.ngc_certificate.specs.declared.pieces.PieceJudge.{PieceJudge}
use Rattle.ngc_certificate.specs.PieceJudging.{IsJudging, judged_by}

-- a judge was made for this machine, and at most `left` pieces may follow
pub record IsJudgingFor (machine : MachineFile) (j : PieceJudge) (left : ℕ) : Type 0 where
  pub judging : IsJudging machine j
  pub few : judged_by j + left ≤ PIECE_LIMIT

abbrev pub IsFollowing : MachineFile → Option PieceJudge → ℕ → Type 0
IsFollowing machine None left = Unit {0}
IsFollowing machine (Some j) left = IsJudgingFor machine j left
