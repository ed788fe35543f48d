-- The remaining judgement of a motion's pieces, one by one. Our own.
use Rattle.std.specs.Prelude.{◌≡◌, ℕ, List, [], ◌∷◌, Option, Bool, true, false}
use Rattle.ngc_machine_files.specs.Machine.{MachineFile}
use Rattle.ngc_certificate_text.specs.declared.piece.Piece.{Piece}
use Rattle.ngc_certificate.specs.declared.fault.PieceRefusal.{PieceRefusal}
use Rattle.ngc_certificate.specs.declared.pieces.PieceJudge.{PieceJudge}
use Rattle.ngc_certificate.specs.Inside.{rest_fault}
use Rattle.ngc_certificate.specs.Shared.{shared_of}

abbrev pub is_empty : List Piece → Bool
is_empty [] = true
is_empty (p ∷ ps) = false

-- the number of pieces that were judged
abbrev pub judged_by : PieceJudge → ℕ
judged_by j = j.judged

-- the first refusal of the remaining pieces
abbrev pub fault_ahead : MachineFile → PieceJudge → List Piece → Option PieceRefusal
fault_ahead machine j pieces = rest_fault machine j.tool j.way j.several j.judged j.begin pieces

-- a judge was made for a machine
abbrev pub IsJudging : MachineFile → PieceJudge → Type 0
IsJudging machine j = j.shared ≡ shared_of machine.step j.way j.several
