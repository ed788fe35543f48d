use Rattle.std.proofs.Common.{◌≡◌, drop}
use Rattle.ngc_machine_files.specs.Machine.{file_of}
use Rattle.ngc_certificate.specs.Inside.{fault_of_some}
use Rattle.ngc_certificate.specs.PieceJudging.{IsJudging, fault_ahead, judged_by}
use Rattle.ngc_certificate.proofs.pieces.first_refusal.Given as goal

abbrev pub invariant-loop-i : goal.invariant-loop-i
invariant-loop-i g l = record {
  first : fault_ahead (file_of l.machine) l.judge (drop l.i l.pieces) ≡ fault_of_some (file_of l.machine) l.fn.tool l.way l.pieces;
  judging : IsJudging (file_of l.machine) l.judge;
  judged : judged_by l.judge ≡ l.i;
}
