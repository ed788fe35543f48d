use Rattle.std.proofs.Common.{◌≤◌, length}
use Rattle.std.specs.Prelude.{IsTrue}
use Rattle.std.specs.List.{list_all}
use Rattle.ngc_certificate_text.specs.Certificate.{good_piece}
use Rattle.ngc_certificate.proofs.CutPieces.{AreCutTo}
use Rattle.ngc_certificate.proofs.cutting.cut_arc.Given as goal

abbrev pub invariant-loop : goal.invariant-loop
invariant-loop g l = record {
  few : length l.pieces.items ≤ l.counter;
  good : IsTrue (list_all good_piece l.pieces.items);
  cut : AreCutTo l.machine.step l.arc l.pieces.items l.point;
}
