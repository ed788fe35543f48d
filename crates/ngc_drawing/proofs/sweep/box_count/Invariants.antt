use Rattle.std.proofs.Common.{◌≡◌, ◌+◌, ◌*◌, ◌≤◌, drop, length, sum_by}
use Rattle.ngc_certificate_text.specs.Certificate.{Entry, PIECE_LIMIT}
use Rattle.ngc_drawing.specs.Bodies.{box_count}
use Rattle.ngc_drawing.proofs.sweep.box_count.Given as goal

abbrev pub invariant-loop-i : goal.invariant-loop-i
invariant-loop-i g l = record {
  counted : l.count + sum_by (λ (e : Entry). length e.pieces) (drop l.i l.motions) ≡ box_count l.motions;
  few : l.count ≤ l.i * PIECE_LIMIT;
}
