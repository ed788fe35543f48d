use Rattle.std.proofs.Common.{◌≡◌, drop}
use Rattle.std.specs.Prelude.{fold, map}
use Rattle.ngc_certificate_text.specs.declared.piece.Piece.{Piece}
use Rattle.ngc_certificate_text.specs.Certificate.{entry_at}
use Rattle.ngc_findings.specs.Extents.{joint_box, boxes_of}
use Rattle.ngc_findings.proofs.bounds.with_pieces.Given as goal

abbrev pub invariant-loop-k : goal.invariant-loop-k
invariant-loop-k g l =
    let entry = entry_at (g.M.MotionList.entries l.motions) l.i in
    fold joint_box l.joint (map (λ (p : Piece). p.bounds) (drop l.k entry.pieces)) ≡ fold joint_box l.initial.joint (boxes_of entry)
