use Rattle.std.proofs.Common.{◌≡◌, ◌∙◌, ◌<◌, ◌≤◌, sym, arith, length}
use Rattle.ngc_certificate_text.specs.Certificate.{entry_at}
use Rattle.ngc_certificate_text.proofs.WrittenCertificate.{piece_found}
use Rattle.ngc_findings.specs.Extents.{joint_box, boxes_of}
use Rattle.ngc_findings.proofs.Folds.{next_box, no_box}
use Rattle.ngc_findings.proofs.bounds.with_pieces.Goals as goal

pub loop-k-preserved : goal.loop-k-preserved
loop-k-preserved g c =
    let entries = g.M.MotionList.entries c.args.motions.now in
    let pieces = (entry_at entries c.args.i).pieces in
    let inside : c.loop-k.k < length pieces = omega (arith, c.piece_count-k-end.ensures.value) in
    rw c.joint_box-joint.ensures
    (next_box c.loop-k.joint pieces c.loop-k.k c.piece.result inside (piece_found entries c.args.i c.loop-k.k c.piece.result inside c.piece.ensures)
    ∙ c.loop-k.invariant)

pub returns : goal.returns
returns g c =
    let pieces = (entry_at (g.M.MotionList.entries c.args.motions.now) c.args.i).pieces in
    let past : length pieces ≤ c.loop-k.k = omega (arith, c.piece_count-k-end.ensures.value) in
    sym (no_box c.loop-k.joint pieces c.loop-k.k past) ∙ c.loop-k.invariant
