use Rattle.std.proofs.Common.{◌≡◌, ◌∙◌, ◌<◌, arith, length}
use Rattle.ngc_certificate_text.specs.Certificate.{entry_at}
use Rattle.ngc_certificate_text.proofs.WrittenCertificate.{entry_there}
use Rattle.ngc_findings.specs.Extents.{joint_box, boxes_of}
use Rattle.ngc_findings.proofs.Folds.{next_folded}
use Rattle.ngc_findings.proofs.bounds.fit_extent.Goals as goal

pub loop-i-preserved : goal.loop-i-preserved
loop-i-preserved g c =
    let entries = g.M.MotionList.entries c.args.motions.now in
    let inside : c.loop-i.i < length entries = omega (arith, c.count-i-end.ensures.value) in
    rw c.with_pieces-bounds.ensures
    (next_folded joint_box boxes_of c.loop-i.bounds entries c.loop-i.i (entry_at entries c.loop-i.i) inside (entry_there entries c.loop-i.i inside)
    ∙ c.loop-i.invariant)
