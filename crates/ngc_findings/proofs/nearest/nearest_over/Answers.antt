use Rattle.std.proofs.Common.{◌≡◌, ◌∙◌, ◌<◌, ◌≤◌, sym, arith, length}
use Rattle.ngc_machine_files.specs.Machine.{file_of}
use Rattle.ngc_certificate_text.specs.declared.piece.Piece.{Piece}
use Rattle.ngc_certificate_text.specs.Certificate.{entry_at}
use Rattle.ngc_certificate_text.proofs.WrittenCertificate.{piece_found}
use Rattle.ngc_findings.specs.Nearing.{around}
use Rattle.ngc_findings.proofs.Folds.{next_of, none_left}
use Rattle.ngc_findings.proofs.nearest.nearest_over.Goals as goal

pub loop-k-preserved : goal.loop-k-preserved
loop-k-preserved g c =
    let entries = g.M.MotionList.entries c.args.motions.now in
    let pieces = (entry_at entries c.args.i).pieces in
    let inside : c.loop-k.k < length pieces = omega (arith, c.piece_count-k-end.ensures.value) in
    rw c.nearest_around-nearest.ensures
    (next_of (λ (p : Piece). around (file_of c.args.machine.now) c.args.tool.now p.bounds) c.loop-k.nearest pieces c.loop-k.k c.piece.result inside
    (piece_found entries c.args.i c.loop-k.k c.piece.result inside c.piece.ensures) ∙ c.loop-k.invariant)

pub returns : goal.returns
returns g c =
    let pieces = (entry_at (g.M.MotionList.entries c.args.motions.now) c.args.i).pieces in
    let past : length pieces ≤ c.loop-k.k = omega (arith, c.piece_count-k-end.ensures.value) in
    sym (none_left (λ (p : Piece). around (file_of c.args.machine.now) c.args.tool.now p.bounds) c.loop-k.nearest pieces c.loop-k.k past)
    ∙ c.loop-k.invariant
