use Rattle.std.proofs.Common.{arith, List, length, subst, sym, ◌∙◌, ◌≤◌}
use Rattle.ngc_certificate_text.specs.declared.piece.Piece.{Piece}
use Rattle.ngc_certificate.proofs.Division.{few}
use Rattle.ngc_certificate.proofs.finding.clears_in.Goals as goal

pub pieces_fault-requires : goal.pieces_fault-requires
pieces_fault-requires g c =
    let same = c.as_slice.ensures.value ∙ c.in_ok-divide.ensures in
    subst (λ (ps : List Piece). length ps ≤ 65535) (sym same)
    (few c.args.machine.now.step c.args.way.now c.args.count c.requires (omega (arith, c.ranges.count.fits)))
