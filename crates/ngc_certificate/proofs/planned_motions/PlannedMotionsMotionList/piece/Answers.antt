use Rattle.std.proofs.Common.{◌≤◌, ◌<◌, List, length, ap, subst, sym, ◌∙◌}
use Rattle.ngc_certificate_text.specs.declared.piece.Piece.{Piece}
use Rattle.ngc_certificate.specs.PieceIn.{piece_in}
use Rattle.ngc_certificate.specs.PlannedBy.{planned_by}
use Rattle.ngc_certificate.proofs.PlanLaws.{pieces_planned, entry_is}
use Rattle.ngc_certificate.proofs.planned_motions.PlannedMotionsMotionList.piece.Goals as goal

pub piece-requires-clause-inside : goal.piece-requires-clause-inside
piece-requires-clause-inside g c =
    let m = c.args.self.now in
    let same = pieces_planned m.step m.commands.now m.plan.now.arcs m.plan.now.motions.items c.args.i c.index.result.now c.way_at-way.result c.requires.motion c.index.ensures
    c.way_at-way.ensures in
    subst (λ (ps : List Piece). c.args.k < length ps) same c.requires.piece

pub piece-requires-clause-few : goal.piece-requires-clause-few
piece-requires-clause-few g c =
    let m = c.args.self.now in
    let same = pieces_planned m.step m.commands.now m.plan.now.arcs m.plan.now.motions.items c.args.i c.index.result.now c.way_at-way.result c.requires.motion c.index.ensures
    c.way_at-way.ensures in
    subst (λ (ps : List Piece). length ps ≤ 65535) same (entry_is (planned_by m) c.args.i m.are c.requires.motion).count

pub returns : goal.returns
returns g c =
    let m = c.args.self.now in
    let same = pieces_planned m.step m.commands.now m.plan.now.arcs m.plan.now.motions.items c.args.i c.index.result.now c.way_at-way.result c.requires.motion c.index.ensures
    c.way_at-way.ensures in
    c.piece.ensures ∙ ap (λ (ps : List Piece). piece_in ps c.args.k) (sym same)
