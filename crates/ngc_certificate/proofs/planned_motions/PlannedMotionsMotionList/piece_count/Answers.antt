use Rattle.std.proofs.Common.{◌≤◌, List, length, subst, sym}
use Rattle.ngc_certificate_text.specs.declared.piece.Piece.{Piece}
use Rattle.ngc_certificate.specs.PlannedBy.{planned_by}
use Rattle.ngc_certificate.proofs.PlanLaws.{pieces_planned, entry_is}
use Rattle.ngc_certificate.proofs.planned_motions.PlannedMotionsMotionList.piece_count.Goals as goal

pub count-requires : goal.count-requires
count-requires g c =
    let m = c.args.self.now in
    let same = pieces_planned m.step m.commands.now m.plan.now.arcs m.plan.now.motions.items c.args.i c.index.result.now c.way_at-way.result c.requires c.index.ensures
    c.way_at-way.ensures in
    subst (λ (ps : List Piece). 1 ≤ length ps) same (entry_is (planned_by m) c.args.i m.are c.requires).some

pub returns-clause-some : goal.returns-clause-some
returns-clause-some g c =
    let m = c.args.self.now in
    let same = pieces_planned m.step m.commands.now m.plan.now.arcs m.plan.now.motions.items c.args.i c.index.result.now c.way_at-way.result c.requires c.index.ensures
    c.way_at-way.ensures in
    subst (λ n. 1 ≤ n) (sym c.count.ensures) (subst (λ (ps : List Piece). 1 ≤ length ps) same (entry_is (planned_by m) c.args.i m.are c.requires).some)

pub returns-clause-limit : goal.returns-clause-limit
returns-clause-limit g c =
    let m = c.args.self.now in
    let same = pieces_planned m.step m.commands.now m.plan.now.arcs m.plan.now.motions.items c.args.i c.index.result.now c.way_at-way.result c.requires c.index.ensures
    c.way_at-way.ensures in
    subst (λ n. n ≤ 65535) (sym c.count.ensures) (subst (λ (ps : List Piece). length ps ≤ 65535) same (entry_is (planned_by m) c.args.i m.are c.requires).count)
