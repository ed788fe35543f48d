use Rattle.std.proofs.Common.{ap, sym, subst, ◌∙◌}
use Rattle.ngc_planner.specs.Trail.{TrailData, Describes}
use Rattle.ngc_planner.proofs.TrailLaws.{mark_at}
use Rattle.ngc_planner.proofs.trail.Trail.block_with.Goals as goal

pub with-requires-clause-block : goal.with-requires-clause-block
with-requires-clause-block g c =
    let found = mark_at 0 c.in-Some.mark.now c.self.inside.marks.items (sym c.in-Some.ensures) c.self.invariant.0 in
    found.1.block

pub returns-in-Some-clause-describes : goal.returns-in-Some-clause-describes
returns-in-Some-clause-describes g c =
    let found = mark_at 0 c.in-Some.mark.now c.self.inside.marks.items (sym c.in-Some.ensures) c.self.invariant.0 in
    let passed = sym found.2 ∙ ap (λ (t : TrailData). t.passed) c.self.view_is in
    c.with.ensures.describes c.args.self.now.passed (subst (λ ps. Describes c.in-Some.mark.now.block ps) passed found.1.describes)
