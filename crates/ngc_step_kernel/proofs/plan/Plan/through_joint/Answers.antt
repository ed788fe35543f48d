use Rattle.std.proofs.Common.{arith, refl}
use Rattle.ngc_step_kernel.proofs.CourseLemmas.{bent_plan}
use Rattle.ngc_step_kernel.proofs.plan.Plan.through_joint.Goals as goal

pub returns-clause-plan : goal.returns-clause-plan
returns-clause-plan c =
    let r = c.requires in
    bent_plan _ refl c.moves_to-joined.ensures refl refl (omega (arith, c.moves_to.ensures, c.moves_to-joined.ensures, r.joins, r.ends))
    (omega (arith, c.moves_to.ensures, c.moves_to-joined.ensures, r.joins, r.ends)) r.some r.short r.start r.joint r.end c.of.ensures.small
