use Rattle.ngc_planner.proofs.TurnLaws.{differences_small}
use Rattle.ngc_planner.proofs.trail.Look.past_one.Goals as goal

pub axes_lowered-requires-clause-differences : goal.axes_lowered-requires-clause-differences
axes_lowered-requires-clause-differences g c =
    rw c.differences-differences.ensures (differences_small c.args.mark.now.heading c.args.next.now c.requires.heading c.requires.next)
