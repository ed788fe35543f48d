-- The rate is lowered to no less than the greatest one that is allowed.
use Rattle.std.proofs.Common.{◌≡◌, ◌≤◌, min}
use Rattle.ngc_fixed_length.specs.Limits.{MILLION}
use Rattle.ngc_planner.specs.Joints.{heading_rate}
use Rattle.ngc_planner.proofs.window.lowered.Given as goal

abbrev pub invariant-loop-lowered : goal.invariant-loop-lowered
invariant-loop-lowered l = record {
  same : min l.lowered (heading_rate l.jump l.turn l.difference l.way) ≡ min l.rate (heading_rate l.jump l.turn l.difference l.way);
  small : l.lowered ≤ MILLION;
}

abbrev pub decreases-loop-lowered : goal.decreases-loop-lowered
decreases-loop-lowered l = l.lowered
