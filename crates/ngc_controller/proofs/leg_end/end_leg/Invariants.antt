use Rattle.std.proofs.Common.{◌≡◌, ◌+◌, ◌≤◌}
use Rattle.ngc_planner.specs.Stretches.{Ticks}
use Rattle.ngc_controller.proofs.leg_end.end_leg.Given as goal

abbrev pub invariant-ticks : goal.invariant-ticks
invariant-ticks g l = record {
  goes : Ticks l.ticks l.initial.ramp l.wish l.ramp;
  same : l.ramp.legs ≡ l.initial.ramp.legs;
  fewer : l.ticks + l.ramp.rest ≤ l.initial.ramp.rest;
}

abbrev pub decreases-ticks : goal.decreases-ticks
decreases-ticks g l = l.ramp.rest
