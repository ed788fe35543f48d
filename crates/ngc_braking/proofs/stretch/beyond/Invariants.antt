use Rattle.std.proofs.Common.{◌≡◌, ◌+◌, min, drop}
use Rattle.ngc_braking.specs.Leg.{IsLeg}
use Rattle.ngc_braking.specs.Work.{GREATEST, beyond}
use Rattle.ngc_braking.proofs.stretch.beyond.Given as goal

abbrev pub invariant-loop-leg : goal.invariant-loop-leg
invariant-loop-leg l = record {
  same : min GREATEST (beyond l.fn.head.change l.fn.head.exit l.legs)
      ≡ min l.least (min GREATEST (l.total + beyond l.before.change l.before.exit (drop l.leg-index l.legs)));
  leg : IsLeg l.before;
}
