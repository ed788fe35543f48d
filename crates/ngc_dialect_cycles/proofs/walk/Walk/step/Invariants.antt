use Rattle.std.proofs.Common.{◌≡◌}
use Rattle.ngc_dialect_cycles.specs.Walk.{left, parts_left}
use Rattle.ngc_dialect_cycles.proofs.walk.Walk.step.Given as goal

abbrev pub invariant-loop-self : goal.invariant-loop-self
invariant-loop-self l = record {
  plan : l.self.plan ≡ l.initial.self.plan;
  left : left l.self ≡ left l.initial.self;
}

abbrev pub decreases-loop-self : goal.decreases-loop-self
decreases-loop-self l = parts_left l.self
