use Rattle.std.proofs.Common.{◌≡◌, drop}
use Rattle.ngc_collision.specs.Body.{first_met_from}
use Rattle.ngc_collision.proofs.bodies.first_met.Given as goal

abbrev pub invariant-loop-i : goal.invariant-loop-i
invariant-loop-i g l = first_met_from l.i l.machine.step l.fn.tool l.bounds (drop l.i l.machine.fixtures.items)
    ≡ first_met_from 0 l.machine.step l.fn.tool l.bounds l.machine.fixtures.items
