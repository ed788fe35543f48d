use Rattle.std.proofs.Common.{◌≡◌, drop}
use Rattle.ngc_drawing.specs.Labels.{with_fixtures}
use Rattle.ngc_drawing.proofs.label.add_fixtures.Given as goal

abbrev pub invariant-loop-i : goal.invariant-loop-i
invariant-loop-i g l =
    with_fixtures l.unit.micrometres l.view l.i l.placed.items (drop l.i l.fixtures)
    ≡ with_fixtures l.unit.micrometres l.view 0 l.initial.placed.items l.fixtures
