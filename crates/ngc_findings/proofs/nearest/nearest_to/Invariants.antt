use Rattle.std.proofs.Common.{◌≡◌, drop}
use Rattle.std.specs.Prelude.{fold}
use Rattle.ngc_collision.specs.Inside.{solid_of}
use Rattle.ngc_findings.specs.Nearing.{nearer, distances}
use Rattle.ngc_findings.proofs.nearest.nearest_to.Given as goal

abbrev pub invariant-loop-i : goal.invariant-loop-i
invariant-loop-i g l =
    fold nearer l.nearest (distances l.i (drop l.i l.machine.fixtures.items) (solid_of l.solid))
    ≡ fold nearer l.initial.nearest (distances 0 l.machine.fixtures.items (solid_of l.solid))
