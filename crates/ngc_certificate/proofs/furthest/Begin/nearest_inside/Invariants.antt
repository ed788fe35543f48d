use Rattle.std.proofs.Common.{◌≤◌}
use Rattle.ngc_certificate.proofs.furthest.Begin.nearest_inside.Given as goal

abbrev pub invariant-loop-fixture : goal.invariant-loop-fixture
invariant-loop-fixture g l = l.least ≤ 4000000000000000000000000000000
