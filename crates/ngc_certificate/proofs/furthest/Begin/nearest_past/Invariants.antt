use Rattle.std.proofs.Common.{◌≤◌}
use Rattle.ngc_certificate.proofs.furthest.Begin.nearest_past.Given as goal

abbrev pub invariant-loop-limit : goal.invariant-loop-limit
invariant-loop-limit g l = l.least ≤ 4000000000000000000000000000000
