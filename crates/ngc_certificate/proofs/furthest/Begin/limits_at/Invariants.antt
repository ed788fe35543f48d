use Rattle.std.proofs.Common.{◌≡◌, ◌≤◌, ◌*◌, ◌+◌, unsigned_abs, length}
use Rattle.ngc_certificate.proofs.furthest.Begin.limits_at.Given as goal

abbrev pub invariant-loop-i : goal.invariant-loop-i
invariant-loop-i g l = (length l.limits ≡ 4) × (unsigned_abs l.foot ≤ 100000000000 * (1 + l.i))
