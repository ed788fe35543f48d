use Rattle.std.proofs.Common.{◌≤◌, ℤ, unsigned_abs, to_z, of_z, arith}
use Rattle.std.proofs.lemmas.Grind.{common_steps}
use Rattle.std.specs.Int.{w64}
use Rattle.std.proofs.lemmas.Int.{ints}
use Rattle.ngc_fixed_length.specs.Limits.{MILLION}
use Rattle.ngc_planner.proofs.CoordinateLaws.{kept}
use Rattle.ngc_planner.proofs.displacement.Displacement.heading.Goals as goal

-- a coordinate of a heading is one of a displacement
within : (r : ℤ) → unsigned_abs r ≤ MILLION → unsigned_abs (to_z w64 (of_z w64 r)) ≤ 200000000000
within r small = omega (arith, ints)

pub in_millionths-requires-clause-some : goal.in_millionths-requires-clause-some
in_millionths-requires-clause-some c = omega arith

pub in_millionths-requires-clause-bound : goal.in_millionths-requires-clause-bound
in_millionths-requires-clause-bound c =
    rw (c.greatest_size-greatest.ensures, ← c.self.view_is) (omega (arith, c.self.invariant.0, c.self.invariant.1, c.self.invariant.2))

pub in_millionths-requires-clause-least : goal.in_millionths-requires-clause-least
in_millionths-requires-clause-least c =
    rw (kept c.self.inside.x c.self.invariant.0, c.greatest_size-greatest.ensures, ← c.self.view_is) (omega arith)

pub invariant_of-result : goal.invariant_of-result
invariant_of-result c =
    let x = c.in_millionths in
    let y = c.in_millionths-else-greatest-eq0 in
    let z = c.in_millionths-else-greatest-eq0-2 in
    (within x.result x.ensures.bound, within y.result y.ensures.bound, within z.result z.ensures.bound)

pub returns-then-greatest-eq0 : goal.returns-then-greatest-eq0
returns-then-greatest-eq0 c = grind (arith, common_steps)
