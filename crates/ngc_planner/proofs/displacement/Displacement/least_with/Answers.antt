use Rattle.std.proofs.Common.{◌≡◌, ◌≤◌, ℤ, unsigned_abs, to_z, of_z, arith}
use Rattle.std.specs.Int.{w64, int_min}
use Rattle.std.proofs.lemmas.Int.{ints, int_min_is}
use Rattle.ngc_planner.proofs.CoordinateLaws.{kept}
use Rattle.ngc_planner.proofs.displacement.Displacement.least_with.Goals as goal

within : (r x y : ℤ) → r ≡ int_min (to_z w64 (of_z w64 x)) (to_z w64 (of_z w64 y)) → unsigned_abs x ≤ 200000000000 → unsigned_abs y ≤ 200000000000 →
    unsigned_abs (to_z w64 (of_z w64 r)) ≤ 200000000000
within r x y is p q =
    let same : r ≡ int_min x y = rw (← kept x p, ← kept y q) is in
    let extreme = int_min_is x y in
    omega (arith, ints, extreme, same, p, q)

pub invariant_of-result : goal.invariant_of-result
invariant_of-result c =
    let a = c.self.invariant in
    let b = c.other.invariant in (
      within c.min.result c.self.inside.x c.other.inside.x c.min.ensures.value a.0 b.0,
      within c.min-2.result c.self.inside.y c.other.inside.y c.min-2.ensures.value a.1 b.1,
      within c.min-3.result c.self.inside.z c.other.inside.z c.min-3.ensures.value a.2 b.2,
    )
