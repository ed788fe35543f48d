use Rattle.std.proofs.Common.{◌≡◌, ◌≤◌, ℤ, unsigned_abs, to_z, of_z, arith}
use Rattle.std.specs.Int.{w64, int_max}
use Rattle.std.proofs.lemmas.Int.{ints, int_max_is}
use Rattle.ngc_planner.proofs.CoordinateLaws.{kept}
use Rattle.ngc_planner.proofs.displacement.Displacement.greatest_with.Goals as goal

within : (r x y : ℤ) → r ≡ int_max (to_z w64 (of_z w64 x)) (to_z w64 (of_z w64 y)) → unsigned_abs x ≤ 200000000000 → unsigned_abs y ≤ 200000000000 →
    unsigned_abs (to_z w64 (of_z w64 r)) ≤ 200000000000
within r x y is p q =
    let same : r ≡ int_max x y = rw (← kept x p, ← kept y q) is in
    let extreme = int_max_is x y in
    omega (arith, ints, extreme, same, p, q)

pub invariant_of-result : goal.invariant_of-result
invariant_of-result c =
    let a = c.self.invariant in
    let b = c.other.invariant in (
      within c.max.result c.self.inside.x c.other.inside.x c.max.ensures.value a.0 b.0,
      within c.max-2.result c.self.inside.y c.other.inside.y c.max-2.ensures.value a.1 b.1,
      within c.max-3.result c.self.inside.z c.other.inside.z c.max-3.ensures.value a.2 b.2,
    )
