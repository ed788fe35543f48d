-- Directions from the centre, by the number of quadrants from one of them. Our own.
use Rattle.std.specs.Prelude.{ℕ, zero, suc, ◌+◌, ◌*◌, ◌≤◌}

-- The cross product of a point (x, y) of some quadrant and a point (z, w) n quadrants further on is
-- at least 0.
abbrev pub IsAhead : ℕ → ℕ → ℕ → ℕ → ℕ → Type 0
IsAhead zero x y z w = y * z ≤ x * w
IsAhead (suc zero) x y z w = Unit {0}
IsAhead (suc (suc zero)) x y z w = x * w ≤ y * z
IsAhead (suc (suc (suc zero))) x y z w = x * z + y * w ≤ 0
IsAhead (suc (suc (suc (suc n)))) x y z w = y * z ≤ x * w

-- the first direction is not after the second, which is n quadrants further on
abbrev pub IsNoLater : ℕ → ℕ → ℕ → ℕ → ℕ → Type 0
IsNoLater zero x y z w = y * z ≤ x * w
IsNoLater (suc n) x y z w = Unit {0}
