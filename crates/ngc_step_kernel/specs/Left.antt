-- The number of quadrants to an arc's end after a wheel's move. Our own.
use Rattle.std.specs.Prelude.{◌≡◌, ◌⊎◌, ℕ, ◌<◌, true, false, Option, Some, None}
use Rattle.ngc_circle_walk.specs.declared.spoke.Roll.{Roll}
use Rattle.ngc_circle_walk.specs.declared.spoke.Spoke.{Spoke}
use Rattle.ngc_circle_walk.specs.Rolling.{quadrants_of}
use Rattle.ngc_circle_walk.specs.Wheel.{is_before}

-- before the move it is `left`; after it, it is m and the point is before the end. Or it is `None`,
-- because the point has reached the end's direction
abbrev pub IsLeftAfter : ℕ → Roll → Spoke → Spoke → Option ℕ → Type 0
IsLeftAfter left roll s e (Some m) =
    (quadrants_of m roll ≡ left) × ((0 < m) ⊎ (is_before s e ≡ true))
IsLeftAfter left roll s e None =
    (m : ℕ) → quadrants_of m roll ≡ left → (m ≡ 0) × (is_before s e ≡ false)
