-- The first move of a wheel whose point is not yet at the direction of its start. Our own.
use Rattle.std.specs.Prelude.{◌≡◌, ◌⊎◌, ℕ, ◌+◌, ◌-◌, ◌<◌, ◌≤◌, Bool, true, false}
use Rattle.ngc_circle_walk.specs.declared.spoke.Roll.{Roll}
use Rattle.ngc_circle_walk.specs.declared.spoke.Roll.TheVariants.{Outward, Diagonal, Inward, Over}
use Rattle.ngc_circle_walk.specs.declared.spoke.Spoke.{Spoke}
use Rattle.ngc_circle_walk.specs.Wheel.{square}

-- the move that leads to the direction or past it: over the half axis if that is less than g away.
-- Else, if the direction is steep, the move goes along the first half axis, or along both if the
-- limit allows that; if it is not steep, along the second, or along both if the limit does not
-- allow the move along the second alone
abbrev pub IsEntry : ℕ → ℕ → Bool → Spoke → Roll → Type 0
IsEntry g limit steep s Over = s.x < g
IsEntry g limit steep s Outward = (steep ≡ false) × (g ≤ s.x) × (square s.x (s.y + g) ≤ limit)
IsEntry g limit steep s Inward = (steep ≡ true) × (g ≤ s.x) × (limit < square (s.x - g) (s.y + g))
IsEntry g limit steep s Diagonal = (g ≤ s.x) ×
    (((steep ≡ true) × (square (s.x - g) (s.y + g) ≤ limit)) ⊎
    ((steep ≡ false) × (limit < square s.x (s.y + g))))
