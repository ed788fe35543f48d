-- The point at which a wheel begins: the joint, or a move after it if the joint is before the
-- start's direction. Our own.
use Rattle.std.specs.Prelude.{◌≡◌, ◌⊎◌, ℕ, ◌+◌, ◌<◌, nat_lt, Bool, ℤ, pos, ◌-ℤ◌, ◌*ℤ◌, ◌≤ℤ◌, ◌<ℤ◌}
use Rattle.std.specs.Prelude.{unsigned_abs}
use Rattle.ngc_circle_walk.specs.Around.{way_to}
use Rattle.ngc_circle_walk.specs.Entering.{IsEntry}
use Rattle.ngc_circle_walk.specs.Wheel.{rolled}
use Rattle.ngc_circle_walk.specs.declared.spoke.Quadrant.{Quadrant}
use Rattle.ngc_circle_walk.specs.declared.spoke.Quadrant.TheVariants.{First, Second, Third, Fourth}
use Rattle.ngc_circle_walk.specs.declared.spoke.Roll.{Roll}
use Rattle.ngc_circle_walk.specs.declared.spoke.Spoke.{Spoke}
use Rattle.ngc_step_kernel.specs.declared.round.Vector2.{Vector2}
use Rattle.ngc_step_kernel.specs.View.{place_of}

-- a vector is nearer to the half axes beside a quadrant than to those along it
abbrev pub is_steep : Quadrant → Vector2 → Bool
is_steep First w = nat_lt (unsigned_abs w.u) (unsigned_abs w.v)
is_steep Second w = nat_lt (unsigned_abs w.v) (unsigned_abs w.u)
is_steep Third w = nat_lt (unsigned_abs w.u) (unsigned_abs w.v)
is_steep Fourth w = nat_lt (unsigned_abs w.v) (unsigned_abs w.u)

-- above 0 if a turn of less than half a circle leads from b to w
abbrev pub way_cross : Vector2 → Vector2 → ℤ
way_cross b w = (b.u *ℤ w.v) -ℤ (b.v *ℤ w.u)

-- from the joint's point
abbrev pub IsEnteredFrom : ℕ → ℕ → Vector2 → Vector2 → Spoke → Spoke → Type 0
IsEnteredFrom g limit b w first s =
    ((pos 0 ≤ℤ way_cross b w) × (s ≡ first)) ⊎
    ((way_cross b w <ℤ pos 0) ×
    ((roll : Roll) × IsEntry g limit (is_steep first.quadrant b) first roll ×
    (s ≡ rolled g roll first)))

-- for the start's vector b and the joint's vector w
abbrev pub IsEntered : ℕ → ℕ → Vector2 → Vector2 → Spoke → Type 0
IsEntered g limit b w s = (first : Spoke) × (way_to first ≡ place_of w) ×
    (0 < unsigned_abs w.u + unsigned_abs w.v → 0 < first.x) × IsEnteredFrom g limit b w first s
