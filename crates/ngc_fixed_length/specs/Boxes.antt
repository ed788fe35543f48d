-- Boxes of grid points, both corners included. Our own.
use Rattle.std.specs.Prelude.{ℤ, neg_ℤ, ◌≤ℤ◌, int_le, Bool, ◌&&◌}
use Rattle.std.specs.Int.{int_div_euclid, int_min, int_max}
use Rattle.ngc_fixed_length.specs.declared.points.GridBox.{GridBox}
use Rattle.ngc_fixed_length.specs.declared.points.StepPos.{StepPos}

-- p lies between the corners low and high, on each axis
pub record IsBetween (low high p : StepPos) : Type 0 where
  pub x_low : low.x ≤ℤ p.x
  pub x_high : p.x ≤ℤ high.x
  pub y_low : low.y ≤ℤ p.y
  pub y_high : p.y ≤ℤ high.y
  pub z_low : low.z ≤ℤ p.z
  pub z_high : p.z ≤ℤ high.z

abbrev pub IsIn : GridBox → StepPos → Type 0
IsIn b p = IsBetween b.low b.high p

-- on each axis p is at most q
abbrev pub is_below : StepPos → StepPos → Bool
is_below p q = int_le p.x q.x && (int_le p.y q.y && int_le p.z q.z)

-- the outer box contains all of the inner one
abbrev pub holds_box : GridBox → GridBox → Bool
holds_box outer inner = is_below outer.low inner.low && is_below inner.high outer.high

-- on each axis the lesser, and the greater, of the two coordinates
abbrev pub lesser_corner : StepPos → StepPos → StepPos
lesser_corner p q = record { x = int_min p.x q.x; y = int_min p.y q.y; z = int_min p.z q.z }

abbrev pub greater_corner : StepPos → StepPos → StepPos
greater_corner p q = record { x = int_max p.x q.x; y = int_max p.y q.y; z = int_max p.z q.z }

-- the box of one point
abbrev pub only : StepPos → GridBox
only p = record { low = p; high = p }

-- the smallest box that contains both points
abbrev pub box_of : StepPos → StepPos → GridBox
box_of p q = record { low = lesser_corner p q; high = greater_corner p q }

-- the intersection of two boxes
abbrev pub common_box : GridBox → GridBox → GridBox
common_box a b = record { low = greater_corner a.low b.low; high = lesser_corner a.high b.high }

-- the first grid point that is not below a length, in steps; and the last one that is not above it
abbrev pub grid_above : ℤ → ℤ → ℤ
grid_above step l = neg_ℤ (int_div_euclid (neg_ℤ l) step)

abbrev pub grid_below : ℤ → ℤ → ℤ
grid_below step l = int_div_euclid l step
