-- Positions and boxes in the crate's own form. Our own.
use Rattle.std.specs.Prelude.{ℕ, ◌≤◌, unsigned_abs}
use Rattle.ngc_fixed_length.specs.declared.points.Point3.{Point3}
use Rattle.ngc_collision.specs.Body as bodies
use Rattle.ngc_collision.specs.declared.solid.Place.{Place}
use Rattle.ngc_collision.specs.declared.solid.Solid.{Solid}

abbrev pub place_of : Place → Point3
place_of p = record { x = p.x; y = p.y; z = p.z }

abbrev pub solid_of : Solid → bodies.Solid
solid_of s = record { low = place_of s.low; high = place_of s.high }

-- the range of 32-bit numbers of steps, in nanometres
abbrev pub REACH : ℕ
REACH = 107374182400000

-- the greatest distance from the spindle nose to a part's foot
abbrev pub FOOT_REACH : ℕ
FOOT_REACH = 1000000000000

pub record IsReached (p : Place) : Type 0 where
  pub x : unsigned_abs p.x ≤ REACH
  pub y : unsigned_abs p.y ≤ REACH
  pub z : unsigned_abs p.z ≤ REACH
