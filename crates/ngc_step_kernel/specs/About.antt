-- A grid point of a plane as a wheel's point about a centre. The centre is in nanometres.
use Rattle.std.specs.Prelude.{◌≡◌, ℕ, pos, ◌+ℤ◌, ◌*ℤ◌}
use Rattle.ngc_fixed_length.specs.declared.points.Point2.{Point2}
use Rattle.ngc_circle_walk.specs.Around.{around}
use Rattle.ngc_circle_walk.specs.declared.spoke.Spoke.{Spoke}
use Rattle.ngc_step_kernel.specs.declared.spot.Spot.{Spot}

pub record IsAbout (g : ℕ) (c : Point2) (p : Spot) (s : Spoke) : Type 0 where
  pub u : (p.u *ℤ pos g) ≡ c.u +ℤ (around s.quadrant s.x s.y).u
  pub v : (p.v *ℤ pos g) ≡ c.v +ℤ (around s.quadrant s.x s.y).v
