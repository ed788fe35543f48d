-- From nanometres to grid points, and a cut arc's box in its plane's coordinates.
use Rattle.std.proofs.Common.{◌≡◌, ℕ, zero, suc, ◌<◌, arith, refl, ℤ, pos, negsuc, ◌*ℤ◌, neg_ℤ, ◌≤ℤ◌}
use Rattle.std.specs.Int.{int_div_euclid}
use Rattle.std.proofs.lemmas.Int.{ints}
use Rattle.std.proofs.lemmas.Nat.{le-div, div_below}
use Rattle.ngc_fixed_length.specs.Boxes.{grid_above, grid_below, IsBetween}
use Rattle.ngc_fixed_length.specs.Places.{in_plane, height}
use Rattle.ngc_fixed_length.specs.declared.modes.Plane.{Plane}
use Rattle.ngc_fixed_length.specs.declared.modes.Plane.TheVariants.{XY, ZX, YZ}
use Rattle.ngc_fixed_length.specs.declared.points.StepPos.{StepPos}
use Rattle.ngc_arc_geometry.specs.Swept.{grid_at}

floor_above : (y : ℕ) (q x : ℤ) → 0 < y → (q *ℤ pos y) ≤ℤ x → q ≤ℤ int_div_euclid x (pos y)
floor_above y (pos m) (pos a) p h = let i = le-div m a y p (omega (arith, ints, h)) in omega (arith, ints, i)
floor_above y (pos m) (negsuc a) p h = absurd (omega (arith, ints, h))
floor_above y (negsuc m) (pos a) p h = omega (arith, ints)
floor_above y (negsuc m) (negsuc a) p h = let i = div_below a y (suc m) p (omega (arith, ints, h)) in omega (arith, ints, i)

flipped : (g : ℕ) (p : ℤ) → neg_ℤ p *ℤ pos g ≡ neg_ℤ (p *ℤ pos g)
flipped g (pos zero) = omega (arith, ints)
flipped g (pos (suc m)) = omega (arith, ints)
flipped g (negsuc m) = omega (arith, ints)

pub below_high : (y : ℕ) (p l : ℤ) → 0 < y → (p *ℤ pos y) ≤ℤ l → p ≤ℤ grid_below (pos y) l
below_high y p l z h = floor_above y p l z h

pub above_low : (y : ℕ) (p l : ℤ) → 0 < y → l ≤ℤ (p *ℤ pos y) → grid_above (pos y) l ≤ℤ p
above_low y p l z h =
    let e : (neg_ℤ p *ℤ pos y) ≤ℤ neg_ℤ l = rw (flipped y p) (omega (arith, ints, h)) in
    let f = floor_above y (neg_ℤ p) (neg_ℤ l) z e in
    omega (arith, ints, f)

-- the three axes, in the plane's names
pub record IsPlaced (plane : Plane) (p : StepPos) (lu hu lv hv lw hw : ℤ) : Type 0 where
  pub u_low : lu ≤ℤ (in_plane plane (record { x = p.x; y = p.y; z = p.z })).u
  pub u_high : (in_plane plane (record { x = p.x; y = p.y; z = p.z })).u ≤ℤ hu
  pub v_low : lv ≤ℤ (in_plane plane (record { x = p.x; y = p.y; z = p.z })).v
  pub v_high : (in_plane plane (record { x = p.x; y = p.y; z = p.z })).v ≤ℤ hv
  pub w_low : lw ≤ℤ height plane (record { x = p.x; y = p.y; z = p.z })
  pub w_high : height plane (record { x = p.x; y = p.y; z = p.z }) ≤ℤ hw

pub placed : (plane : Plane) (p : StepPos) (lu hu lv hv lw hw : ℤ) → IsPlaced plane p lu hu lv hv lw hw →
    IsBetween (grid_at plane lu lv lw) (grid_at plane hu hv hw) p
placed XY p lu hu lv hv lw hw h = record { x_low = h.u_low; x_high = h.u_high; y_low = h.v_low; y_high = h.v_high; z_low = h.w_low; z_high = h.w_high }
placed ZX p lu hu lv hv lw hw h = record { x_low = h.v_low; x_high = h.v_high; y_low = h.w_low; y_high = h.w_high; z_low = h.u_low; z_high = h.u_high }
placed YZ p lu hu lv hv lw hw h = record { x_low = h.w_low; x_high = h.w_high; y_low = h.u_low; y_high = h.u_high; z_low = h.v_low; z_high = h.v_high }

-- the heights of a box, in the plane's names
pub heights : (plane : Plane) (p : StepPos) (lu hu lv hv lw hw : ℤ) → IsBetween (grid_at plane lu lv lw) (grid_at plane hu hv hw) p →
    (lw ≤ℤ height plane (record { x = p.x; y = p.y; z = p.z })) × (height plane (record { x = p.x; y = p.y; z = p.z }) ≤ℤ hw)
heights XY p lu hu lv hv lw hw h = (h.z_low, h.z_high)
heights ZX p lu hu lv hv lw hw h = (h.y_low, h.y_high)
heights YZ p lu hu lv hv lw hw h = (h.x_low, h.x_high)

pub u_scaled : (plane : Plane) (step : ℤ) (p : StepPos) →
    (in_plane plane (record { x = p.x *ℤ step; y = p.y *ℤ step; z = p.z *ℤ step })).u ≡ (in_plane plane (record { x = p.x; y = p.y; z = p.z })).u *ℤ step
u_scaled XY step p = refl
u_scaled ZX step p = refl
u_scaled YZ step p = refl

pub v_scaled : (plane : Plane) (step : ℤ) (p : StepPos) →
    (in_plane plane (record { x = p.x *ℤ step; y = p.y *ℤ step; z = p.z *ℤ step })).v ≡ (in_plane plane (record { x = p.x; y = p.y; z = p.z })).v *ℤ step
v_scaled XY step p = refl
v_scaled ZX step p = refl
v_scaled YZ step p = refl
