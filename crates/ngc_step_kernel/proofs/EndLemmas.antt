-- The ends of an arc on the grid, in the arc's plane.
use Rattle.std.proofs.Common.{◌≡◌, ℕ, ◌*◌, ◌<◌, ◌≤◌, ℤ, pos, negsuc, ◌+ℤ◌, ◌-ℤ◌, ◌*ℤ◌, neg_ℤ, unsigned_abs, refl, ap, subst, List, arith}
use Rattle.std.proofs.lemmas.Int.{ints}
use borrow.Author.Differences.{neg_is}
use Rattle.ngc_fixed_length.specs.Grid.{grid}
use Rattle.ngc_fixed_length.specs.Length.{IsStep}
use Rattle.ngc_fixed_length.specs.Places.{in_plane}
use Rattle.ngc_fixed_length.specs.Rounding.{nearest}
use Rattle.ngc_fixed_length.specs.declared.modes.Plane.{Plane}
use Rattle.ngc_fixed_length.specs.declared.modes.Plane.TheVariants.{XY, ZX, YZ}
use Rattle.ngc_fixed_length.specs.declared.modes.Turn.{Turn}
use Rattle.ngc_fixed_length.specs.declared.modes.Turn.TheVariants.{Counterclockwise, Clockwise}
use Rattle.ngc_fixed_length.specs.declared.points.Point2.{Point2}
use Rattle.ngc_fixed_length.specs.declared.points.Point3.{Point3}
use Rattle.ngc_fixed_length.specs.declared.points.StepPos.{StepPos}
use Rattle.ngc_fixed_length.proofs.Nearest.{nearest_near}
use Rattle.ngc_step_kernel.specs.declared.round.Vector2.{Vector2}
use Rattle.ngc_step_kernel.specs.declared.spot.Spot.{Spot}
use Rattle.ngc_step_kernel.specs.Round.{turned, in_space, grid_point_in_plane, seen_height}
use Rattle.ngc_step_kernel.specs.UnitPath.{IsUnitPath}
use Rattle.ngc_step_kernel.specs.View.{way_between, IsRadius, IsNearestSpot, IsInReach}
use Rattle.ngc_step_kernel.proofs.ViewLemmas.{first_side, second_side}

neg_scaled : (n : ℤ) (g : ℕ) → neg_ℤ n *ℤ pos g ≡ neg_ℤ (n *ℤ pos g)
neg_scaled (pos n) g = let e = neg_is (pos n) in omega (arith, ints, ap (λ t. t * g) e.0, ap (λ t. t * g) e.1)
neg_scaled (negsuc n) g = omega (arith, ints)

spot_near : (c z : ℤ) (g : ℕ) → 0 < g → 2 * unsigned_abs ((c +ℤ (z -ℤ c)) -ℤ (nearest z (pos g) *ℤ pos g)) ≤ g
spot_near c z g some = omega (arith, ints, nearest_near z g some)

turned_near : (t : Turn) (c z : ℤ) (g : ℕ) → 0 < g → 2 * unsigned_abs ((turned t c +ℤ turned t (z -ℤ c)) -ℤ (turned t (nearest z (pos g)) *ℤ pos g)) ≤ g
turned_near Counterclockwise c z g some = spot_near c z g some
turned_near Clockwise c z g some =
    let n = nearest z (pos g) in
    omega (arith, ints, nearest_near z g some, neg_scaled n g, neg_is c, neg_is (z -ℤ c), neg_is (n *ℤ pos g))

nearest_seen : (g : ℕ) (plane : Plane) (t : Turn) (c : Point2) (p : Point3) → 0 < g →
    IsNearestSpot g (record { u = c.u; v = turned t c.v }) (way_between t c (in_plane plane p)) (grid_point_in_plane plane t (grid (pos g) p))
nearest_seen g XY t c p some = record { u = spot_near c.u p.x g some; v = turned_near t c.v p.y g some }
nearest_seen g ZX t c p some = record { u = spot_near c.u p.z g some; v = turned_near t c.v p.x g some }
nearest_seen g YZ t c p some = record { u = spot_near c.u p.y g some; v = turned_near t c.v p.z g some }

pub end_seen : (s : ℤ) (plane : Plane) (t : Turn) (c : Point2) (p : Point3) → IsStep s →
    IsNearestSpot (unsigned_abs s) (record { u = c.u; v = turned t c.v }) (way_between t c (in_plane plane p)) (grid_point_in_plane plane t (grid s p))
end_seen (pos g) plane t c p step = nearest_seen g plane t c p (omega (arith, ints, step.least))
end_seen (negsuc n) plane t c p step = absurd (omega (arith, ints, step.least))

-- it is within reach of the centre
axis_reach : (c w p : ℤ) (g r : ℕ) → 2 * unsigned_abs ((c +ℤ w) -ℤ (p *ℤ pos g)) ≤ g → unsigned_abs w ≤ 2000020000 → g ≤ 50000 →
    unsigned_abs ((p *ℤ pos g) -ℤ c) ≤ 3000000000
axis_reach c w p g r near small short = omega (arith, ints, near, small, short)

pub nearest_reach : (g : ℕ) (c w : Vector2) (p : Spot) → IsRadius w → IsNearestSpot g c w p → g ≤ 50000 → IsInReach g c p
nearest_reach g c w p radius near short = record {
  u = axis_reach c.u w.u p.u g 0 near.u (first_side w 2000020000 radius.bound) short;
  v = axis_reach c.v w.v p.v g 0 near.v (second_side w 2000020000 radius.bound) short;
}

-- to the plane's coordinates and back
turned_twice : (t : Turn) (z : ℤ) → turned t (turned t z) ≡ z
turned_twice Counterclockwise z = refl
turned_twice Clockwise z = let e = neg_is z in let f = neg_is (neg_ℤ z) in omega (arith, ints, e, f)

pub seen_back : (plane : Plane) (t : Turn) (p : StepPos) → in_space plane t (grid_point_in_plane plane t p) (seen_height plane p) ≡ p
seen_back XY t p = ap (λ (z : ℤ). record { x = p.x; y = z; z = p.z }) (turned_twice t p.y)
seen_back ZX t p = ap (λ (z : ℤ). record { x = z; y = p.y; z = p.z }) (turned_twice t p.x)
seen_back YZ t p = ap (λ (z : ℤ). record { x = p.x; y = p.y; z = z }) (turned_twice t p.z)

pub unit_back : (plane : Plane) (t : Turn) (p q : StepPos) (start end : Spot) (low high : ℤ) (n : ℕ) (path : List StepPos) →
    start ≡ grid_point_in_plane plane t p → end ≡ grid_point_in_plane plane t q → low ≡ seen_height plane p → high ≡ seen_height plane q →
    IsUnitPath (in_space plane t start low) (in_space plane t end high) n path → IsUnitPath p q n path
unit_back plane t p q start end low high n path hs he hl hh h =
    let a : in_space plane t start low ≡ p = rw (hs, hl) (seen_back plane t p) in
    let b : in_space plane t end high ≡ q = rw (he, hh) (seen_back plane t q) in
    subst (λ (x : StepPos). IsUnitPath x q n path) a (subst (λ (y : StepPos). IsUnitPath (in_space plane t start low) y n path) b h)
