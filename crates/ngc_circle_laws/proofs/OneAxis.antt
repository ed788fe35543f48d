-- A short arc, for which no walk begins, passes its quadrant point, if there is one, at the joint.
use Rattle.std.proofs.Common.{ℕ, zero, suc, ◌+◌, ◌-◌, ◌*◌, ◌<◌, ◌≤◌, min, inl, inr, sym, subst, arith}
use Rattle.std.specs.Prelude.{Bool}
use Rattle.ngc_circle_walk.specs.declared.spoke.Quadrant.{Quadrant}
use Rattle.ngc_circle_walk.specs.declared.spoke.Roll.{Roll}
use Rattle.ngc_circle_walk.specs.declared.spoke.Roll.TheVariants.{Outward, Diagonal, Inward, Over}
use Rattle.ngc_circle_walk.specs.declared.spoke.Spoke.{Spoke}
use Rattle.ngc_circle_walk.specs.Bounds.{IsBelow, IsAbove}
use Rattle.ngc_circle_walk.specs.Entering.{IsEntry}
use Rattle.ngc_circle_walk.specs.Wheel.{rolled}
use Rattle.ngc_circle_walk.proofs.WheelStart.{IsSmallSize}
use Rattle.ngc_arc_geometry.specs.Shape.{ArcShape}
use Rattle.ngc_arc_geometry.specs.Radii.{inner_radius, outer_radius}
use Rattle.ngc_arc_geometry.specs.Sector.{extremes}
use Rattle.ngc_arc_geometry.specs.ArcBand.{spread, IsWithin}
use Rattle.ngc_arc_geometry.specs.ArcOrder.{Passes}
use Rattle.ngc_circle_laws.specs.Placed.{placed, turned_by, axis_spoke, axis_points, first_axis}
use Rattle.ngc_circle_laws.specs.Round.{IsRound}
use Rattle.ngc_circle_laws.proofs.Axes.{extremes_are}
use Rattle.ngc_circle_laws.proofs.FirstPoints.{Begins}
use Rattle.ngc_circle_laws.proofs.ShortArcs.{IsByAxis}
use Rattle.ngc_circle_laws.proofs.SmallCircuit.{by_first, by_second}

one_point : (a : ArcShape) (b s : Spoke) (d j c : ℕ) → c ≤ 1 → (0 < c → IsWithin d (placed a s) (placed a (axis_spoke b (outer_radius a) j))) →
    Passes (λ k. placed a s) 0 d 0 (axis_points a b (outer_radius a) j c)
one_point a b s d j zero few near = tt
one_point a b s d j (suc zero) few near = (0, omega arith, omega arith, near (omega arith), tt)
one_point a b s d j (suc (suc c)) few near = absurd (omega (arith, few))

pub passes_at_one : (a : ArcShape) (b e s : Spoke) (whole d : ℕ) → IsRound a b e whole → whole ≤ first_axis b.y →
    (first_axis b.y ≤ whole → IsWithin d (placed a s) (placed a (axis_spoke b (outer_radius a) (first_axis b.y)))) → Passes (λ k. placed a s) 0 d 0 (extremes a)
passes_at_one a b e s whole d round few near =
    subst (λ ps. Passes (λ k. placed a s) 0 d 0 ps) (sym (extremes_are a b e whole round))
    (one_point a b s d (first_axis b.y) (min 4 (whole + 1 - first_axis b.y)) (omega (arith, few)) (λ some. near (omega (arith, some))))

-- if the wheel's first point is less than a step past a half axis, the joint is at most a step
-- before or past it
pub stood_by_axis : (g : ℕ) (b j : Spoke) (begun : ℕ) → Begins g b j begun → first_axis b.y ≤ begun → IsByAxis g (turned_by begun b.quadrant) j
stood_by_axis g b j begun at few = inl (at.begins, at.beside few)

pub rolled_by_axis : (g limit : ℕ) (t : Bool) (b j : Spoke) (begun : ℕ) (roll : Roll) → IsEntry g limit t j roll → Begins g b (rolled g roll j) begun →
    first_axis b.y ≤ begun → IsByAxis g (turned_by begun b.quadrant) j
rolled_by_axis g limit t b j begun Over entry at few = inr (at.begins, omega (arith, entry))
rolled_by_axis g limit t b j begun Outward entry at few = inl (at.begins, omega (arith, at.beside few))
rolled_by_axis g limit t b j begun Diagonal entry at few = inl (at.begins, omega (arith, at.beside few))
rolled_by_axis g limit t b j begun Inward entry at few = inl (at.begins, at.beside few)

-- round small circles such a point is near the axis' quadrant point
pub small_by_axis : (a : ArcShape) (s : Spoke) (z : Quadrant) (g o h l m v r d : ℕ) → IsSmallSize g o h l m v → IsBelow g ((o + l) * (o + l)) s →
    IsAbove g v s → inner_radius a ≤ r → r ≤ outer_radius a → (r ≤ o) × (o ≤ r + g) →
    spread a + 5 * g ≤ d → IsByAxis g z s → IsWithin d (placed a s) (placed a (record { quadrant = z; x = outer_radius a; y = 0 }))
small_by_axis a s z g o h l m v r d size below above inside outside circle wide (inl p) =
    subst (λ (t : Quadrant). IsWithin d (placed a s) (placed a (record { quadrant = t; x = outer_radius a; y = 0 }))) p.0
    (by_first a s g o h l m v r d size below above inside outside circle wide p.1)
small_by_axis a s z g o h l m v r d size below above inside outside circle wide (inr p) =
    subst (λ (t : Quadrant). IsWithin d (placed a s) (placed a (record { quadrant = t; x = outer_radius a; y = 0 }))) p.0
    (by_second a s g o h l m v r d size below above inside outside circle wide p.1)
