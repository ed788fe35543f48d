-- Arcs whose end's ray is reached before the wheel moves: they have at most one quadrant point,
-- near the joint.
use Rattle.std.proofs.Common.{◌≡◌, ℕ, zero, suc, ◌+◌, ◌-◌, ◌*◌, ◌<◌, ◌≤◌, min, pos, ◌-ℤ◌, neg_ℤ, ◌≤ℤ◌, ◌⊎◌, inl, inr, sym, ◌∙◌, ap, subst, arith}
use Rattle.std.proofs.lemmas.Int.{ints}
use borrow.Author.Differences.{neg_is}
use Rattle.ngc_fixed_length.specs.Places.{cross}
use Rattle.ngc_circle_walk.specs.declared.spoke.Quadrant.{Quadrant}
use Rattle.ngc_circle_walk.specs.declared.spoke.Spoke.{Spoke}
use Rattle.ngc_circle_walk.specs.Quadrants.{following}
use Rattle.ngc_circle_walk.specs.Around.{around}
use Rattle.ngc_circle_walk.specs.Bounds.{IsBelow, IsAbove}
use Rattle.ngc_circle_walk.proofs.NearEnd.{IsRim, limit_of}
use Rattle.ngc_circle_walk.proofs.QuadrantTurns.{cross_same, cross_behind}
use Rattle.ngc_arc_geometry.specs.Shape.{ArcShape}
use Rattle.ngc_arc_geometry.specs.Radii.{inner_radius, outer_radius}
use Rattle.ngc_arc_geometry.specs.Sector.{extremes}
use Rattle.ngc_arc_geometry.specs.ArcBand.{spread, IsWithin}
use Rattle.ngc_arc_geometry.specs.ArcOrder.{Passes}
use Rattle.ngc_circle_laws.specs.Placed.{placed, turned_by, axis_points, first_axis, IsATurn}
use Rattle.ngc_circle_laws.proofs.CrossProducts.{four_on}
use Rattle.ngc_circle_laws.proofs.Axes.{extremes_are}
use Rattle.ngc_circle_laws.specs.Round.{IsRound}
use Rattle.ngc_circle_laws.proofs.Circuit.{by_first, by_second}

-- if no walk begins, by the path's rule, the end is in the start's quadrant or the next one, and no
-- further on than the walk's first point would be
pub none_begun : (b e : Spoke) (begun n : ℕ) → begun ≤ 1 → (n ≡ 0) ⊎ (n ≡ 3) → e.quadrant ≡ turned_by n (turned_by begun b.quadrant) →
    pos 1 ≤ℤ cross (around b.quadrant b.x b.y) (around e.quadrant e.x e.y) →
    (whole : ℕ) × (whole ≤ begun) × (e.quadrant ≡ turned_by whole b.quadrant) × IsATurn whole b.x b.y e.x e.y
none_begun b e zero n few (inl none) he area =
    let same : e.quadrant ≡ b.quadrant = he ∙ ap (λ m. turned_by m b.quadrant) none in
    let c : cross (around b.quadrant b.x b.y) (around e.quadrant e.x e.y) ≡ pos (b.x * e.y) -ℤ pos (b.y * e.x) =
    (rw same (cross_same b.quadrant b.x b.y e.x e.y)) in
    let sign : pos 1 ≤ℤ (pos (b.x * e.y) -ℤ pos (b.y * e.x)) = subst (λ t. pos 1 ≤ℤ t) c area in
    (0, omega arith, same, omega (arith, ints, sign))
none_begun b e zero n few (inr three) he area =
    let there : e.quadrant ≡ turned_by 3 b.quadrant = he ∙ ap (λ m. turned_by m b.quadrant) three in
    let c : cross (around b.quadrant b.x b.y) (around e.quadrant e.x e.y) ≡ neg_ℤ (pos (b.x * e.x + b.y * e.y)) =
    (rw there (cross_behind b.quadrant b.x b.y e.x e.y)) in
    let sign : pos 1 ≤ℤ neg_ℤ (pos (b.x * e.x + b.y * e.y)) = subst (λ t. pos 1 ≤ℤ t) c area in
    let i = neg_is (pos (b.x * e.x + b.y * e.y)) in
    absurd (omega (arith, ints, sign, i.0, i.1))
none_begun b e (suc zero) n few (inl none) he area = (1, omega arith, he ∙ ap (λ m. turned_by m (following b.quadrant)) none, tt)
none_begun b e (suc zero) n few (inr three) he area =
    let same : e.quadrant ≡ b.quadrant = he ∙ ap (λ m. turned_by m (following b.quadrant)) three ∙ four_on b.quadrant in
    let c : cross (around b.quadrant b.x b.y) (around e.quadrant e.x e.y) ≡ pos (b.x * e.y) -ℤ pos (b.y * e.x) =
    (rw same (cross_same b.quadrant b.x b.y e.x e.y)) in
    let sign : pos 1 ≤ℤ (pos (b.x * e.y) -ℤ pos (b.y * e.x)) = subst (λ t. pos 1 ≤ℤ t) c area in
    (0, omega arith, same, omega (arith, ints, sign))
none_begun b e (suc (suc m)) n few h he area = absurd (omega (arith, few))

-- a point at most a step past the half axis on which this quadrant begins, or before it
abbrev pub IsByAxis : ℕ → Quadrant → Spoke → Type 0
IsByAxis g z s = ((s.quadrant ≡ z) × (s.y ≤ g)) ⊎ ((following s.quadrant ≡ z) × (s.x ≤ g))

pub by_axis : (a : ArcShape) (s : Spoke) (z : Quadrant) (g q h k l v d : ℕ) → IsRim g q h k l v → IsBelow g (limit_of q l) s → IsAbove g v s →
    inner_radius a ≤ q + 1 → q + 1 ≤ outer_radius a →
    spread a + 2 * g ≤ d → IsByAxis g z s → IsWithin d (placed a s) (placed a (record { quadrant = z; x = outer_radius a; y = 0 }))
by_axis a s z g q h k l v d r below above inside outside wide (inl p) =
    subst (λ (t : Quadrant). IsWithin d (placed a s) (placed a (record { quadrant = t; x = outer_radius a; y = 0 }))) p.0
    (by_first a s g q h k l v d r below above inside outside wide p.1)
by_axis a s z g q h k l v d r below above inside outside wide (inr p) =
    subst (λ (t : Quadrant). IsWithin d (placed a s) (placed a (record { quadrant = t; x = outer_radius a; y = 0 }))) p.0
    (by_second a s g q h k l v d r below above inside outside wide p.1)

one_axis : (a : ArcShape) (b s : Spoke) (g q h k l v d j c : ℕ) → IsRim g q h k l v → IsBelow g (limit_of q l) s → IsAbove g v s → inner_radius a ≤ q + 1 →
    q + 1 ≤ outer_radius a →
    spread a + 2 * g ≤ d → c ≤ 1 → (0 < c → IsByAxis g (turned_by j b.quadrant) s) → Passes (λ k. placed a s) 0 d 0 (axis_points a b (outer_radius a) j c)
one_axis a b s g q h k l v d j zero r below above inside outside wide few near = tt
one_axis a b s g q h k l v d j (suc zero) r below above inside outside wide few near =
    (0, omega arith, omega arith, by_axis a s (turned_by j b.quadrant) g q h k l v d r below above inside outside wide (near (omega arith)), tt)
one_axis a b s g q h k l v d j (suc (suc c)) r below above inside outside wide few near = absurd (omega (arith, few))

-- such an arc passes its quadrant point, if there is one, at the one point s
pub short_passes : (a : ArcShape) (b e s : Spoke) (whole g q h k l v d : ℕ) → IsRound a b e whole → IsRim g q h k l v → IsBelow g (limit_of q l) s →
    IsAbove g v s →
    inner_radius a ≤ q + 1 → q + 1 ≤ outer_radius a → spread a + 2 * g ≤ d → whole ≤ first_axis b.y →
    (first_axis b.y ≤ whole → IsByAxis g (turned_by (first_axis b.y) b.quadrant) s) → Passes (λ k. placed a s) 0 d 0 (extremes a)
short_passes a b e s whole g q h k l v d round r below above inside outside wide few near =
    subst (λ ps. Passes (λ k. placed a s) 0 d 0 ps) (sym (extremes_are a b e whole round))
    (one_axis a b s g q h k l v d (first_axis b.y) (min 4 (whole + 1 - first_axis b.y)) r below above inside outside wide (omega (arith, few))
    (λ some. near (omega (arith, some))))
