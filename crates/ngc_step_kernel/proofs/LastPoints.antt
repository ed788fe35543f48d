-- The distance of a wheel's point on the grid from the arc's end, along each axis, from their
-- spokes about the centre.
use Rattle.std.proofs.Common.{◌≡◌, ℕ, suc, ◌+◌, ◌*◌, ◌<◌, ◌≤◌, ◌⊎◌, inl, inr, ℤ, pos, ◌+ℤ◌, ◌-ℤ◌, ◌*ℤ◌, neg_ℤ, unsigned_abs, arith, ap, sym, subst, ◌∙◌}
use Rattle.std.proofs.lemmas.Int.{ints}
use borrow.Author.Differences.{neg_is}
use Rattle.ngc_fixed_length.specs.Grid.{distance}
use Rattle.ngc_fixed_length.specs.declared.points.Point2.{Point2}
use Rattle.ngc_circle_walk.specs.declared.spoke.Quadrant.{Quadrant}
use Rattle.ngc_circle_walk.specs.declared.spoke.Quadrant.TheVariants.{First, Second, Third, Fourth}
use Rattle.ngc_circle_walk.specs.declared.spoke.Spoke.{Spoke}
use Rattle.ngc_circle_walk.specs.Around.{around}
use Rattle.ngc_circle_walk.specs.Quadrants.{following}
use Rattle.ngc_circle_walk.proofs.NearEnd.{IsBeside}
use Rattle.ngc_circle_walk.proofs.SmallCircles.{apart}
use Rattle.ngc_arc_geometry.specs.Shape.{ArcShape, end_of}
use Rattle.ngc_arc_geometry.specs.Radii.{squared_distance}
use Rattle.ngc_circle_laws.specs.ArcWalk.{IsWalk}
use Rattle.ngc_circle_laws.specs.Placed.{turned_by}
use Rattle.ngc_circle_laws.proofs.Walks.{quadrant_on}
use Rattle.ngc_step_kernel.specs.declared.round.Vector2.{Vector2}
use Rattle.ngc_step_kernel.specs.declared.spot.Spot.{Spot}
use Rattle.ngc_step_kernel.specs.About.{IsAbout}
use Rattle.ngc_step_kernel.specs.PlaneCourse.{laid}
use Rattle.ngc_step_kernel.specs.View.{view_of, place_of}
use Rattle.ngc_step_kernel.proofs.LastMoves.{IsShortOf, beside_short}
use Rattle.ngc_step_kernel.proofs.PlaneApart.{end_apart}

-- ---- along the axes, from the end of a vector from the centre to a grid point: m and n, in either
-- order

abbrev pub IsOff : ℕ → Vector2 → Vector2 → Spot → ℕ → ℕ → Type 0
IsOff g c w p m n =
    ((distance (c.u +ℤ w.u) (p.u *ℤ pos g) ≡ m) × (distance (c.v +ℤ w.v) (p.v *ℤ pos g) ≡ n)) ⊎
    ((distance (c.u +ℤ w.u) (p.u *ℤ pos g) ≡ n) × (distance (c.v +ℤ w.v) (p.v *ℤ pos g) ≡ m))

off_along : (c w z a : ℤ) (m : ℕ) → z ≡ c +ℤ a → unsigned_abs (a -ℤ w) ≡ m → distance (c +ℤ w) z ≡ m
off_along c w z a m e h = omega (arith, ints, e, h)

-- vectors in the same direction along an axis
ahead_off : (x z : ℕ) → unsigned_abs (pos x -ℤ pos z) ≡ apart x z
ahead_off x z = omega (arith, ints)

back_off : (x z : ℕ) → unsigned_abs (neg_ℤ (pos x) -ℤ neg_ℤ (pos z)) ≡ apart x z
back_off x z = omega (arith, ints, neg_is (pos x), neg_is (pos z))

-- and vectors in opposite directions
ahead_across : (x z : ℕ) → unsigned_abs (pos x -ℤ neg_ℤ (pos z)) ≡ x + z
ahead_across x z = omega (arith, ints, neg_is (pos z))

back_across : (x z : ℕ) → unsigned_abs (neg_ℤ (pos x) -ℤ pos z) ≡ x + z
back_across x z = omega (arith, ints, neg_is (pos x))

around_same : (q : Quadrant) (x y z t : ℕ) → (let d = around q x y in let e = around q z t in
    ((unsigned_abs (d.u -ℤ e.u) ≡ apart x z) × (unsigned_abs (d.v -ℤ e.v) ≡ apart y t)) ⊎
    ((unsigned_abs (d.u -ℤ e.u) ≡ apart y t) × (unsigned_abs (d.v -ℤ e.v) ≡ apart x z)))
around_same First x y z t = inl (ahead_off x z, ahead_off y t)
around_same Second x y z t = inr (back_off y t, ahead_off x z)
around_same Third x y z t = inl (back_off x z, back_off y t)
around_same Fourth x y z t = inr (ahead_off y t, back_off x z)

around_next : (q : Quadrant) (x y z t : ℕ) → (let d = around q x y in let e = around (following q) z t in
    ((unsigned_abs (d.u -ℤ e.u) ≡ x + t) × (unsigned_abs (d.v -ℤ e.v) ≡ apart y z)) ⊎
    ((unsigned_abs (d.u -ℤ e.u) ≡ apart y z) × (unsigned_abs (d.v -ℤ e.v) ≡ x + t)))
around_next First x y z t = inl (ahead_across x t, ahead_off y z)
around_next Second x y z t = inr (back_off y z, ahead_across x t)
around_next Third x y z t = inl (back_across x t, back_off y z)
around_next Fourth x y z t = inr (ahead_off y z, back_across x t)

off_of : (g : ℕ) (c w : Vector2) (p : Spot) (s : Spoke) (d : Point2) (m n : ℕ) → IsAbout g (place_of c) p s → d ≡ place_of w →
    (let a = around s.quadrant s.x s.y in ((unsigned_abs (a.u -ℤ d.u) ≡ m) × (unsigned_abs (a.v -ℤ d.v) ≡ n)) ⊎
    ((unsigned_abs (a.u -ℤ d.u) ≡ n) × (unsigned_abs (a.v -ℤ d.v) ≡ m))) → IsOff g c w p m n
off_of g c w p s d m n about there off =
    let a = around s.quadrant s.x s.y in
    let u : d.u ≡ w.u = ap (λ (z : Point2). z.u) there in
    let v : d.v ≡ w.v = ap (λ (z : Point2). z.v) there in
    elim off [
      | inl h ↦ inl (
        off_along c.u w.u (p.u *ℤ pos g) a.u m about.u (omega (arith, ints, u, h.0)),
        off_along c.v w.v (p.v *ℤ pos g) a.v n about.v (omega (arith, ints, v, h.1)),
      )
      | inr h ↦ inr (
        off_along c.u w.u (p.u *ℤ pos g) a.u n about.u (omega (arith, ints, u, h.0)),
        off_along c.v w.v (p.v *ℤ pos g) a.v m about.v (omega (arith, ints, v, h.1)),
      )
    ]

-- in one quadrant
pub same_off : (g : ℕ) (c w : Vector2) (p : Spot) (s e : Spoke) → IsAbout g (place_of c) p s → around e.quadrant e.x e.y ≡ place_of w → s.quadrant ≡ e.quadrant →
    IsOff g c w p (apart s.x e.x) (apart s.y e.y)
same_off g c w p s e about end same =
    off_of g c w p s (around s.quadrant e.x e.y) (apart s.x e.x) (apart s.y e.y) about (ap (λ (q : Quadrant). around q e.x e.y) same ∙ end)
    (around_same s.quadrant s.x s.y e.x e.y)

-- the end in the next quadrant
pub next_off : (g : ℕ) (c w : Vector2) (p : Spot) (s e : Spoke) → IsAbout g (place_of c) p s → around e.quadrant e.x e.y ≡ place_of w →
    e.quadrant ≡ following s.quadrant → IsOff g c w p (s.x + e.y) (apart s.y e.x)
next_off g c w p s e about end next =
    off_of g c w p s (around (following s.quadrant) e.x e.y) (s.x + e.y) (apart s.y e.x) about (ap (λ (q : Quadrant). around q e.x e.y) (sym next) ∙ end)
    (around_next s.quadrant s.x s.y e.x e.y)

-- ---- less than one and a half steps on both axes, or fifteen squares of a step

pub off_short : (g : ℕ) (c w : Vector2) (p : Spot) (m n : ℕ) → IsOff g c w p m n → 2 * m < 3 * g → 2 * n < 3 * g → IsShortOf g c w p
off_short g c w p m n (inl off) hm hn = beside_short g c w p (omega (arith, off.0, hm)) (omega (arith, off.1, hn))
off_short g c w p m n (inr off) hm hn = beside_short g c w p (omega (arith, off.0, hn)) (omega (arith, off.1, hm))

square_sums : (x y m n : ℕ) → x ≡ m → y ≡ n → x * x + y * y ≡ m * m + n * n
square_sums x y m n hx hy = ap (λ t. t * t + y * y) hx ∙ ap (λ t. m * m + t * t) hy

pub off_apart : (a : ArcShape) (g : ℕ) (p : Spot) (m n : ℕ) → IsOff g (view_of a).centre (view_of a).end p m n →
    squared_distance (end_of a) (laid g a.turn p) ≡ m * m + n * n
off_apart a g p m n off =
    let c = (view_of a).centre in
    let w = (view_of a).end in
    let x = distance (c.u +ℤ w.u) (p.u *ℤ pos g) in
    let y = distance (c.v +ℤ w.v) (p.v *ℤ pos g) in
    elim off [
      | inl h ↦ end_apart a g p ∙ square_sums x y m n h.0 h.1
      | inr h ↦ end_apart a g p ∙ square_sums x y n m h.0 h.1 ∙ omega arith
    ]

beside_apart : (g x z : ℕ) → IsBeside g x z → 2 * apart x z < 3 * g
beside_apart g x z h = omega (arith, ints, h.up, h.down)

-- ---- the last point before the end's ray

pub large_last_short : (g : ℕ) (c w : Vector2) (p : Spot) (s e : Spoke) (here last : ℕ) → IsAbout g (place_of c) p s → around e.quadrant e.x e.y ≡ place_of w →
    (here ≡ last → s.quadrant ≡ e.quadrant) → (here + 1 ≡ last → e.quadrant ≡ following s.quadrant) →
    ((here ≡ last) × (IsBeside g s.x e.x × IsBeside g s.y e.y)) ⊎ ((here + 1 ≡ last) × ((2 * (s.x + e.y) < 3 * g) × IsBeside g s.y e.x)) → IsShortOf g c w p
large_last_short g c w p s e here last about end same next near = elim near [
  | inl one ↦ off_short g c w p (apart s.x e.x) (apart s.y e.y) (same_off g c w p s e about end (same one.0)) (beside_apart g s.x e.x one.1.0)
      (beside_apart g s.y e.y one.1.1)
  | inr two ↦ off_short g c w p (s.x + e.y) (apart s.y e.x) (next_off g c w p s e about end (next two.0)) two.1.0 (beside_apart g s.y e.x two.1.1)
]

pub small_last_near : (a : ArcShape) (g : ℕ) (p : Spot) (s e : Spoke) (here last : ℕ) → IsAbout g (place_of (view_of a).centre) p s →
    around e.quadrant e.x e.y ≡ place_of (view_of a).end →
    (here ≡ last → s.quadrant ≡ e.quadrant) → (here + 1 ≡ last → e.quadrant ≡ following s.quadrant) →
    ((here ≡ last) × (apart s.x e.x * apart s.x e.x + apart s.y e.y * apart s.y e.y ≤ 15 * (g * g))) ⊎
    ((here + 1 ≡ last) × ((s.x + e.y) * (s.x + e.y) + apart s.y e.x * apart s.y e.x ≤ 15 * (g * g))) →
    squared_distance (end_of a) (laid g a.turn p) ≤ 15 * (g * g)
small_last_near a g p s e here last about end same next near =
    let c = (view_of a).centre in
    let w = (view_of a).end in
    elim near [
      | inl one ↦ (let h = off_apart a g p (apart s.x e.x) (apart s.y e.y) (same_off g c w p s e about end (same one.0)) in
          subst (λ t. t ≤ 15 * (g * g)) (sym h) one.1)
      | inr two ↦ (let h = off_apart a g p (s.x + e.y) (apart s.y e.x) (next_off g c w p s e about end (next two.0)) in
          subst (λ t. t ≤ 15 * (g * g)) (sym h) two.1)
    ]

-- the quadrants of a walk's last point and of the end
pub last_quadrants : (a : ArcShape) (g limit n : ℕ) (at : ℕ → Spoke) (quadrant : ℕ → ℕ) (b e : Spoke) (begun left : ℕ) →
    IsWalk a g limit n at quadrant b e begun left →
    (quadrant n ≡ left → (at n).quadrant ≡ e.quadrant) × (quadrant n + 1 ≡ left → e.quadrant ≡ following (at n).quadrant)
last_quadrants a g limit n at quadrant b e begun left w =
    let first = (at 0).quadrant in
    let here = quadrant_on g limit n at quadrant n w.rolling (omega arith) in (
      λ same. here ∙ ap (λ m. turned_by m first) same ∙ sym w.to_end,
      λ next. (let more : left ≡ suc (quadrant n) = omega (arith, next) in w.to_end ∙ ap (λ m. turned_by m first) more ∙ ap following (sym here)),
    )
