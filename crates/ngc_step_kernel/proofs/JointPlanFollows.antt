-- A short arc, for which no walk begins: through the joint straight to the end.
use Rattle.std.proofs.Common.{◌≡◌, ℕ, zero, suc, ◌*◌, ◌<◌, ◌≤◌, ℤ, pos, ◌+ℤ◌, ◌-ℤ◌, ◌*ℤ◌, ◌≤ℤ◌, ◌⊎◌, inl, inr, refl, sym, ◌∙◌, ap, subst, arith}
use Rattle.std.specs.Prelude.{Bool, true, false, Some, None, int_lt}
use Rattle.std.proofs.lemmas.Int.{ints}
use Rattle.ngc_fixed_length.specs.Grid.{distance}
use Rattle.ngc_fixed_length.specs.Places.{cross}
use Rattle.ngc_fixed_length.specs.declared.points.Point2.{Point2}
use Rattle.ngc_circle_walk.specs.declared.spoke.Quadrant.{Quadrant}
use Rattle.ngc_circle_walk.specs.declared.spoke.Quadrant.TheVariants.{First, Second, Third, Fourth}
use Rattle.ngc_circle_walk.specs.declared.spoke.Spoke.{Spoke}
use Rattle.ngc_circle_walk.specs.Around.{way_to}
use Rattle.ngc_circle_walk.specs.Quadrants.{quadrants_to}
use Rattle.ngc_circle_walk.specs.Wheel.{is_before}
use Rattle.ngc_arc_geometry.specs.Shape.{ArcShape, end_of}
use Rattle.ngc_arc_geometry.specs.Radii.{squared_distance}
use Rattle.ngc_circle_laws.specs.Placed.{turned_by}
use Rattle.ngc_circle_laws.proofs.FirstPoints.{Begins}
use Rattle.ngc_circle_laws.proofs.QuadrantCounts.{quadrants_counted}
use Rattle.ngc_circle_laws.proofs.NearEndArcs.{IsPair}
use Rattle.ngc_circle_laws.proofs.NearEndSmallArcs.{IsFew}
use Rattle.ngc_circle_laws.proofs.ReachedEndRays.{IsApart, IsReached, SomeWay, reached}
use Rattle.ngc_circle_laws.proofs.ShortArcs.{none_begun}
use Rattle.ngc_step_kernel.specs.declared.round.Vector2.{Vector2}
use Rattle.ngc_step_kernel.specs.declared.spot.Spot.{Spot}
use Rattle.ngc_step_kernel.specs.Entered.{way_cross}
use Rattle.ngc_step_kernel.specs.PlaneCourse.{laid}
use Rattle.ngc_step_kernel.specs.View.{view_of, way_from, place_of, quadrants_left}
use Rattle.ngc_step_kernel.proofs.LastMoves.{IsShortOf}
use Rattle.ngc_step_kernel.proofs.PlaneApart.{end_apart}
use Rattle.ngc_step_kernel.proofs.RollsLemmas.{told_past}
use Rattle.ngc_step_kernel.proofs.RoundWalk.{amount_of, few_quadrants, told_ahead}

-- ---- the conditions under which no walk begins

none_of : (n : ℕ) (short before : Bool) → n ≤ 3 → quadrants_left n short before ≡ None → (short ≡ true) × (((n ≡ 0) × (before ≡ false)) ⊎ (n ≡ 3))
none_of zero true true few h = absurd (omega (arith, amount_of (Some 0) None h))
none_of zero true false few h = (refl, inl (refl, refl))
none_of zero false before few h = absurd (omega (arith, amount_of (Some 4) None h))
none_of (suc zero) true before few h = absurd (omega (arith, amount_of (Some 1) None h))
none_of (suc zero) false before few h = absurd (omega (arith, amount_of (Some 1) None h))
none_of (suc (suc zero)) true before few h = absurd (omega (arith, amount_of (Some 2) None h))
none_of (suc (suc zero)) false before few h = absurd (omega (arith, amount_of (Some 2) None h))
none_of (suc (suc (suc zero))) true before few h = (refl, inr refl)
none_of (suc (suc (suc zero))) false before few h = absurd (omega (arith, amount_of (Some 3) None h))
none_of (suc (suc (suc (suc n)))) short before few h = absurd (omega (arith, few))

to_itself : (q : Quadrant) → quadrants_to q q ≡ 0
to_itself First = refl
to_itself Second = refl
to_itself Third = refl
to_itself Fourth = refl

either : (n : ℕ) (before : Bool) → ((n ≡ 0) × (before ≡ false)) ⊎ (n ≡ 3) → (n ≡ 0) ⊎ (n ≡ 3)
either n before (inl h) = inl h.0
either n before (inr h) = inr h

past_first : (f e : Spoke) (n : ℕ) → n ≡ quadrants_to f.quadrant e.quadrant → e.quadrant ≡ f.quadrant → ((n ≡ 0) × (is_before f e ≡ false)) ⊎ (n ≡ 3) →
    f.x * e.y ≤ f.y * e.x
past_first f e n count same (inl h) = told_past f e h.1
past_first f e n count same (inr h) =
    let z : quadrants_to f.quadrant e.quadrant ≡ 0 = ap (λ (q : Quadrant). quadrants_to f.quadrant q) same ∙ to_itself f.quadrant in
    absurd (omega (arith, count, h, z))

-- the end's ray is reached at the wheel's first point
pub is_reached : (a : ArcShape) (g begun : ℕ) (b f e : Spoke) → Begins g b f begun → begun ≤ 1 →
    cross (way_to b) (way_to e) ≡ way_cross (view_of a).start (view_of a).end →
    quadrants_left (quadrants_to f.quadrant e.quadrant) (int_lt (pos 0) (way_cross (view_of a).start (view_of a).end)) (is_before f e) ≡ None →
    (whole : ℕ) × IsReached b f e begun whole
is_reached a g begun b f e at few c none =
    let n = quadrants_to f.quadrant e.quadrant in
    let area = way_cross (view_of a).start (view_of a).end in
    let h = none_of n (int_lt (pos 0) area) (is_before f e) (few_quadrants f.quadrant e.quadrant) none in
    let ahead : pos 1 ≤ℤ cross (way_to b) (way_to e) = subst (λ z. pos 1 ≤ℤ z) (sym c) (told_ahead area (sym h.0)) in
    let there : e.quadrant ≡ turned_by n (turned_by begun b.quadrant) = quadrants_counted f.quadrant e.quadrant ∙ ap (turned_by n) at.begins in
    let w = none_begun b e begun n few (either n (is_before f e) h.1) there ahead in
    (w.0, reached g b f e begun w.0 at w.2 w.3 w.1 (λ same. past_first f e n refl (w.2 ∙ ap (λ m. turned_by m b.quadrant) same ∙ sym at.begins) h.1))

-- ---- from vectors to grid points

way_apart : (c w j p : ℤ) (m : ℕ) → distance j w ≡ m → j ≡ p -ℤ c → distance (c +ℤ w) p ≡ m
way_apart c w j p m h e = omega (arith, ints, h, e)

pub spot_apart : (g : ℕ) (c w : Vector2) (p : Spot) (j e : Spoke) (m n : ℕ) → way_to j ≡ place_of (way_from g c p) → way_to e ≡ place_of w →
    IsApart (way_to j) (way_to e) m n →
    ((distance (c.u +ℤ w.u) (p.u *ℤ pos g) ≡ m) × (distance (c.v +ℤ w.v) (p.v *ℤ pos g) ≡ n)) ⊎
    ((distance (c.u +ℤ w.u) (p.u *ℤ pos g) ≡ n) × (distance (c.v +ℤ w.v) (p.v *ℤ pos g) ≡ m))
spot_apart g c w p j e m n hj he h =
    let ju = ap (λ (q : Point2). q.u) hj in
    let jv = ap (λ (q : Point2). q.v) hj in
    let eu = ap (λ (q : Point2). q.u) he in
    let ev = ap (λ (q : Point2). q.v) he in
    elim h [
      | inl k ↦ inl (
        way_apart c.u w.u (way_to j).u (p.u *ℤ pos g) m (sym (ap (λ z. distance (way_to j).u z) eu) ∙ k.0) ju,
        way_apart c.v w.v (way_to j).v (p.v *ℤ pos g) n (sym (ap (λ z. distance (way_to j).v z) ev) ∙ k.1) jv,
      )
      | inr k ↦ inr (
        way_apart c.u w.u (way_to j).u (p.u *ℤ pos g) n (sym (ap (λ z. distance (way_to j).u z) eu) ∙ k.0) ju,
        way_apart c.v w.v (way_to j).v (p.v *ℤ pos g) m (sym (ap (λ z. distance (way_to j).v z) ev) ∙ k.1) jv,
      )
    ]

one_of : (g m : ℕ) → 0 < g → 20 * m ≤ 21 * g → 2 * m < 3 * g
one_of g m some h = omega (arith, some, h)

pub short_of : (g : ℕ) (c w : Vector2) (p : Spot) (j e : Spoke) → 0 < g → way_to j ≡ place_of (way_from g c p) → way_to e ≡ place_of w → SomeWay (IsPair g) j e →
    IsShortOf g c w p
short_of g c w p j e some hj he way =
    let m = way.0 in
    let n = way.1 in
    let k = way.3 in
    elim (spot_apart g c w p j e m n hj he way.2) [
      | inl d ↦ record {
        u = omega (arith, d.0, k.first);
        v = omega (arith, d.1, k.second);
        one = elim k.one [
          | inl h ↦ inl (omega (arith, d.0, one_of g m some h))
          | inr h ↦ inr (omega (arith, d.1, one_of g n some h))
        ];
      }
      | inr d ↦ record {
        u = omega (arith, d.0, k.second);
        v = omega (arith, d.1, k.first);
        one = elim k.one [
          | inl h ↦ inr (omega (arith, d.1, one_of g m some h))
          | inr h ↦ inl (omega (arith, d.0, one_of g n some h))
        ];
      }
    ]

pub near_of : (a : ArcShape) (g : ℕ) (p : Spot) (j e : Spoke) → way_to j ≡ place_of (way_from g (view_of a).centre p) → way_to e ≡ place_of (view_of a).end →
    SomeWay (IsFew g) j e →
    squared_distance (end_of a) (laid g a.turn p) ≤ 15 * (g * g)
near_of a g p j e hj he way =
    let m = way.0 in
    let n = way.1 in
    let same = end_apart a g p in
    elim (spot_apart g (view_of a).centre (view_of a).end p j e m n hj he way.2) [
      | inl d ↦ (let x = ap (λ t. t * t) d.0 in let y = ap (λ t. t * t) d.1 in omega (arith, same, x, y, way.3))
      | inr d ↦ (let x = ap (λ t. t * t) d.0 in let y = ap (λ t. t * t) d.1 in omega (arith, same, x, y, way.3))
    ]
