-- The wheel's part of a course follows the arc.
use Rattle.std.proofs.Common.{◌≡◌, ℕ, suc, ◌+◌, ◌-◌, ◌*◌, ◌/◌, ◌<◌, ◌≤◌, ℤ, pos, ◌+ℤ◌, ◌*ℤ◌, inl, inr, sym, ◌∙◌, ap, subst, arith}
use Rattle.std.specs.Prelude.{Some, int_lt}
use Rattle.std.proofs.lemmas.Bool.{cases_lt}
use Rattle.std.proofs.lemmas.Int.{ints}
use Rattle.std.proofs.Math.Nat.{mul-le-mul_left}
use borrow.Author.Differences.{neg_is}
use Rattle.ngc_fixed_length.specs.Roots.{IsRootCeil}
use Rattle.ngc_fixed_length.specs.declared.modes.Turn.{Turn}
use Rattle.ngc_fixed_length.specs.declared.modes.Turn.TheVariants.{Clockwise, Counterclockwise}
use Rattle.ngc_fixed_length.specs.declared.points.Point2.{Point2}
use Rattle.ngc_circle_walk.specs.declared.spoke.Spoke.{Spoke}
use Rattle.ngc_circle_walk.specs.Around.{around}
use Rattle.ngc_circle_walk.specs.Bounds.{IsBelow, IsAbove}
use Rattle.ngc_circle_walk.specs.Quadrants.{quadrants_to}
use Rattle.ngc_circle_walk.specs.Rolling.{spoke_at, quadrant_at}
use Rattle.ngc_circle_walk.specs.Wheel.{is_before, next_roll, rolled}
use Rattle.ngc_circle_walk.proofs.WheelStart.{IsSmallSize, more_limit, twice_high}
use Rattle.ngc_circle_walk.proofs.CircleLaws.{rim_of}
use Rattle.ngc_circle_walk.proofs.NearEnd.{limit_of}
use Rattle.ngc_circle_walk.proofs.OneRoll.{next_is_due}
use Rattle.ngc_circle_walk.proofs.Rays.{square_le, from_squares}
use Rattle.ngc_circle_walk.proofs.Rolling.{soon_past}
use Rattle.ngc_circle_walk.proofs.Wheeling.{first_spoke, next_spoke, next_quadrant}
use Rattle.ngc_arc_geometry.specs.Shape.{ArcShape, start_of, end_of}
use Rattle.ngc_arc_geometry.specs.Radii.{inner_radius, outer_radius}
use Rattle.ngc_circle_laws.specs.ArcWalk.{IsWalk, IsBeforeEnd}
use Rattle.ngc_circle_laws.specs.Placed.{mirrored, placed, first_axis}
use Rattle.ngc_circle_laws.proofs.ArcBoxes.{IsEnd}
use Rattle.ngc_circle_laws.proofs.Circuit.{IsCircuit}
use Rattle.ngc_circle_laws.proofs.LastPoints.{IsLast}
use Rattle.ngc_circle_laws.proofs.Followed.{at_most_four}
use Rattle.ngc_circle_laws.proofs.SmallCircuit.{IsSmallCircuit}
use Rattle.ngc_circle_laws.proofs.Walks.{few_on, ends_there}
use Rattle.ngc_step_kernel.specs.declared.spot.Spot.{Spot}
use Rattle.ngc_step_kernel.specs.About.{IsAbout}
use Rattle.ngc_step_kernel.specs.Entered.{way_cross}
use Rattle.ngc_step_kernel.specs.PlaneCourse.{laid}
use Rattle.ngc_step_kernel.specs.Round.{turned}
use Rattle.ngc_step_kernel.specs.View.{squared, view_of, place_of, quadrants_left}
use Rattle.ngc_step_kernel.proofs.AroundLemmas.{some_root}
use Rattle.ngc_step_kernel.proofs.EntryLemmas.{square_of_way}
use Rattle.ngc_step_kernel.proofs.FirstPoint.{begins_at, small_bound, large_bound}
use Rattle.ngc_step_kernel.proofs.RoundWalk.{walks}
use Rattle.ngc_step_kernel.proofs.Settings.{IsSetting, IsInside, HasJoint, sizes, has_joint}
use Rattle.ngc_step_kernel.proofs.StraightParts.{inner_root, outer_root}
use Rattle.ngc_step_kernel.proofs.ViewLemmas.{squared_is}
use Rattle.ngc_circle_laws.proofs.PassedQuadrants.{at_most_one}

-- ---- the position of a wheel's point in the plane

laid_turned : (t : Turn) (c : Point2) (p : Spot) (g : ℕ) (d : Point2) → p.v *ℤ pos g ≡ turned t c.v +ℤ d.v → turned t (p.v *ℤ pos g) ≡ c.v +ℤ (mirrored t d).v
laid_turned Counterclockwise c p g d h = h
laid_turned Clockwise c p g d h = let e = neg_is c.v in let f = neg_is d.v in let i = neg_is (p.v *ℤ pos g) in omega (arith, ints, h, e, f, i)

laid_along : (t : Turn) (c : Point2) (p : Spot) (g : ℕ) (d : Point2) → p.u *ℤ pos g ≡ c.u +ℤ d.u → p.u *ℤ pos g ≡ c.u +ℤ (mirrored t d).u
laid_along Counterclockwise c p g d h = h
laid_along Clockwise c p g d h = h

abbrev point_at : ℤ → ℤ → Point2
point_at u v = record { u = u; v = v }

point_is : (u v x y : ℤ) → u ≡ x → v ≡ y → point_at u v ≡ point_at x y
point_is u v x y e f = ap (λ (z : ℤ). point_at z v) e ∙ ap (λ (z : ℤ). point_at x z) f

pub laid_placed : (a : ArcShape) (g : ℕ) (p : Spot) (s : Spoke) → IsAbout g (place_of (view_of a).centre) p s → laid g a.turn p ≡ placed a s
laid_placed a g p s h =
    let d = around s.quadrant s.x s.y in
    point_is (p.u *ℤ pos g) (turned a.turn (p.v *ℤ pos g)) (a.centre.u +ℤ (mirrored a.turn d).u) (a.centre.v +ℤ (mirrored a.turn d).v)
    (laid_along a.turn a.centre p g d h.u) (laid_turned a.turn a.centre p g d h.v)

-- ---- the walk, and its ends

pub record IsRoundSetting (a : ArcShape) (g p r o left m : ℕ) (from to joint entry : Spot) (first last : Spoke) : Type 0 where
  pub setting : IsSetting a g p r o from to joint entry first last
  pub counted : quadrants_left (quadrants_to first.quadrant last.quadrant) (int_lt (pos 0) (way_cross (view_of a).start (view_of a).end))
      (is_before first last) ≡ Some left
  pub before : IsBeforeEnd (quadrant_at g ((o + 2 * g / 5) * (o + 2 * g / 5)) first m) left (spoke_at g ((o + 2 * g / 5) * (o + 2 * g / 5)) first m) last
  pub past : m < 100000000 →
      IsBeforeEnd (quadrant_at g ((o + 2 * g / 5) * (o + 2 * g / 5)) first (m + 1)) left (spoke_at g ((o + 2 * g / 5) * (o + 2 * g / 5)) first (m + 1)) last → ⊥

-- no walk is cut off
few_of : (a : ArcShape) (g u limit m : ℕ) (at : ℕ → Spoke) (quadrant : ℕ → ℕ) (b e : Spoke) (begun left : ℕ) → IsWalk a g limit m at quadrant b e begun left →
    500 ≤ g → limit ≤ u * u → 2 * (g * g) ≤ u * u → IsBelow g (u * u) (at 0) →
    u + g ≤ 2100000000 → m < 100000000
few_of a g u limit m at quadrant b e begun left w step bound room first small =
    let four = at_most_four (begun + left) b.x b.y e.x e.y w.turn in
    let few = few_on a g limit m at quadrant b e begun left m w (omega arith) in
    let h = soon_past g u limit m at quadrant m 4 w.rolling bound room first (omega arith) (omega (arith, few, four)) in
    let k = mul-le-mul_left m step in
    omega (arith, h, k, small)

-- its last point, and the move that follows there
pub last_roll : (g limit m left : ℕ) (first last : Spoke) → IsBeforeEnd (quadrant_at g limit first m) left (spoke_at g limit first m) last →
    (IsBeforeEnd (quadrant_at g limit first (m + 1)) left (spoke_at g limit first (m + 1)) last → ⊥) →
    IsLast g limit (spoke_at g limit first m) last (next_roll g limit (spoke_at g limit first m)) (quadrant_at g limit first m) left
last_roll g limit m left first last before past =
    let e : suc m ≡ m + 1 = omega arith in
    let s = next_spoke g limit first m in
    let q = next_quadrant g limit first m in
    let past' : IsBeforeEnd (quadrant_at g limit first (suc m)) left (spoke_at g limit first (suc m)) last →
    ⊥ = λ h. past (subst (λ t. IsBeforeEnd (quadrant_at g limit first t) left (spoke_at g limit first t) last) e h) in
    record {
      roll = next_is_due g limit (spoke_at g limit first m);
      before = before;
      past = subst (λ n. IsBeforeEnd n left (rolled g (next_roll g limit (spoke_at g limit first m)) (spoke_at g limit first m)) last → ⊥) q
          (subst (λ (w : Spoke). IsBeforeEnd (quadrant_at g limit first (suc m)) left w last → ⊥) s past');
    }

-- ---- the arc's ends as ends of rays

pub end_of_ray : (a : ArcShape) (x y n root : ℕ) → n ≡ x * x + y * y → IsRootCeil n root → inner_radius a * inner_radius a ≤ n →
    n ≤ outer_radius a * outer_radius a → 0 < n →
    (floor : ℕ) × IsEnd a x y floor
end_of_ray a x y n root same ceil low high some =
    let up = ceil.square in
    elim (cases_lt n (root * root)) [
      | inr exact ↦ (
        root,
        record {
          low = omega (arith, same, exact);
          high = omega (arith, same, up);
          inner = from_squares (inner_radius a) root (omega (arith, low, up));
          outer = omega (arith, same, high);
          some = some_root n root some up;
        },
      )
      | inl above ↦ (
          let p = root - 1 in
          let one = some_root n root some up in
          let e : p + 1 ≡ root = omega (arith, one) in
          let below : p * p ≤ n = elim (cases_lt n (p * p)) [
            | inr fine ↦ fine
            | inl less ↦ (let h = ceil.least p (omega (arith, less)) in absurd (omega (arith, h, e)))
          ] in
          let sq : (p + 1) * (p + 1) ≡ root * root = ap (λ t. t * t) e in
          let inside : inner_radius a ≤ p = elim (cases_lt p (inner_radius a)) [
            | inr fine ↦ fine
            | inl less ↦ (let h = square_le root (inner_radius a) (omega (arith, less, e)) in absurd (omega (arith, h, low, above)))
          ] in
          let p_some : 0 < p = elim (cases_lt 0 p) [
            | inl fine ↦ fine
            | inr none ↦ (
                let z : root ≡ 1 = omega (arith, none, e) in
                let k : n < 1 * 1 = rw z at above in
                absurd (omega (arith, k, some)))
          ] in (
            p,
            record {
              low = omega (arith, same, below);
              high = omega (arith, same, sq, above);
              inner = inside;
              outer = omega (arith, same, high);
              some = p_some;
            },
          ))
    ]

-- ---- the clauses

-- the walk round the centre, with its start b and the number of quadrants at which it begins
pub record IsRoundWalk (a : ArcShape) (g limit begun left m : ℕ) (b first last : Spoke) : Type 0 where
  pub walk : IsWalk a g limit m (spoke_at g limit first) (quadrant_at g limit first) b last begun left
  pub soon : begun ≤ first_axis b.y
  pub beside : first_axis b.y ≤ begun → (spoke_at g limit first 0).y ≤ g
  pub start_end : (root : ℕ) × IsEnd a b.x b.y root
  pub end_end : (root : ℕ) × IsEnd a last.x last.y root

pub round_walk_of : (a : ArcShape) (g p r o v left m : ℕ) (from to joint entry : Spot) (first last b : Spoke)
    (s : IsRoundSetting a g p r o left m from to joint entry first last) →
    HasJoint a g p o v joint b s.setting.entered.0 → (begun : ℕ) × IsRoundWalk a g ((o + 2 * g / 5) * (o + 2 * g / 5)) begun left m b first last
round_walk_of a g p r o v left m from to joint entry first last b s h =
    let z = s.setting in
    let n = sizes a g p r o from to joint entry first last z in
    let limit = (o + 2 * g / 5) * (o + 2 * g / 5) in
    let room = square_le g (o + 2 * g / 5) (omega (arith, n.circle_long)) in
    let at = begins_at a g p o v limit joint b z.entered.0 first h room z.entered.3 in
    let few : at.0 ≤ 1 = omega (arith, at.1.soon, at_most_one b.y) in
    let w = walks a g limit m at.0 left b first last (omega (arith, z.least)) room h.start_way h.joined.some z.end_way z.end_out at.1 few s.counted s.before in
    let i = inner_root a z.arc in
    let u = outer_root a z.arc in
    let sb = square_of_way (view_of a).start b h.start_way in
    let se = square_of_way (view_of a).end last z.end_way in
    let si = squared_is a.turn a.centre (start_of a) in
    let ei = squared_is a.turn a.centre (end_of a) in (
      at.0,
      record {
        walk = w;
        soon = at.1.soon;
        beside = λ k. subst (λ (q : Spoke). q.y ≤ g) (sym (first_spoke g limit first)) (at.1.beside k);
        start_end = end_of_ray a b.x b.y (squared (view_of a).start) (p + 1) (sym sb) z.start_root (omega (arith, i.square, si)) (omega (arith, u.square, si))
            (omega (arith, si, z.arc.some_radius));
        end_end = end_of_ray a last.x last.y (squared (view_of a).end) r (sym se) z.end_root (omega (arith, i.square, ei)) (omega (arith, u.square, ei))
            (omega (arith, ei, z.arc.some_radius));
      },
    )

pub large_circuit : (a : ArcShape) (g p r q left m : ℕ) (from to joint entry : Spot) (first last : Spoke) →
    IsRoundSetting a g p r (q + 1) left m from to joint entry first last → 8 * g ≤ q + 1 →
    (b : Spoke) × ((begun : ℕ) ×
    (IsCircuit a g q (2 * g / 5) (g / 2) (4 * g / 5) (q + 1 - 4 * g / 5) m (spoke_at g (limit_of q (2 * g / 5)) first)
    (quadrant_at g (limit_of q (2 * g / 5)) first) b last begun left
    × IsRoundWalk a g (limit_of q (2 * g / 5)) begun left m b first last))
large_circuit a g p r q left m from to joint entry first last s large =
    let z = s.setting in
    let n = sizes a g p r (q + 1) from to joint entry first last z in
    let rim = rim_of g q z.least large in
    let v = q + 1 - 4 * g / 5 in
    let limit = limit_of q (2 * g / 5) in
    let inside : IsInside g (q + 1) (4 * g / 5) v = record { low = rim.l_low; high = rim.l_high; inner = rim.inner } in
    let j = has_joint a g p r (q + 1) (4 * g / 5) v from to joint entry first last z inside in
    let w = round_walk_of a g p r (q + 1) v left m from to joint entry first last j.0 s j.1 in
    let bound = large_bound a g p q (2 * g / 5) (g / 2) (4 * g / 5) v joint j.0 z.entered.0 first j.1 rim z.entered.3 in
    let zeroth = sym (first_spoke g limit first) in
    let below = subst (λ (t : Spoke). IsBelow g (limit_of q (4 * g / 5)) t) zeroth bound.below in
    let above = subst (λ (t : Spoke). IsAbove g v t) zeroth bound.above in
    let same : q + 1 ≡ r = omega (arith, z.circle, large, z.least) in
    let grows = square_le (q + 1 + 2 * g / 5) (q + 1 + 4 * g / 5) (omega arith) in
    let wide = square_le (2 * g) (q + 1 + 4 * g / 5) (omega (arith, large)) in
    let few = few_of a g (q + 1 + 4 * g / 5) limit m (spoke_at g limit first) (quadrant_at g limit first) j.0 last w.0 left w.1.walk z.least grows
    (omega (arith, wide)) below
    (omega (arith, same, z.most, z.end_root.least 2000020000 (omega (arith, squared_is a.turn a.centre (end_of a), z.arc.radius)))) in
    let roll = last_roll g limit m left first last s.before (s.past few) in (
      j.0,
      (
        w.0,
        (
          record {
            walk = w.1.walk;
            rim = rim;
            below = below;
            above = above;
            inside = omega (arith, same, n.end_inner);
            outside = omega (arith, same, n.end_outer);
            soon = w.1.soon;
            beside = w.1.beside;
            ends = ends_there g limit (spoke_at g limit first m) last (next_roll g limit (spoke_at g limit first m))
                (quadrant_at g limit first m) left roll.roll roll.before roll.past;
          },
          w.1,
        ),
      ),
    )

pub small_size : (g o : ℕ) → 500 ≤ g → 9 * g ≤ 4 * o → IsSmallSize g o (2 * g / 5) (11 * g / 10) (4 * g / 5) (o - 4 * g / 5)
small_size g o step least = record {
  step = step;
  least = least;
  h_low = omega arith;
  h_high = omega arith;
  l_low = omega arith;
  l_high = omega arith;
  m_low = omega arith;
  m_high = omega arith;
  inner = omega (arith, least);
}

pub small_circuit : (a : ArcShape) (g p r o left m : ℕ) (from to joint entry : Spot) (first last : Spoke) →
    IsRoundSetting a g p r o left m from to joint entry first last → o ≤ 8 * g →
    (b : Spoke) × ((begun : ℕ) ×
    (IsSmallCircuit a g o (2 * g / 5) (11 * g / 10) (4 * g / 5) (o - 4 * g / 5) r m (spoke_at g ((o + 2 * g / 5) * (o + 2 * g / 5)) first)
    (quadrant_at g ((o + 2 * g / 5) * (o + 2 * g / 5)) first) b last begun left
    × IsRoundWalk a g ((o + 2 * g / 5) * (o + 2 * g / 5)) begun left m b first last))
small_circuit a g p r o left m from to joint entry first last s small =
    let z = s.setting in
    let n = sizes a g p r o from to joint entry first last z in
    let size = small_size g o z.least n.circle_long in
    let v = o - 4 * g / 5 in
    let limit = (o + 2 * g / 5) * (o + 2 * g / 5) in
    let inside : IsInside g o (4 * g / 5) v = record { low = size.m_low; high = size.m_high; inner = size.inner } in
    let j = has_joint a g p r o (4 * g / 5) v from to joint entry first last z inside in
    let w = round_walk_of a g p r o v left m from to joint entry first last j.0 s j.1 in
    let bound = small_bound a g p o (2 * g / 5) (11 * g / 10) (4 * g / 5) v joint j.0 z.entered.0 first j.1 size z.entered.3 in
    let zeroth = sym (first_spoke g limit first) in
    let below = subst (λ (t : Spoke). IsBelow g ((o + 11 * g / 10) * (o + 11 * g / 10)) t) zeroth bound.below in
    let above = subst (λ (t : Spoke). IsAbove g v t) zeroth bound.above in
    let few = few_of a g (o + 11 * g / 10) limit m (spoke_at g limit first) (quadrant_at g limit first) j.0 last w.0 left w.1.walk z.least
    (more_limit g o (2 * g / 5) (11 * g / 10) (4 * g / 5) v size) (twice_high g o (2 * g / 5) (11 * g / 10) (4 * g / 5) v size) below
    (omega (arith, small, z.most)) in
    let roll = last_roll g limit m left first last s.before (s.past few) in (
      j.0,
      (
        w.0,
        (
          record {
            walk = w.1.walk;
            size = size;
            small = small;
            below = below;
            above = above;
            inside = n.end_inner;
            outside = n.end_outer;
            circle = elim (cases_lt r o) [
              | inr less ↦ inl (omega (arith, n.no_less, less))
              | inl more ↦ inr (n.no_less, omega (arith, z.circle, more), n.end_long)
            ];
            soon = w.1.soon;
            beside = w.1.beside;
            ends = ends_there g limit (spoke_at g limit first m) last (next_roll g limit (spoke_at g limit first m))
                (quadrant_at g limit first m) left roll.roll roll.before roll.past;
          },
          w.1,
        ),
      ),
    )
