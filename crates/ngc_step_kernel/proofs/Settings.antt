-- The point at which the wheel of an arc begins.
use Rattle.std.proofs.Common.{◌≡◌, ℕ, ◌+◌, ◌*◌, ◌/◌, ◌<◌, ◌≤◌, max, ℤ, pos, ◌+ℤ◌, ◌-ℤ◌, ◌*ℤ◌, ◌<ℤ◌, neg_ℤ, unsigned_abs, inl, inr, refl, sym, ◌∙◌, ap, arith}
use Rattle.std.specs.Prelude.{Bool, true, false, nat_lt}
use Rattle.std.proofs.lemmas.Bool.{cases_lt}
use Rattle.std.proofs.lemmas.Int.{ints}
use Rattle.std.proofs.Math.Nat.{mul-le-mul_left, le_of_mul-le-mul_left}
use borrow.Author.Differences.{neg_is}
use Rattle.ngc_fixed_length.specs.Places.{cross}
use Rattle.ngc_fixed_length.specs.Roots.{IsRootCeil}
use Rattle.ngc_fixed_length.specs.declared.points.Point2.{Point2}
use Rattle.ngc_circle_walk.specs.declared.spoke.Quadrant.{Quadrant}
use Rattle.ngc_circle_walk.specs.declared.spoke.Quadrant.TheVariants.{First, Second, Third, Fourth}
use Rattle.ngc_circle_walk.specs.declared.spoke.Spoke.{Spoke}
use Rattle.ngc_circle_walk.specs.Around.{around, way_to}
use Rattle.ngc_circle_walk.specs.Wheel.{square}
use Rattle.ngc_circle_walk.proofs.WheelStart.{IsNearJoint}
use Rattle.ngc_circle_walk.proofs.Entry.{joint_above}
use Rattle.ngc_circle_walk.specs.Quadrants.{following}
use Rattle.ngc_circle_walk.proofs.QuadrantTurns.{cross_same, cross_next}
use Rattle.ngc_circle_walk.proofs.Rays.{square_le, from_squares}
use Rattle.ngc_arc_geometry.specs.Shape.{ArcShape, start_of, end_of}
use Rattle.ngc_arc_geometry.specs.Radii.{lo, inner_radius, outer_radius, IsArc}
use Rattle.ngc_circle_laws.proofs.FirstPoints.{IsJoined, IsSteep, small_across, steep_is, flat_is, into, from}
use Rattle.ngc_circle_laws.proofs.JointQuadrant.{IsMovedTo, some_spoke, moved_same, moved_opposite, moved_before, four_ways, not_opposite}
use Rattle.ngc_step_kernel.specs.declared.round.Vector2.{Vector2}
use Rattle.ngc_step_kernel.specs.declared.spot.Spot.{Spot}
use Rattle.ngc_step_kernel.specs.About.{IsAbout}
use Rattle.ngc_step_kernel.specs.Entered.{is_steep, way_cross, IsEntered}
use Rattle.ngc_step_kernel.specs.Spots.{straight_moves}
use Rattle.ngc_step_kernel.specs.View.{squared, view_of, way_from, place_of, IsMoved, IsNearestSpot}
use Rattle.ngc_step_kernel.proofs.EntryLemmas.{square_of_way}
use Rattle.ngc_step_kernel.proofs.JointLemmas.{scaled_place, moved_joint, joint_near}
use Rattle.ngc_step_kernel.proofs.LineLemmas.{scale-sum}
use Rattle.ngc_step_kernel.proofs.StraightParts.{start_between, end_between}
use Rattle.ngc_step_kernel.proofs.ViewLemmas.{squared_is}

-- an arc that is not tiny, the radii of its start and end, p + 1 and r, and of the wheel's circle,
-- o; the grid points of start, end and joint, and the wheel's first point
pub record IsSetting (a : ArcShape) (g p r o : ℕ) (from to joint entry : Spot) (first last : Spoke) : Type 0 where
  pub least : 500 ≤ g
  pub most : g ≤ 50000
  pub arc : IsArc a
  pub wide : 9 * (g * g) ≤ 4 * lo a
  pub start_root : IsRootCeil (squared (view_of a).start) (p + 1)
  pub end_root : IsRootCeil (squared (view_of a).end) r
  pub circle : o ≡ max r (9 * g / 4 + 1)
  pub start_at : IsNearestSpot g (view_of a).centre (view_of a).start from
  pub end_at : IsNearestSpot g (view_of a).centre (view_of a).end to
  pub moved_u : IsMoved g (p + 1) o (view_of a).centre.u (view_of a).start.u joint.u
  pub moved_v : IsMoved g (p + 1) o (view_of a).centre.v (view_of a).start.v joint.v
  pub about : IsAbout g (place_of (view_of a).centre) entry first
  pub entered : IsEntered g ((o + 2 * g / 5) * (o + 2 * g / 5)) (view_of a).start (way_from g (view_of a).centre joint) first
  pub beside : straight_moves joint entry ≤ 1
  pub end_way : way_to last ≡ place_of (view_of a).end
  pub end_out : 0 < last.x

-- ---- sizes

pub record AreSizes (a : ArcShape) (g p r o : ℕ) : Type 0 where
  pub start_long : 3 * g ≤ 2 * (p + 1)
  pub end_long : 3 * g ≤ 2 * r
  pub circle_long : 9 * g ≤ 4 * o
  pub start_inner : inner_radius a ≤ p + 1
  pub start_outer : p + 1 ≤ outer_radius a
  pub end_inner : inner_radius a ≤ r
  pub end_outer : r ≤ outer_radius a
  pub no_less : r ≤ o
  pub no_more : o ≤ r + g
  pub few_times : o ≤ 20 * (p + 1)

long_root : (g n m s : ℕ) → 9 * (g * g) ≤ 4 * m → m ≤ n → n ≤ s * s → 3 * g ≤ 2 * s
long_root g n m s wide less round = from_squares (3 * g) (2 * s) (omega (arith, wide, less, round))

pub sizes : (a : ArcShape) (g p r o : ℕ) (from to joint entry : Spot) (first last : Spoke) → IsSetting a g p r o from to joint entry first last →
    AreSizes a g p r o
sizes a g p r o from to joint entry first last s =
    let start_is = squared_is a.turn a.centre (start_of a) in
    let end_is = squared_is a.turn a.centre (end_of a) in
    let start_long = long_root g (squared (view_of a).start) (lo a) (p + 1) s.wide (omega (arith, start_is)) s.start_root.square in
    let end_long = long_root g (squared (view_of a).end) (lo a) r s.wide (omega (arith, end_is)) s.end_root.square in
    let start = start_between a (p + 1) s.arc s.start_root in
    let end = end_between a r s.arc s.end_root in
    record {
      start_long = start_long;
      end_long = end_long;
      circle_long = omega (arith, s.circle);
      start_inner = start.0;
      start_outer = start.1;
      end_inner = end.0;
      end_outer = end.1;
      no_less = omega (arith, s.circle);
      no_more = omega (arith, s.circle, end_long, s.least);
      few_times = omega (arith, s.circle, start_long, start.0, end.1, s.arc.even, s.least);
    }

-- ---- the joint

pub moved_to : (g s r : ℕ) (c b p : ℤ) → IsMoved g s r c b p → IsMovedTo g s r b ((p *ℤ pos g) -ℤ c)
moved_to g s r c b p near =
    let j = (p *ℤ pos g) -ℤ c in
    let whole : j +ℤ c ≡ p *ℤ pos g = omega (arith, ints) in
    let e : p *ℤ pos (s * g) ≡ (j *ℤ pos s) +ℤ (c *ℤ pos s) = scaled_place g s p ∙ sym (ap (λ z. z *ℤ pos s) whole) ∙ scale-sum s j c in
    omega (arith, ints, near, e)

-- the start's vector as a spoke, rounded
root_below : (n p : ℕ) → IsRootCeil n (p + 1) → p * p ≤ n
root_below n p root = elim (cases_lt n (p * p)) [
  | inr fine ↦ fine
  | inl less ↦ (let h = root.least p (omega (arith, less)) in absurd (omega (arith, h)))
]

-- the joint's point about the centre, near the circle; the start's vector is b's
pub record HasJoint (a : ArcShape) (g p o v : ℕ) (joint : Spot) (b j : Spoke) : Type 0 where
  pub start_way : way_to b ≡ place_of (view_of a).start
  pub joint_way : way_to j ≡ place_of (way_from g (view_of a).centre joint)
  pub joined : IsJoined g p o b j
  pub high : 12 * square j.x j.y ≤ 12 * (o * o) + 17 * (o * g) + 6 * (g * g)
  pub low : v * v ≤ square j.x j.y

-- the difference between the circle's radius and the wheel's lower bound
pub record IsInside (g o m v : ℕ) : Type 0 where
  pub low : 4 * g ≤ 5 * m + 4
  pub high : 5 * m ≤ 4 * g
  pub inner : v + m ≡ o

pub some_way : (u v : ℕ) → 0 < u * u + v * v → 0 < u + v
some_way u v h = elim (cases_lt 0 (u + v)) [
  | inl fine ↦ fine
  | inr none ↦ (
      let a : u ≡ 0 = omega (arith, none) in
      let b : v ≡ 0 = omega (arith, none) in
      let z : 0 < 0 * 0 + 0 * 0 = rw (a, b) at h in
      absurd (omega (arith, z)))
]

sum_long : (g x y : ℕ) → g * g ≤ x * x + y * y → g ≤ x + y
sum_long g x y h = from_squares g (x + y) (omega (arith, h))

pub has_joint : (a : ArcShape) (g p r o m v : ℕ) (from to joint entry : Spot) (first last : Spoke) (s : IsSetting a g p r o from to joint entry first last) →
    IsInside g o m v →
    (b : Spoke) × HasJoint a g p o v joint b s.entered.0
has_joint a g p r o m v from to joint entry first last s z =
    let n = sizes a g p r o from to joint entry first last s in
    let c = (view_of a).centre in
    let start = (view_of a).start in
    let w = way_from g c joint in
    let j = s.entered.0 in
    let round = root_below (squared start) p s.start_root in
    let ju = moved_joint g (p + 1) o c.u start.u joint.u s.moved_u in
    let jv = moved_joint g (p + 1) o c.v start.v joint.v s.moved_v in
    let low : v * v ≤ squared w = joint_above g p o m v (unsigned_abs w.u) (unsigned_abs w.v) (unsigned_abs start.u)
    (unsigned_abs start.v) s.least z.low z.inner n.few_times ju jv round in
    let same = square_of_way w j s.entered.1 in
    let long : g ≤ v = omega (arith, z.inner, z.high, n.circle_long) in
    let gv = square_le g v long in
    let gg = mul-le-mul_left g s.least in
    let out = s.entered.2 (some_way (unsigned_abs w.u) (unsigned_abs w.v) (omega (arith, low, gv, gg, s.least))) in
    let some : 0 < squared start = omega (arith, s.wide, squared_is a.turn a.centre (start_of a), gg, s.least) in
    let b = some_spoke start.u start.v (some_way (unsigned_abs start.u) (unsigned_abs start.v) some) in
    let b_same = square_of_way start b.0 b.1 in
    let bu : (way_to b.0).u ≡ start.u = ap (λ (q : Point2). q.u) b.1 in
    let bv : (way_to b.0).v ≡ start.v = ap (λ (q : Point2). q.v) b.1 in
    let ku : (way_to j).u ≡ w.u = ap (λ (q : Point2). q.u) s.entered.1 in
    let kv : (way_to j).v ≡ w.v = ap (λ (q : Point2). q.v) s.entered.1 in (
      b.0,
      record {
        start_way = b.1;
        joint_way = s.entered.1;
        joined = record {
          step = s.least;
          far = omega (arith, n.circle_long, s.least);
          some = b.2;
          out = out;
          long = sum_long g j.x j.y (omega (arith, low, same, gv));
          round = omega (arith, round, b_same);
          moved = (rw (bu, ku) (moved_to g (p + 1) o c.u start.u joint.u s.moved_u), rw (bv, kv) (moved_to g (p + 1) o c.v start.v joint.v s.moved_v));
        };
        high = omega (arith, same, joint_near g (p + 1) o c start joint (omega arith) s.moved_u s.moved_v s.start_root.square);
        low = omega (arith, same, low);
      },
    )

-- ---- the wheel's first point

steep_in : (q : Quadrant) (x y : ℕ) (w : Vector2) → around q x y ≡ place_of w → is_steep q w ≡ nat_lt x y
steep_in First x y w h = rw (sym (ap (λ (p : Point2). p.u) h), sym (ap (λ (p : Point2). p.v) h)) refl
steep_in Second x y w h = let e = neg_is (pos y) in let f : unsigned_abs (neg_ℤ (pos y)) ≡ y = omega (arith, ints, e) in
    rw (sym (ap (λ (p : Point2). p.u) h), sym (ap (λ (p : Point2). p.v) h), f) refl
steep_in Third x y w h =
    let e = neg_is (pos y) in let f : unsigned_abs (neg_ℤ (pos y)) ≡ y = omega (arith, ints, e) in
    let i = neg_is (pos x) in let k : unsigned_abs (neg_ℤ (pos x)) ≡ x = omega (arith, ints, i) in
    rw (sym (ap (λ (p : Point2). p.u) h), sym (ap (λ (p : Point2). p.v) h), f, k) refl
steep_in Fourth x y w h = let i = neg_is (pos x) in let k : unsigned_abs (neg_ℤ (pos x)) ≡ x = omega (arith, ints, i) in
    rw (sym (ap (λ (p : Point2). p.u) h), sym (ap (λ (p : Point2). p.v) h), k) refl

told_steep : (t : Bool) (x y : ℕ) → t ≡ nat_lt x y → IsSteep t x y
told_steep true x y h = elim (cases_lt x y) [
  | inl less ↦ omega (arith, less)
  | inr more ↦ absurd (grind (arith, h, more))
]
told_steep false x y h = elim (cases_lt x y) [
  | inr more ↦ omega (arith, more)
  | inl less ↦ absurd (grind (arith, h, less))
]

pub steep_told : (b j : Spoke) (w : Vector2) → way_to b ≡ place_of w → j.quadrant ≡ b.quadrant → IsSteep (is_steep j.quadrant w) b.x b.y
steep_told b j w at same = told_steep (is_steep j.quadrant w) b.x b.y (ap (λ (q : Quadrant). is_steep q w) same ∙ steep_in b.quadrant b.x b.y w at)

pub cross_told : (b j : Spoke) (s w : Vector2) → way_to b ≡ place_of s → way_to j ≡ place_of w → cross (way_to b) (way_to j) ≡ way_cross s w
cross_told b j s w hb hj = ap (λ (q : Point2). cross q (way_to j)) hb ∙ ap (λ (q : Point2). cross (place_of s) q) hj

-- if the joint is before the start's direction, it is as flat or steep as the start, to within a
-- step
pub near_joint : (a : ArcShape) (g p o v : ℕ) (joint : Spot) (b j : Spoke) → HasJoint a g p o v joint b j → cross (way_to b) (way_to j) <ℤ pos 0 →
    IsNearJoint g o v (is_steep j.quadrant (view_of a).start) j
near_joint a g p o v joint b j h afterwards =
    let t = is_steep j.quadrant (view_of a).start in
    let k = h.joined in
    elim (four_ways b.quadrant j.quadrant) [
      | inl same ↦ (
          let m = moved_same b.quadrant g (p + 1) o b.x b.y j.x j.y (into g p o b.quadrant j.quadrant b.quadrant b.x b.y j.x j.y same k.moved) in
          let c : cross (way_to b) (way_to j) ≡ pos (b.x * j.y) -ℤ pos (b.y * j.x) =
          ap (λ (z : Quadrant). cross (way_to b) (around z j.x j.y)) same ∙ cross_same b.quadrant b.x b.y j.x j.y in
          let less : b.x * j.y < b.y * j.x = omega (arith, ints, afterwards, c) in
          let steep = steep_told b j (view_of a).start h.start_way same in
          record {
            high = h.high;
            low = h.low;
            flat = λ told wide. (
                let f = flat_is t b.x b.y told steep in
                elim (cases_lt j.x j.y) [
                  | inr fine ↦ fine
                  | inl more ↦ (
                      let x = mul-le-mul_left j.x f in
                      let y = mul-le-mul_left b.x (let le : j.x ≤ j.y = omega (arith, more) in le) in
                      absurd (omega (arith, less, x, y)))
                ]);
            steep_but = λ told wide. (
                let f = steep_is t b.x b.y told steep in
                let x = m.0.up in
                let y = m.1.down in
                let o_f = mul-le-mul_left o f in
                let sum : (p + 1) * j.x ≤ (p + 1) * (j.y + g) = omega (arith, x, y, o_f) in
                le_of_mul-le-mul_left sum (omega arith));
          })
      | inr (inl next) ↦ (
          let c : cross (way_to b) (way_to j) ≡ pos (b.x * j.x + b.y * j.y) =
          ap (λ (z : Quadrant). cross (way_to b) (around z j.x j.y)) next ∙ cross_next b.quadrant b.x b.y j.x j.y in
          absurd (omega (arith, ints, afterwards, c)))
      | inr (inr (inl opposite)) ↦ (
          let m = moved_opposite b.quadrant g (p + 1) o b.x b.y j.x j.y
          (into g p o b.quadrant j.quadrant (following (following b.quadrant)) b.x b.y j.x j.y opposite k.moved) in
          absurd (not_opposite g p o b.x b.y j.x j.y k.step k.far k.some k.round m.0 m.1))
      | inr (inr (inr before)) ↦ (
          let m = moved_before j.quadrant g (p + 1) o b.x b.y j.x j.y
          (from g p o b.quadrant j.quadrant (following j.quadrant) b.x b.y j.x j.y before k.moved) in
          let near = small_across g (p + 1) o b.y j.x (omega arith) m.1 in
          record {
            high = h.high;
            low = h.low;
            flat = λ told wide. absurd (omega (arith, near, wide, k.step));
            steep_but = λ told wide. absurd (omega (arith, near, wide, k.step));
          })
    ]
