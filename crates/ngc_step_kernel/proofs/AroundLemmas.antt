-- The path round an arc's centre: what its parts require.
use Rattle.std.proofs.Common.{◌≡◌, ℕ, zero, suc, ◌+◌, ◌*◌, ◌/◌, ◌<◌, ◌≤◌, ℤ, pos, ◌+ℤ◌, ◌-ℤ◌, ◌*ℤ◌, unsigned_abs, inl, inr, refl, sym, ◌∙◌, ap, arith}
use Rattle.std.specs.Prelude.{Bool, true, false, Option, Some, None}
use Rattle.std.proofs.lemmas.Int.{ints}
use Rattle.ngc_circle_walk.specs.declared.spoke.Spoke.{Spoke}
use Rattle.ngc_circle_walk.specs.Around.{around}
use Rattle.ngc_circle_walk.specs.Bounds.{IsBelow}
use Rattle.ngc_circle_walk.specs.Rolling.{spoke_at}
use Rattle.ngc_circle_walk.specs.Wheel.{square, is_before, IsSmall}
use Rattle.ngc_circle_walk.proofs.Rays.{square_le}
use Rattle.ngc_circle_laws.specs.ArcWalk.{IsBeforeEnd}
use Rattle.ngc_step_kernel.specs.declared.round.Vector2.{Vector2}
use Rattle.ngc_step_kernel.specs.declared.spot.Spot.{Spot}
use Rattle.ngc_step_kernel.specs.About.{IsAbout}
use Rattle.ngc_step_kernel.specs.Course.{round_at}
use Rattle.ngc_step_kernel.specs.Spots.{IsSpot, straight_moves}
use Rattle.ngc_step_kernel.specs.View.{squared, place_of, way_from, IsMoved, IsInReach, quadrants_left}
use Rattle.ngc_step_kernel.proofs.EntryLemmas.{is_way}
use Rattle.ngc_step_kernel.proofs.JointLemmas.{joint_near}
use Rattle.ngc_step_kernel.proofs.RollsLemmas.{reported_before}
use Rattle.ngc_step_kernel.proofs.OnRim.{about_on, small_on, spots_on, axis_apart, around_small}

pub some_root : (n r : ℕ) → 0 < n → n ≤ r * r → 0 < r
some_root n zero some h = absurd (omega (arith, some, h))
some_root n (suc r) some h = omega arith

-- the joint is near the circle of the end, and so within reach of the centre
pub record IsJointOf (g r : ℕ) (c : Vector2) (p : Spot) : Type 0 where
  pub near : 12 * squared (way_from g c p) ≤ 12 * (r * r) + 17 * (r * g) + 6 * (g * g)
  pub reach : IsInReach g c p

pub joint_of : (g s r n : ℕ) (c b : Vector2) (p : Spot) → 0 < n → n ≤ s * s → n ≡ squared b → IsMoved g s r c.u b.u p.u → IsMoved g s r c.v b.v p.v →
    r ≤ 2000020000 → g ≤ 50000 → IsJointOf g r c p
joint_of g s r n c b p some round same mu mv hr hg =
    let near = joint_near g s r c b p (some_root n s some round) mu mv (omega (arith, round, same)) in
    let way = is_way (way_from g c p) (way_from g c p) r g refl near hr hg in
    record { near = near; reach = record { u = way.u; v = way.v } }

-- properties of all points of a wheel that begins within two steps of the end's circle
pub record IsBegun (g r limit : ℕ) (c : Vector2) (p : Spot) (s : Spoke) : Type 0 where
  pub least : 500 ≤ g
  pub most : g ≤ 50000
  pub radius : r ≤ 2000020000
  pub limit_is : limit ≡ (r + 2 * g / 5) * (r + 2 * g / 5)
  pub about : IsAbout g (place_of c) p s
  pub near : square s.x s.y ≤ (r + 2 * g) * (r + 2 * g)

pub begun_of : (g r limit : ℕ) (c : Vector2) (p : Spot) (s : Spoke) → 500 ≤ g → g ≤ 50000 → r ≤ 2000020000 → limit ≡ (r + 2 * g / 5) * (r + 2 * g / 5) →
    IsAbout g (place_of c) p s → square s.x s.y ≤ (r + 2 * g) * (r + 2 * g) → IsBegun g r limit c p s
begun_of g r limit c p s low high radius limit_is about near = record {
  least = low;
  most = high;
  radius = radius;
  limit_is = limit_is;
  about = about;
  near = near;
}

begun_below : (g r limit : ℕ) (c : Vector2) (p : Spot) (s : Spoke) → IsBegun g r limit c p s → IsBelow g ((r + 2 * g) * (r + 2 * g)) s
begun_below g r limit c p s b = record { all = omega (arith, b.near); by_axis = λ _. b.near }

limit_within : (g r limit : ℕ) (c : Vector2) (p : Spot) (s : Spoke) → IsBegun g r limit c p s → limit ≤ (r + 2 * g) * (r + 2 * g)
limit_within g r limit c p s b =
    let h = square_le (r + 2 * g / 5) (r + 2 * g) (omega arith) in
    omega (arith, h, b.limit_is)

room_within : (g r : ℕ) → 2 * (g * g) ≤ (r + 2 * g) * (r + 2 * g)
room_within g r = omega arith

pub begun_small : (g r limit : ℕ) (c : Vector2) (p : Spot) (s : Spoke) → IsBegun g r limit c p s → (k : ℕ) → IsSmall (spoke_at g limit s k)
begun_small g r limit c p s b k =
    small_on g limit (r + 2 * g) s k (limit_within g r limit c p s b) (room_within g r) (begun_below g r limit c p s b) (omega (arith, b.radius, b.most))

pub begun_spots : (g r limit : ℕ) (c : Vector2) (p : Spot) (s : Spoke) → IsBegun g r limit c p s → unsigned_abs c.u ≤ 93000000000 → unsigned_abs c.v ≤ 93000000000 →
    (k : ℕ) → IsSpot (round_at g limit s p k)
begun_spots g r limit c p s b cu cv k =
    spots_on g limit (r + 2 * g) (place_of c) s p k b.least cu cv (limit_within g r limit c p s b) (room_within g r) (begun_below g r limit c p s b)
    (omega (arith, b.radius, b.most)) b.about

-- few moves are between such a point and another within reach
from_there : (a c : ℤ) → a ≡ c +ℤ (a -ℤ c)
from_there a c = omega (arith, ints)

pub near_apart : (g : ℕ) (c : Vector2) (p q : Spot) (s : Spoke) → 500 ≤ g → IsAbout g (place_of c) p s → IsSmall s → IsInReach g c q → straight_moves p q ≤ 12000000
near_apart g c p q s step about small reach =
    let a = around_small s.quadrant s.x s.y small.x small.y in
    let u = axis_apart g p.u q.u c.u (around s.quadrant s.x s.y).u ((q.u *ℤ pos g) -ℤ c.u) step about.u (from_there (q.u *ℤ pos g) c.u) a.0 reach.u in
    let v = axis_apart g p.v q.v c.v (around s.quadrant s.x s.y).v ((q.v *ℤ pos g) -ℤ c.v) step about.v (from_there (q.v *ℤ pos g) c.v) a.1 reach.v in
    omega (arith, u, v)

pub begun_apart : (g r limit : ℕ) (c : Vector2) (p q : Spot) (s : Spoke) → IsBegun g r limit c p s → IsInReach g c q → (k : ℕ) →
    straight_moves (round_at g limit s p k) q ≤ 30000000
begun_apart g r limit c p q s b reach k =
    omega (
      arith,
      near_apart g c (round_at g limit s p k) q (spoke_at g limit s k) b.least (about_on g limit (place_of c) s p k b.about)
          (begun_small g r limit c p s b k) reach,
    )

-- from a point within reach to the wheel's first
pub reach_begun : (g r limit : ℕ) (c : Vector2) (p q : Spot) (s : Spoke) → IsBegun g r limit c p s → IsInReach g c q → straight_moves q p ≤ 30000000
unfolding spoke_at
reach_begun g r limit c p q s b reach =
    let small = begun_small g r limit c p s b 0 in
    let a = around_small s.quadrant s.x s.y small.x small.y in
    let u = axis_apart g q.u p.u c.u ((q.u *ℤ pos g) -ℤ c.u) (around s.quadrant s.x s.y).u b.least (from_there (q.u *ℤ pos g) c.u) b.about.u reach.u a.0 in
    let v = axis_apart g q.v p.v c.v ((q.v *ℤ pos g) -ℤ c.v) (around s.quadrant s.x s.y).v b.least (from_there (q.v *ℤ pos g) c.v) b.about.v reach.v a.1 in
    omega (arith, u, v)

-- ---- the number of remaining quadrants

abbrev pub amount : Option ℕ → ℕ
amount None = 0
amount (Some n) = suc n

begun_before : (s e : Spoke) (q : ℕ) → q ≡ 0 → is_before s e ≡ true → IsBeforeEnd 0 q s e
begun_before s e q none told = inr (sym none, reported_before s e told)

pub some_left : (n : ℕ) (short before : Bool) (q : ℕ) (s e : Spoke) → before ≡ is_before s e → quadrants_left n short before ≡ Some q → IsBeforeEnd 0 q s e
some_left zero true true q s e told h = begun_before s e q (omega (arith, ap amount h)) (sym told)
some_left zero true false q s e told h = absurd (omega (arith, ap amount h))
some_left zero false before q s e told h = let k : 5 ≡ q + 1 = ap amount h ∙ omega arith in inl (omega (arith, k))
some_left (suc (suc (suc zero))) true before q s e told h = absurd (omega (arith, ap amount h))
some_left (suc (suc (suc zero))) false before q s e told h = inl (omega (arith, ap amount h))
some_left (suc zero) true before q s e told h = inl (omega (arith, ap amount h))
some_left (suc zero) false before q s e told h = inl (omega (arith, ap amount h))
some_left (suc (suc zero)) true before q s e told h = inl (omega (arith, ap amount h))
some_left (suc (suc zero)) false before q s e told h = inl (omega (arith, ap amount h))
some_left (suc (suc (suc (suc n)))) true before q s e told h = inl (omega (arith, ap amount h))
some_left (suc (suc (suc (suc n)))) false before q s e told h = inl (omega (arith, ap amount h))

pub first_small : (g r limit : ℕ) (c : Vector2) (p : Spot) (s : Spoke) → IsBegun g r limit c p s → IsSmall s
unfolding spoke_at
first_small g r limit c p s b = begun_small g r limit c p s b 0
