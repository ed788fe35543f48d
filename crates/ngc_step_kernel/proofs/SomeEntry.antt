-- A joint for an arc's start and an entry next to it always exist.
use Rattle.std.proofs.Common.{◌≡◌, ℕ, ◌+◌, ◌*◌, ◌/◌, ◌<◌, ◌≤◌, max, ℤ, pos, ◌≤ℤ◌, ◌<ℤ◌, unsigned_abs, refl, arith}
use Rattle.std.proofs.lemmas.Int.{by_lt_z}
use Rattle.ngc_fixed_length.specs.Roots.{IsRootCeil}
use Rattle.ngc_circle_walk.specs.Around.{way_to}
use Rattle.ngc_circle_walk.specs.Wheel.{square, rolled}
use Rattle.ngc_circle_walk.specs.Entering.{IsEntry}
use Rattle.ngc_circle_walk.specs.declared.spoke.Roll.{Roll}
use Rattle.ngc_circle_walk.specs.declared.spoke.Spoke.{Spoke}
use Rattle.ngc_step_kernel.specs.About.{IsAbout}
use Rattle.ngc_step_kernel.specs.Entered.{is_steep, way_cross, IsEntered}
use Rattle.ngc_step_kernel.specs.Spots.{roll_move, spot_moved, straight_moves, IsSpot}
use Rattle.ngc_step_kernel.specs.View.{squared, place_of, way_from, IsView, IsMoved}
use Rattle.ngc_step_kernel.specs.declared.spot.Spot.{Spot}
use Rattle.ngc_step_kernel.specs.declared.view.View.{View}
use Rattle.ngc_step_kernel.proofs.AroundLemmas.{some_root as positive_root, IsJointOf, joint_of}
use Rattle.ngc_step_kernel.proofs.EntryLemmas.{IsJoined, joined, rolled_near, can_enter, one_beside, none_beside, entered_from, stood_from}
use Rattle.ngc_step_kernel.proofs.ExistingPoints.{some_spoke, some_entry, some_moved, some_root}
use Rattle.ngc_step_kernel.proofs.OnRim.{about_rolls}
use Rattle.ngc_step_kernel.proofs.ViewLemmas.{first_side, second_side}

-- ---- the joint

pub radius_root : (x : ℕ) → x ≤ 2000020000 * 2000020000 → (r : ℕ) × IsRootCeil x r × (r ≤ 2000020000)
radius_root x bound =
    let found = some_root x in
    (found.0, record { square = found.1; least = found.2 }, found.2 2000020000 bound)

-- the roots of the squared radii, the circle on which a wheel moves, and its limit
pub record IsCircle (g s r o limit : ℕ) (v : View) : Type 0 where
  pub start_root : IsRootCeil (squared v.start) s
  pub start_bound : s ≤ 2000020000
  pub end_root : IsRootCeil (squared v.end) r
  pub circle : o ≡ max r (9 * g / 4 + 1)
  pub bound : o ≤ 2000020000
  pub limit_is : limit ≡ (o + 2 * g / 5) * (o + 2 * g / 5)

pub record IsAtJoint (g s o : ℕ) (v : View) (joint : Spot) : Type 0 where
  pub moved_u : IsMoved g s o v.centre.u v.start.u joint.u
  pub moved_v : IsMoved g s o v.centre.v v.start.v joint.v
  pub spot : IsSpot joint
  pub near : IsJointOf g o v.centre joint

pub circle_bound : (r g : ℕ) → r ≤ 2000020000 → g ≤ 50000 → max r (9 * g / 4 + 1) ≤ 2000020000
circle_bound r g hr hg = omega (arith, hr, hg)

joint_at : (g s r o limit : ℕ) (v : View) (p q : ℤ) → IsView v → g ≤ 50000 → IsCircle g s r o limit v →
    IsMoved g s o v.centre.u v.start.u p → unsigned_abs p ≤ 200000000 → IsMoved g s o v.centre.v v.start.v q → unsigned_abs q ≤ 200000000 →
    IsAtJoint g s o v (record { u = p; v = q })
joint_at g s r o limit v p q view most c mu su mv sv = record {
  moved_u = mu;
  moved_v = mv;
  spot = record { u = su; v = sv };
  near = joint_of g s o (squared v.start) v.centre v.start (record { u = p; v = q }) view.start.some c.start_root.square refl mu mv c.bound most;
}

pub some_joint : (g s r o limit : ℕ) (v : View) → IsView v → 500 ≤ g → g ≤ 50000 → IsCircle g s r o limit v → (joint : Spot) × IsAtJoint g s o v joint
some_joint g s r o limit v view least most c =
    let some = positive_root (squared v.start) s view.start.some c.start_root.square in
    let u = some_moved g s o v.centre.u v.start.u view.centre_u (first_side v.start s c.start_root.square) some c.start_bound c.bound least most in
    let w = some_moved g s o v.centre.v v.start.v view.centre_v (second_side v.start s c.start_root.square) some c.start_bound c.bound least most in
    (record { u = u.0; v = w.0 }, joint_at g s r o limit v u.0 w.0 view most c u.1 u.2 w.1 w.2)

-- ---- the entry

pub record HasEntered (g o limit : ℕ) (v : View) (joint entry : Spot) (first : Spoke) : Type 0 where
  pub about : IsAbout g (place_of v.centre) entry first
  pub entered : IsEntered g limit v.start (way_from g v.centre joint) first
  pub beside : straight_moves joint entry ≤ 1
  pub near : square first.x first.y ≤ (o + 2 * g) * (o + 2 * g)

-- the joint's own spoke
record IsSpokeAt (g o : ℕ) (v : View) (joint : Spot) (j : Spoke) : Type 0 where
  way : way_to j ≡ place_of (way_from g v.centre joint)
  out : 0 < unsigned_abs (way_from g v.centre joint).u + unsigned_abs (way_from g v.centre joint).v → 0 < j.x
  joined : IsJoined g o v.centre joint (way_from g v.centre joint) j

rolls_in : (g o limit : ℕ) (v : View) (joint : Spot) (j : Spoke) (roll : Roll) → IsSpokeAt g o v joint j →
    way_cross v.start (way_from g v.centre joint) <ℤ pos 0 →
    IsEntry g limit (is_steep j.quadrant v.start) j roll → HasEntered g o limit v joint (spot_moved joint (roll_move roll j.quadrant)) (rolled g roll j)
rolls_in g o limit v joint j roll z afterwards entry =
    let can = can_enter g limit (is_steep j.quadrant v.start) j roll entry in
    let w = way_from g v.centre joint in
    record {
      about = about_rolls g (place_of v.centre) joint j.quadrant j.x j.y roll z.joined.about can;
      entered = entered_from g limit v.start w w (is_steep j.quadrant v.start) j (rolled g roll j) roll (way_cross v.start w)
          refl z.way z.out refl afterwards refl entry refl;
      beside = one_beside joint (spot_moved joint (roll_move roll j.quadrant)) (roll_move roll j.quadrant) refl;
      near = rolled_near g o j roll can z.joined.near;
    }

wider : (n o g : ℕ) → n ≤ (o + g) * (o + g) → n ≤ (o + 2 * g) * (o + 2 * g)
wider n o g h = omega (arith, h)

stands : (g o limit : ℕ) (v : View) (joint : Spot) (j : Spoke) → IsSpokeAt g o v joint j → pos 0 ≤ℤ way_cross v.start (way_from g v.centre joint) →
    HasEntered g o limit v joint joint j
stands g o limit v joint j z ahead =
    let w = way_from g v.centre joint in
    record {
      about = z.joined.about;
      entered = stood_from g limit v.start w w j (way_cross v.start w) refl z.way z.out refl ahead;
      beside = none_beside joint;
      near = wider (square j.x j.y) o g z.joined.near;
    }

entry_at : (g o limit : ℕ) (v : View) (joint : Spot) (j : Spoke) → IsSpokeAt g o v joint j →
    (entry : Spot) × (first : Spoke) × HasEntered g o limit v joint entry first
entry_at g o limit v joint j z =
    by_lt_z (way_cross v.start (way_from g v.centre joint)) (pos 0)
    (λ afterwards. let found = some_entry g limit (is_steep j.quadrant v.start) j in
    (spot_moved joint (roll_move found.0 j.quadrant), rolled g found.0 j, rolls_in g o limit v joint j found.0 z afterwards found.1))
    (λ ahead. (joint, j, stands g o limit v joint j z ahead))

pub some_begin : (g o limit : ℕ) (v : View) (joint : Spot) → IsJointOf g o v.centre joint → o ≤ 2000020000 → g ≤ 50000 →
    (entry : Spot) × (first : Spoke) × HasEntered g o limit v joint entry first
some_begin g o limit v joint near bound most =
    let w = way_from g v.centre joint in
    let found = some_spoke w.u w.v in
    entry_at g o limit v joint found.0 (record { way = found.1; out = found.2; joined = joined g o v.centre joint w found.0 refl found.1 near.near bound most })
