-- The joint: its distance from the circle of the end, and the number of moves between points near
-- the centre.
use Rattle.std.proofs.Common.{◌≡◌, ℕ, suc, negsuc, neg_ℤ, ◌+◌, ◌*◌, ◌<◌, ◌≤◌, ℤ, pos, ◌+ℤ◌, ◌-ℤ◌, ◌*ℤ◌, unsigned_abs, arith, ap, sym, ◌∙◌}
use Rattle.std.proofs.lemmas.Int.{ints, unsigned_abs-mul}
use borrow.Author.Differences.{neg_is}
use Rattle.ngc_circle_walk.proofs.JointMoves.{IsJoint}
use Rattle.ngc_circle_walk.proofs.Entry.{joint_below}
use Rattle.ngc_step_kernel.specs.declared.round.Vector2.{Vector2}
use Rattle.ngc_step_kernel.specs.declared.spot.Spot.{Spot}
use Rattle.ngc_step_kernel.specs.Spots.{straight_moves}
use Rattle.ngc_step_kernel.specs.View.{squared, way_from, IsMoved, IsRadius, IsInReach}
use Rattle.ngc_step_kernel.specs.Ways.{IsWay}
use Rattle.ngc_step_kernel.proofs.LineLemmas.{scale-sum}
use Rattle.ngc_step_kernel.proofs.OnRim.{axis_apart}
use Rattle.ngc_step_kernel.proofs.ViewLemmas.{first_side, second_side}

pub radius_way : (w : Vector2) → IsRadius w → IsWay w
radius_way w h =
    let u = first_side w 2000020000 h.bound in
    let v = second_side w 2000020000 h.bound in
    record { u = omega (arith, u); v = omega (arith, v) }

neg_times : (q s : ℕ) → neg_ℤ (pos q) *ℤ pos s ≡ neg_ℤ (pos (q * s))
neg_times q s = let e = neg_is (pos q) in omega (arith, ints, ap (λ t. t * s) e.0, ap (λ t. t * s) e.1)

-- p steps of length g, times s
pub scaled_place : (g s : ℕ) (p : ℤ) → p *ℤ pos (s * g) ≡ (p *ℤ pos g) *ℤ pos s
scaled_place g s (pos n) = let e : n * (s * g) ≡ n * g * s = omega arith in ap (λ m. pos m) e
scaled_place g s (negsuc n) = let e : suc n * (s * g) ≡ suc n * g * s = omega arith in ap (λ m. neg_ℤ (pos m)) e ∙ sym (neg_times (suc n * g) s)

apart : (c b p j : ℤ) (m : ℕ) → 2 * unsigned_abs ((c +ℤ b) -ℤ p) ≤ m → p ≡ j +ℤ c →
    (2 * unsigned_abs j ≤ 2 * unsigned_abs b + m) × (2 * unsigned_abs b ≤ 2 * unsigned_abs j + m)
apart c b p j m near e = (omega (arith, ints, near, e), omega (arith, ints, near, e))

pub moved_joint : (g s r : ℕ) (c b p : ℤ) → IsMoved g s r c b p → IsJoint g s r (unsigned_abs ((p *ℤ pos g) -ℤ c)) (unsigned_abs b)
moved_joint g s r c b p near =
    let j = (p *ℤ pos g) -ℤ c in
    let whole : j +ℤ c ≡ p *ℤ pos g = omega (arith, ints) in
    let e : p *ℤ pos (s * g) ≡ (j *ℤ pos s) +ℤ (c *ℤ pos s) = scaled_place g s p ∙ sym (ap (λ z. z *ℤ pos s) whole) ∙ scale-sum s j c in
    let h = apart (c *ℤ pos s) (b *ℤ pos r) (p *ℤ pos (s * g)) (j *ℤ pos s) (s * g) near e in
    let m = unsigned_abs-mul j (pos s) in
    let n = unsigned_abs-mul b (pos r) in
    record { up = omega (arith, h.0, m, n); down = omega (arith, h.1, m, n) }

pub joint_near : (g s r : ℕ) (c b : Vector2) (p : Spot) → 0 < s → IsMoved g s r c.u b.u p.u → IsMoved g s r c.v b.v p.v → squared b ≤ s * s →
    12 * squared (way_from g c p) ≤ 12 * (r * r) + 17 * (r * g) + 6 * (g * g)
joint_near g s r c b p some mu mv round =
    joint_below g s r (unsigned_abs ((p.u *ℤ pos g) -ℤ c.u)) (unsigned_abs ((p.v *ℤ pos g) -ℤ c.v)) (unsigned_abs b.u) (unsigned_abs b.v) some
    (moved_joint g s r c.u b.u p.u mu) (moved_joint g s r c.v b.v p.v mv) round

-- few moves between two grid points near the centre
from_there : (a c : ℤ) → a ≡ c +ℤ (a -ℤ c)
from_there a c = omega (arith, ints)

pub reach_apart : (g : ℕ) (c : Vector2) (p q : Spot) → 500 ≤ g → IsInReach g c p → IsInReach g c q → straight_moves p q ≤ 12000000
reach_apart g c p q step hp hq =
    let u = axis_apart g p.u q.u c.u ((p.u *ℤ pos g) -ℤ c.u) ((q.u *ℤ pos g) -ℤ c.u) step (from_there (p.u *ℤ pos g) c.u)
    (from_there (q.u *ℤ pos g) c.u) hp.u hq.u in
    let v = axis_apart g p.v q.v c.v ((p.v *ℤ pos g) -ℤ c.v) ((q.v *ℤ pos g) -ℤ c.v) step (from_there (p.v *ℤ pos g) c.v)
    (from_there (q.v *ℤ pos g) c.v) hp.v hq.v in
    omega (arith, u, v)
