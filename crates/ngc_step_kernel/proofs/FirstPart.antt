-- The first straight part of an arc's course leads from the grid point nearest to the arc's start
-- to the joint. The joint is nearest to the start moved along its ray from its radius s to the
-- radius r. This part stays near the start, and near the circles.
use Rattle.std.proofs.Common.{◌≡◌, ℕ, suc, ◌+◌, ◌*◌, ◌<◌, ◌≤◌, ◌⊎◌, inl, inr, ℤ, pos, negsuc, ◌+ℤ◌, ◌-ℤ◌, ◌*ℤ◌, ◌≤ℤ◌, unsigned_abs, arith, ap, sym, ◌∙◌}
use Rattle.std.proofs.lemmas.Int.{ints, unsigned_abs-mul}
use Rattle.std.proofs.Math.Nat.{mul-le-mul_left}
use Rattle.ngc_fixed_length.specs.Grid.{distance}
use Rattle.ngc_step_kernel.specs.Spots.{straight_place}
use Rattle.ngc_step_kernel.specs.View.{IsMoved}
use Rattle.ngc_step_kernel.proofs.JointLemmas.{scaled_place}
use Rattle.ngc_step_kernel.proofs.LineLemmas.{scale-sum}
use Rattle.ngc_step_kernel.proofs.StraightAxis.{IsOnWay, scaled_by, on_way}

-- ---- along one axis, everything times s: S is the distance of the first point from the centre, J
-- the joint's, X that of a point between them

abbrev IsBetween : ℤ → ℤ → ℤ → Type 0
IsBetween p q r = ((p ≤ℤ q) × (q ≤ℤ r)) ⊎ ((r ≤ℤ q) × (q ≤ℤ p))

not_below : (s r m g : ℕ) (b S J X : ℤ) → m ≤ s → m ≤ r → 2 * unsigned_abs ((b *ℤ pos s) -ℤ S) ≤ s * g → 2 * unsigned_abs ((b *ℤ pos r) -ℤ J) ≤ s * g →
    IsBetween S X J →
    2 * (m * unsigned_abs b) ≤ 2 * unsigned_abs X + s * g
not_below s r m g (pos n) S J X ms mr hs hj (inl w) = omega (arith, ints, mul-le-mul_left n ms, mul-le-mul_left n mr, hs, hj, w.0, w.1)
not_below s r m g (pos n) S J X ms mr hs hj (inr w) = omega (arith, ints, mul-le-mul_left n ms, mul-le-mul_left n mr, hs, hj, w.0, w.1)
not_below s r m g (negsuc n) S J X ms mr hs hj (inl w) = omega (arith, ints, mul-le-mul_left (suc n) ms, mul-le-mul_left (suc n) mr, hs, hj, w.0, w.1)
not_below s r m g (negsuc n) S J X ms mr hs hj (inr w) = omega (arith, ints, mul-le-mul_left (suc n) ms, mul-le-mul_left (suc n) mr, hs, hj, w.0, w.1)

not_above : (s r m g : ℕ) (b S J X : ℤ) → s ≤ m → r ≤ m → 2 * unsigned_abs ((b *ℤ pos s) -ℤ S) ≤ s * g → 2 * unsigned_abs ((b *ℤ pos r) -ℤ J) ≤ s * g →
    IsBetween S X J →
    2 * unsigned_abs X ≤ 2 * (m * unsigned_abs b) + s * g
not_above s r m g (pos n) S J X ms mr hs hj (inl w) = omega (arith, ints, mul-le-mul_left n ms, mul-le-mul_left n mr, hs, hj, w.0, w.1)
not_above s r m g (pos n) S J X ms mr hs hj (inr w) = omega (arith, ints, mul-le-mul_left n ms, mul-le-mul_left n mr, hs, hj, w.0, w.1)
not_above s r m g (negsuc n) S J X ms mr hs hj (inl w) = omega (arith, ints, mul-le-mul_left (suc n) ms, mul-le-mul_left (suc n) mr, hs, hj, w.0, w.1)
not_above s r m g (negsuc n) S J X ms mr hs hj (inr w) = omega (arith, ints, mul-le-mul_left (suc n) ms, mul-le-mul_left (suc n) mr, hs, hj, w.0, w.1)

not_away : (s r h g : ℕ) (b S J X : ℤ) → r ≤ s + h → s ≤ r + h → 2 * unsigned_abs ((b *ℤ pos s) -ℤ S) ≤ s * g → 2 * unsigned_abs ((b *ℤ pos r) -ℤ J) ≤ s * g →
    IsBetween S X J →
    2 * unsigned_abs (X -ℤ (b *ℤ pos s)) ≤ 2 * (h * unsigned_abs b) + s * g
not_away s r h g (pos n) S J X hr hh hs hj (inl w) = omega (arith, ints, mul-le-mul_left n hr, mul-le-mul_left n hh, hs, hj, w.0, w.1)
not_away s r h g (pos n) S J X hr hh hs hj (inr w) = omega (arith, ints, mul-le-mul_left n hr, mul-le-mul_left n hh, hs, hj, w.0, w.1)
not_away s r h g (negsuc n) S J X hr hh hs hj (inl w) = omega (arith, ints, mul-le-mul_left (suc n) hr, mul-le-mul_left (suc n) hh, hs, hj, w.0, w.1)
not_away s r h g (negsuc n) S J X hr hh hs hj (inr w) = omega (arith, ints, mul-le-mul_left (suc n) hr, mul-le-mul_left (suc n) hh, hs, hj, w.0, w.1)

-- ---- the consequences for the points

nearest_off : (g s : ℕ) (c b p : ℤ) → 2 * unsigned_abs ((c +ℤ b) -ℤ (p *ℤ pos g)) ≤ g →
    2 * unsigned_abs ((b *ℤ pos s) -ℤ (((p *ℤ pos g) -ℤ c) *ℤ pos s)) ≤ s * g
nearest_off g s c b p near =
    let j = (p *ℤ pos g) -ℤ c in
    let x = b -ℤ j in
    let whole : x +ℤ j ≡ b = omega (arith, ints) in
    let e : b *ℤ pos s ≡ (x *ℤ pos s) +ℤ (j *ℤ pos s) = sym (ap (λ z. z *ℤ pos s) whole) ∙ scale-sum s x j in
    let small : 2 * unsigned_abs x ≤ g = omega (arith, ints, near) in
    omega (arith, ints, e, unsigned_abs-mul x (pos s), mul-le-mul_left s small)

moved_off : (g s r : ℕ) (c b p : ℤ) → IsMoved g s r c b p → 2 * unsigned_abs ((b *ℤ pos r) -ℤ (((p *ℤ pos g) -ℤ c) *ℤ pos s)) ≤ s * g
moved_off g s r c b p near =
    let j = (p *ℤ pos g) -ℤ c in
    let whole : j +ℤ c ≡ p *ℤ pos g = omega (arith, ints) in
    let e : p *ℤ pos (s * g) ≡ (j *ℤ pos s) +ℤ (c *ℤ pos s) = scaled_place g s p ∙ sym (ap (λ z. z *ℤ pos s) whole) ∙ scale-sum s j c in
    omega (arith, ints, near, e)

scaled_le : (s : ℕ) (x y : ℤ) → x ≤ℤ y → (x *ℤ pos s) ≤ℤ (y *ℤ pos s)
scaled_le s x y le = let e = scaled_by s (distance x y) x y (omega (arith, ints, le)) in omega (arith, ints, e)

way_order : (g : ℕ) (p q r : ℤ) → IsOnWay g p q r → IsBetween p q r
way_order g p q r (inl (inl e, w)) = inl (omega (arith, ints, e), w)
way_order g p q r (inl (inr e, w)) = inl (omega (arith, ints, e), w)
way_order g p q r (inr (inl e, w)) = inr (w, omega (arith, ints, e))
way_order g p q r (inr (inr e, w)) = inr (w, omega (arith, ints, e))

from_order : (s : ℕ) (c p q r : ℤ) → IsBetween p q r → IsBetween ((p -ℤ c) *ℤ pos s) ((q -ℤ c) *ℤ pos s) ((r -ℤ c) *ℤ pos s)
from_order s c p q r (inl w) = inl (scaled_le s (p -ℤ c) (q -ℤ c) (omega (arith, ints, w.0)), scaled_le s (q -ℤ c) (r -ℤ c) (omega (arith, ints, w.1)))
from_order s c p q r (inr w) = inr (scaled_le s (r -ℤ c) (q -ℤ c) (omega (arith, ints, w.0)), scaled_le s (q -ℤ c) (p -ℤ c) (omega (arith, ints, w.1)))

-- along one axis: x is the distance from the centre to a point of the first part, b that to the
-- start, and y the distance from the start to the point; the radii s and r are between m and o, and
-- differ by at most h
pub record IsFirstAxis (g s m o h x b y : ℕ) : Type 0 where
  pub up : 2 * (s * x) ≤ 2 * (o * b) + s * g
  pub down : 2 * (m * b) ≤ 2 * (s * x) + s * g
  pub near : 2 * (s * y) ≤ 2 * (h * b) + s * g

pub record AreRadii (s r m o h : ℕ) : Type 0 where
  pub some : 0 < s
  pub m_s : m ≤ s
  pub m_r : m ≤ r
  pub s_o : s ≤ o
  pub r_o : r ≤ o
  pub r_s : r ≤ s + h
  pub s_r : s ≤ r + h

pub first_axis_near : (g s r m o h : ℕ) (c b p j : ℤ) (k : ℕ) → AreRadii s r m o h → 2 * unsigned_abs ((c +ℤ b) -ℤ (p *ℤ pos g)) ≤ g → IsMoved g s r c b j →
    IsFirstAxis g s m o h (unsigned_abs ((straight_place p j k *ℤ pos g) -ℤ c)) (unsigned_abs b) (distance (c +ℤ b) (straight_place p j k *ℤ pos g))
first_axis_near g s r m o h c b p j k radii near moved =
    let q = straight_place p j k *ℤ pos g in
    let S = ((p *ℤ pos g) -ℤ c) *ℤ pos s in
    let J = ((j *ℤ pos g) -ℤ c) *ℤ pos s in
    let x = q -ℤ c in
    let X = x *ℤ pos s in
    let hs = nearest_off g s c b p near in
    let hj = moved_off g s r c b j moved in
    let w = from_order s c (p *ℤ pos g) q (j *ℤ pos g) (way_order g (p *ℤ pos g) q (j *ℤ pos g) (on_way g p j k)) in
    let size = unsigned_abs-mul x (pos s) in
    let y = x -ℤ b in
    let whole : y +ℤ b ≡ x = omega (arith, ints) in
    let e : X ≡ (y *ℤ pos s) +ℤ (b *ℤ pos s) = sym (ap (λ z. z *ℤ pos s) whole) ∙ scale-sum s y b in
    let off = unsigned_abs-mul y (pos s) in
    let same : unsigned_abs y ≡ distance (c +ℤ b) q = omega (arith, ints) in
    let diff : unsigned_abs (X -ℤ (b *ℤ pos s)) ≡ unsigned_abs (y *ℤ pos s) = omega (arith, ints, e) in
    let product : s * unsigned_abs y ≡ s * distance (c +ℤ b) q = ap (λ t. s * t) same in
    record {
      up = (let a = not_above s r o g b S J X radii.s_o radii.r_o hs hj w in omega (arith, a, size));
      down = (let a = not_below s r m g b S J X radii.m_s radii.m_r hs hj w in omega (arith, a, size));
      near = (let a = not_away s r h g b S J X radii.r_s radii.s_r hs hj w in omega (arith, a, off, diff, product));
    }
