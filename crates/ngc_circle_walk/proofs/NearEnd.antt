-- The last point of a wheel before the end's ray is less than one and a half steps from the end on both axes, so that one move leads to
-- the end's grid point. For an end e = (ex, ey) with q*q ≤ ex*ex + ey*ey ≤ (q+1)*(q+1), and the limit (q+1+h)*(q+1+h).
use Rattle.std.proofs.Common.{◌≡◌, ℕ, zero, suc, ◌+◌, ◌-◌, ◌*◌, ◌<◌, ◌≤◌, inl, inr, arith}
use Rattle.std.proofs.lemmas.Bool.{cases_lt}
use Rattle.std.proofs.Math.Nat.{mul-le-mul_left}
use Rattle.ngc_circle_walk.specs.declared.spoke.Roll.{Roll}
use Rattle.ngc_circle_walk.specs.declared.spoke.Roll.TheVariants.{Outward, Diagonal, Inward, Over}
use Rattle.ngc_circle_walk.specs.declared.spoke.Spoke.{Spoke}
use Rattle.ngc_circle_walk.specs.Wheel.{square, rolled, IsRoll}
use Rattle.ngc_circle_walk.specs.Bounds.{IsBelow, IsAbove}
use Rattle.ngc_circle_walk.proofs.Rays.{square_le, from_squares, past_in, before_out, inward_near, diagonal_near, outward_far, inward_far}

-- the sizes, rounded down: h is two fifths of a step, k half a step, l four fifths of one. The rule
-- chooses no point farther out than q + 1 + h. No point is farther out than q + 1 + l, nor nearer
-- than v, to within the square of a step.
pub record IsRim (g q h k l v : ℕ) : Type 0 where
  pub step : 500 ≤ g
  pub far : 8 * g ≤ q + 1
  pub h_low : 2 * g ≤ 5 * h + 4
  pub h_high : 5 * h ≤ 2 * g
  pub k_low : g ≤ 2 * k + 1
  pub k_high : 2 * k ≤ g
  pub l_low : 4 * g ≤ 5 * l + 4
  pub l_high : 5 * l ≤ 4 * g
  pub inner : v + l ≡ q + 1

abbrev pub limit_of : ℕ → ℕ → ℕ
limit_of q h = (q + 1 + h) * (q + 1 + h)

pub record IsRay (q ex ey : ℕ) : Type 0 where
  pub small : q * q ≤ ex * ex + ey * ey
  pub great : ex * ex + ey * ey ≤ (q + 1) * (q + 1)

-- less than one and a half steps apart
pub record IsBeside (g a b : ℕ) : Type 0 where
  pub up : 2 * a < 2 * b + 3 * g
  pub down : 2 * b < 2 * a + 3 * g

-- half a step leaves enough for the square of a step
half_room : (g q h k l v : ℕ) → IsRim g q h k l v → 2 * (g * g) ≤ k * (q + 1)
half_room g q h k l v r =
    let b = mul-le-mul_left k r.far in
    let c = mul-le-mul_left g r.k_low in
    let d = mul-le-mul_left g r.step in
    omega arith

pub far_enough : (g q h k l v x y w : ℕ) → IsRim g q h k l v → w + k ≡ v → v * v ≤ square x y + g * g → w * w ≤ square x y
far_enough g q h k l v x y w r e above =
    let room = half_room g q h k l v r in
    let a : (w + k) * (w + k) ≡ v * v = rw e in
    let b : k * (w + k) ≡ k * v = rw e in
    let c : k ≤ g = omega (arith, r.k_high) in
    let d = mul-le-mul_left k c in
    let f : g ≤ 2 * k + 1 = r.k_low in
    let i = mul-le-mul_left g f in
    let j = mul-le-mul_left g r.step in
    let n : 7 * g ≤ v = omega (arith, r.inner, r.far, r.l_high) in
    let m = mul-le-mul_left k n in
    omega arith

pub near_enough : (g q h k l v x y : ℕ) → IsRim g q h k l v → square x y ≤ limit_of q l + g * g → square x y ≤ limit_of q (l + k)
near_enough g q h k l v x y r below =
    let room = half_room g q h k l v r in
    omega arith

-- along x a point before the ray is not far short of e, and along y not far beyond it
pub not_behind : (g q h k l v x y ex ey : ℕ) → IsRim g q h k l v → IsRay q ex ey → v * v ≤ square x y + g * g → y * ex ≤ x * ey → 2 * ex < 2 * x + 3 * g
not_behind g q h k l v x y ex ey r ray above before =
    let w = v - k in
    let e : w + k ≡ v = omega (arith, r.inner, r.far, r.k_high, r.l_high) in
    let a = far_enough g q h k l v x y w r e above in
    let d = q + 1 - w in
    let de : w + d ≡ q + 1 = omega (arith, r.inner, e) in
    let b : ex * ex + ey * ey ≤ (w + d) * (w + d) = rw de ray.great in
    let c = before_out x y ex ey w d before a b (omega (arith, r.inner, r.far, r.k_high, r.l_high, r.step)) in
    omega (arith, c, e, de, r.inner, r.l_high, r.k_high, r.step)

pub not_beyond : (g q h k l v x y ex ey : ℕ) → IsRim g q h k l v → IsRay q ex ey → square x y ≤ limit_of q l + g * g → y * ex ≤ x * ey → 2 * y < 2 * ey + 3 * g
not_beyond g q h k l v x y ex ey r ray below before =
    let a : square y x ≤ limit_of q (l + k) = omega (arith, near_enough g q h k l v x y r below) in
    let s : q * q ≤ ey * ey + ex * ex = omega (arith, ray.small) in
    let t : ey * ey ≤ (q + 1) * (q + 1) = omega (arith, ray.great) in
    let u = from_squares ey (q + 1) t in
    let c = past_in y x ey ex q (l + k) before a s u (omega (arith, r.far, r.l_high, r.k_high, r.step)) in
    omega (arith, c, r.l_high, r.k_high, r.step)

-- a point past the ray, within the limit, is not far ahead of e along x
pub not_ahead : (g q h k l v x y ex ey : ℕ) → IsRim g q h k l v → IsRay q ex ey → square x y ≤ limit_of q h → x * ey ≤ y * ex → x ≤ ex + h + 1
not_ahead g q h k l v x y ex ey r ray fits past =
    let t : ex * ex ≤ (q + 1) * (q + 1) = omega (arith, ray.great) in
    let u = from_squares ex (q + 1) t in
    past_in x y ex ey q h past fits ray.small u (omega (arith, r.far, r.h_high, r.step))

-- the limit exceeds the circle through e by more than the squares of two steps
pub limit_room : (g q h k l v ex ey : ℕ) → IsRim g q h k l v → IsRay q ex ey → 4 * (ex * ex + ey * ey) + 5 * (g * g) ≤ 4 * limit_of q h
limit_room g q h k l v ex ey r ray =
    let a = mul-le-mul_left h r.far in
    let b = mul-le-mul_left g r.h_low in
    let c = mul-le-mul_left g r.step in
    omega (arith, a, b, c, ray.great)

above_zero : (x y ex ey : ℕ) → y * ex < x * ey → 0 < ey
above_zero x y ex zero before = absurd (omega arith)
above_zero x y ex (suc ey) before = omega arith

outward_near : (g q h k l v x y ex ey : ℕ) → IsRim g q h k l v → IsRay q ex ey → v * v ≤ square x y + g * g → 0 < ey → y * ex ≤ x * ey → x * ey ≤ (y + g) * ex →
    2 * ey < 2 * y + 3 * g
outward_near g q h k l v x y ex ey r ray above some before past =
    elim (cases_lt (2 * ey) (2 * y + 3 * g)) [
      | inl less ↦ less
      | inr more ↦ (
          let a = outward_far g x y ex ey q some before past ray.small more in
          let b : 5 * q ≤ 5 * v + 4 * g = omega (arith, r.inner, r.l_high) in
          let c = square_le (5 * q) (5 * v + 4 * g) b in
          let vq : v ≤ q + 1 = omega (arith, r.inner) in
          let d = mul-le-mul_left g vq in
          let f = mul-le-mul_left g r.far in
          let i = mul-le-mul_left g r.step in
          let j = mul-le-mul_left q r.step in
          absurd (omega (arith, a, c, d, f, i, j, above, ray.great, r.step, r.far)))
    ]

inward_ahead : (g q h k l v t x y ex ey : ℕ) → IsRim g q h k l v → IsRay q ex ey → t + g ≡ x → square x y ≤ limit_of q l + g * g → t * ey ≤ y * ex →
    2 * x < 2 * ex + 3 * g
inward_ahead g q h k l v t x y zero ey r ray e below past =
    let high = from_squares q ey (omega (arith, ray.small)) in
    elim (cases_lt 0 t) [
      | inl some ↦ (let one : 1 ≤ t = omega arith in let a = mul-le-mul_left ey one in absurd (omega (arith, a, past, high, r.far, r.step)))
      | inr none ↦ omega (arith, none, e, r.step)
    ]
inward_ahead g q h k l v t x y (suc ez) ey r ray e below past =
    let ex = suc ez in
    elim (cases_lt (2 * x) (2 * ex + 3 * g)) [
      | inl less ↦ less
      | inr more ↦ (
          let a = inward_far g t x y ex ey q (omega arith) (omega arith) past ray.small more in
          let b = mul-le-mul_left g r.l_high in
          let c = mul-le-mul_left q r.l_high in
          let d = mul-le-mul_left l r.l_high in
          let f = mul-le-mul_left g r.far in
          let i = mul-le-mul_left g r.step in
          let j = mul-le-mul_left q r.step in
          absurd (omega (arith, a, b, c, d, f, i, j, below, ray.small, r.step, r.far)))
    ]

pub record IsNearEnd (g x y ex ey : ℕ) : Type 0 where
  pub along_x : IsBeside g x ex
  pub along_y : IsBeside g y ey

pub last_near : (g q h k l v : ℕ) (s : Spoke) (roll : Roll) (ex ey : ℕ) → IsRim g q h k l v → IsRay q ex ey → IsBelow g (limit_of q l) s → IsAbove g v s →
    g ≤ s.x → IsRoll g (limit_of q h) s roll → s.y * ex < s.x * ey → (rolled g roll s).x * ey ≤ (rolled g roll s).y * ex → IsNearEnd g s.x s.y ex ey
last_near g q h k l v s Outward ex ey r ray below above inside roll before past = record {
  along_x = record {
    up = omega (arith, not_ahead g q h k l v s.x (s.y + g) ex ey r ray roll.1 past, r.h_high, r.step);
    down = not_behind g q h k l v s.x s.y ex ey r ray above.all (omega arith);
  };
  along_y = record {
    up = not_beyond g q h k l v s.x s.y ex ey r ray below.all (omega arith);
    down = outward_near g q h k l v s.x s.y ex ey r ray above.all (above_zero s.x s.y ex ey before) (omega arith) past;
  };
}
last_near g q h k l v s Diagonal ex ey r ray below above inside roll before past =
    let t = s.x - g in
    let e : t + g ≡ s.x = omega arith in
    let refused : limit_of q h < (t + g) * (t + g) + (s.y + g) * (s.y + g) = rw e roll.1 in
    record {
      along_x = record {
        up = omega (arith, not_ahead g q h k l v (s.x - g) (s.y + g) ex ey r ray roll.2 past, r.h_high, r.step);
        down = not_behind g q h k l v s.x s.y ex ey r ray above.all (omega arith);
      };
      along_y = record {
        up = not_beyond g q h k l v s.x s.y ex ey r ray below.all (omega arith);
        down = diagonal_near g t s.y ex ey (limit_of q h) (above_zero s.x s.y ex ey before) past refused (limit_room g q h k l v ex ey r ray);
      };
    }
last_near g q h k l v s Inward ex ey r ray below above inside roll before past =
    let t = s.x - g in
    let e : t + g ≡ s.x = omega arith in
    let lim = limit_room g q h k l v ex ey r ray in
    record {
      along_x = record {
        up = inward_ahead g q h k l v t s.x s.y ex ey r ray e below.all past;
        down = not_behind g q h k l v s.x s.y ex ey r ray above.all (omega arith);
      };
      along_y = record {
        up = not_beyond g q h k l v s.x s.y ex ey r ray below.all (omega arith);
        down = inward_near g t s.y ex ey (limit_of q h) (above_zero s.x s.y ex ey before) past roll.1 (omega (arith, lim));
      };
    }
last_near g q h k l v s Over ex ey r ray below above inside roll before past = absurd (omega (arith, roll, inside))
