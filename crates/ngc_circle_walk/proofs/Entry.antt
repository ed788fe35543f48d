-- The point at which a wheel begins. The joint (x, y) is the grid point nearest to the start (bx,
-- by) moved from its radius s = p + 1 to the radius r = q + 1. The wheel begins there, or at the
-- point to which one move leads from there.
use Rattle.std.proofs.Common.{◌≡◌, ℕ, ◌+◌, ◌-◌, ◌*◌, ◌<◌, ◌≤◌, inl, inr, arith}
use Rattle.std.proofs.lemmas.Bool.{cases_lt}
use Rattle.std.proofs.Math.Nat.{mul-le-mul_left, le_of_mul-le-mul_left}
use Rattle.ngc_circle_walk.specs.Wheel.{square}
use Rattle.ngc_circle_walk.proofs.Rim.{less_step, inward_above, over_below, over_above}
use Rattle.ngc_circle_walk.proofs.Rays.{square_le, from_squares, squares_apart}
use Rattle.ngc_circle_walk.proofs.NearEnd.{IsRim, limit_of}
use Rattle.ngc_circle_walk.proofs.JointMoves.{IsJoint}

-- 17/12 is above the root of 2
axes_sum : (x y r : ℕ) → x * x + y * y ≤ r * r → 12 * (x + y) ≤ 17 * r
axes_sum x y r h =
    let p = squares_apart x y in
    from_squares (12 * (x + y)) (17 * r) (omega arith)

pub joint_below : (g s r x y bx by : ℕ) → 0 < s → IsJoint g s r x bx → IsJoint g s r y by → bx * bx + by * by ≤ s * s →
    12 * square x y ≤ 12 * (r * r) + 17 * (r * g) + 6 * (g * g)
joint_below g s r x y bx by some jx jy round =
    let a = square_le (2 * (s * x)) (2 * (r * bx) + s * g) jx.up in
    let b = square_le (2 * (s * y)) (2 * (r * by) + s * g) jy.up in
    let c = mul-le-mul_left (r * r) round in
    let d = mul-le-mul_left (r * (s * g)) (axes_sum bx by s round) in
    let e : (s * s) * (12 * square x y) ≤ (s * s) * (12 * (r * r) + 17 * (r * g) + 6 * (g * g)) = omega arith in
    le_of_mul-le-mul_left e (omega (arith, square_le 1 s some))

pub joint_above : (g p r l v x y bx by : ℕ) → 500 ≤ g → 4 * g ≤ 5 * l + 4 → v + l ≡ r → r ≤ 20 * (p + 1) → IsJoint g (p + 1) r x bx → IsJoint g (p + 1) r y by →
    p * p ≤ bx * bx + by * by → v * v ≤ square x y
joint_above g p r l v x y bx by step low inner near jx jy round =
    elim (cases_lt (square x y) (v * v)) [
      | inr more ↦ more
      | inl less ↦ (
          let s = p + 1 in
          let a = square_le (2 * (r * bx)) (2 * (s * x) + s * g) jx.down in
          let b = square_le (2 * (r * by)) (2 * (s * y) + s * g) jy.down in
          let c = mul-le-mul_left (r * r) round in
          let d = mul-le-mul_left (s * (s * g)) (axes_sum x y v (omega arith)) in
          let f : square x y ≤ v * v = omega arith in
          let e = mul-le-mul_left (s * s) f in
          let h : (24 * (r * p)) * (24 * (r * p)) ≤ (s * (24 * v + 17 * g)) * (s * (24 * v + 17 * g)) = omega arith in
          let i = from_squares (24 * (r * p)) (s * (24 * v + 17 * g)) h in
          let j : s * (v + l) ≡ s * r = rw inner in
          let k = mul-le-mul_left s low in
          let m = mul-le-mul_left s step in
          absurd (omega arith))
    ]

-- ---- the point to which a move from the joint leads is between the bounds of a wheel

begins_outward : (g q h k l v x y : ℕ) → IsRim g q h k l v → g ≤ x → v * v ≤ square x y → square x (y + g) ≤ limit_of q h →
    (square x (y + g) ≤ limit_of q l) × (v * v ≤ square x (y + g))
begins_outward g q h k l v x y r inside above fits =
    let a : q + 1 + h ≤ q + 1 + l = omega (arith, r.h_high, r.l_low, r.step) in
    let b = square_le (q + 1 + h) (q + 1 + l) a in
    (omega arith, omega arith)

-- a diagonal move, if the limit does not allow outward: the joint is flat, as the start is
pub begins_diagonal_flat : (g q h k l v x y t : ℕ) → IsRim g q h k l v → x ≡ t + g → y ≤ x →
    12 * square x y ≤ 12 * ((q + 1) * (q + 1)) + 17 * ((q + 1) * g) + 6 * (g * g) → square t (y + g) ≤ limit_of q l + g * g
begins_diagonal_flat g q h k l v x y t r e flat below =
    let a = less_step g x t e in
    let b = mul-le-mul_left g flat in
    let xt : g * x ≡ g * (t + g) = rw e in
    let c = mul-le-mul_left (q + 1) r.l_low in
    let d = mul-le-mul_left l r.l_low in
    let f = mul-le-mul_left g r.l_low in
    let i = mul-le-mul_left g r.far in
    let j = mul-le-mul_left g r.step in
    let m = mul-le-mul_left (q + 1) r.step in
    omega arith

pub begins_inward : (g q h k l v x y t : ℕ) → IsRim g q h k l v → x ≡ t + g → square x y ≤ limit_of q l → limit_of q h < square t (y + g) →
    (square t y ≤ limit_of q l) × (v * v ≤ square t y)
begins_inward g q h k l v x y t r e below refused =
    let a = less_step g x t e in
    let b : v + g ≤ q + 1 + h = omega (arith, r.inner, r.h_low, r.l_low, r.step) in
    let c = square_le (v + g) (q + 1 + h) b in
    (omega arith, inward_above g v t y (omega arith))

-- a diagonal move, if the limit allows it: the joint is steep, to within the rounding
pub begins_diagonal_steep : (g q h k l v x y t : ℕ) → IsRim g q h k l v → x ≡ t + g → x ≤ y + g → v * v ≤ square x y → square t (y + g) ≤ limit_of q h →
    (square t (y + g) ≤ limit_of q l) × (v * v ≤ square t (y + g))
begins_diagonal_steep g q h k l v x y t r e steep above fits =
    let a = less_step g x t e in
    let b : t ≤ y = omega arith in
    let c = mul-le-mul_left g b in
    let d : q + 1 + h ≤ q + 1 + l = omega (arith, r.h_high, r.l_low, r.step) in
    let f = square_le (q + 1 + h) (q + 1 + l) d in
    (omega arith, omega arith)

pub begins_over : (g q h k l v x y : ℕ) → IsRim g q h k l v → x < g → square x y ≤ limit_of q l → v * v ≤ square x y →
    (square y (g - x) ≤ limit_of q l + g * g) × (v * v ≤ square y (g - x) + g * g)
begins_over g q h k l v x y r less below above = (over_below g (limit_of q l) x y less below, over_above g v x y less above)

-- a move over the axis crosses the start's ray: if the start is in the joint's quadrant
pub over_enters : (g x y bx by : ℕ) → x ≤ g → by * x ≤ bx * y + by * g
over_enters g x y bx by h = omega (arith, mul-le-mul_left by h)

-- and if it is in the next one, at (by, c) there
pub over_enters_behind : (g s r x y by c : ℕ) → 0 < s → x < g → g ≤ x + y → 2 * (s * x) + 2 * (r * c) ≤ s * g → 2 * (s * y) ≤ 2 * (r * by) + s * g →
    r * (c * y) ≤ r * (by * (g - x))
over_enters_behind g s r x y by c some less far jx jy =
    let t = g - x in
    let e : t + x ≡ g = omega arith in
    let a = mul-le-mul_left y jx in
    let b = mul-le-mul_left t jy in
    let d = mul-le-mul_left (s * g) far in
    let f : s * (y * (t + x)) ≡ s * (y * g) = rw e in
    let i : s * (g * (t + x)) ≡ s * (g * g) = rw e in
    omega arith
