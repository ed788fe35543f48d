-- The bounds on a wheel's points, for the arc: with an end at the radius q + 1, between the arc's
-- radii near and far.
use Rattle.std.proofs.Common.{◌≡◌, ℕ, ◌+◌, ◌-◌, ◌*◌, ◌<◌, ◌≤◌, arith}
use Rattle.std.proofs.Math.Nat.{mul-le-mul_left}
use Rattle.ngc_circle_walk.specs.Wheel.{square}
use Rattle.ngc_circle_walk.proofs.Rays.{square_le, past_in, before_out}
use Rattle.ngc_circle_walk.proofs.NearEnd.{IsRim, limit_of}

pub not_too_far : (g q h k l v x y far : ℕ) → IsRim g q h k l v → square x y ≤ limit_of q l + g * g → q + 1 ≤ far → square x y ≤ (far + g) * (far + g)
not_too_far g q h k l v x y far r below wide =
    let a : q + 1 + g ≤ far + g = omega arith in
    let b = square_le (q + 1 + g) (far + g) a in
    let c = mul-le-mul_left (q + 1) r.l_high in
    let d = mul-le-mul_left l r.l_high in
    let e = mul-le-mul_left g r.l_high in
    let f = mul-le-mul_left g r.far in
    omega (arith, a, b, c, d, e, f, below)

pub not_too_near : (g q h k l v x y near : ℕ) → IsRim g q h k l v → v * v ≤ square x y + g * g → near ≤ q + 1 → (near - g) * (near - g) ≤ square x y
not_too_near g q h k l v x y near r above small =
    let u = v - (g - l) in
    let m = g - l in
    let me : m + l ≡ g = omega (arith, r.l_high) in
    let e : u + m ≡ v = omega (arith, r.inner, r.far, r.l_high) in
    let a : near - g ≤ u = omega (arith, e, me, r.inner, small) in
    let b = square_le (near - g) u a in
    let c : (u + m) * (u + m) ≡ v * v = rw e in
    let d : g ≤ 5 * m = omega (arith, me, r.l_high) in
    let f : 7 * g ≤ u = omega (arith, e, me, r.inner, r.far) in
    let i = mul-le-mul_left m f in
    let j = mul-le-mul_left g d in
    omega (arith, above, b, c, i, j)

-- ---- in its start's quadrant, past the start's direction: a box round the start and the following
-- quadrant points contains the point. The start is (bx, by), at the radius p + 1, and the band is
-- from low to p + 1 + wide.
pub beside_start : (x y bx by p wide : ℕ) → x * by ≤ y * bx → square x y ≤ (p + 1 + wide) * (p + 1 + wide) → p * p ≤ square bx by → bx ≤ p + 1 → wide + 2 ≤ p →
    x ≤ bx + wide + 1
beside_start x y bx by p wide past near round small room = past_in x y bx by p wide past near round small room

pub above_start : (x y bx by low d : ℕ) → x * by ≤ y * bx → low * low ≤ square x y → square bx by ≤ (low + d) * (low + d) → 0 < low → by ≤ y + d
above_start x y bx by low d past far round some =
    before_out y x by bx low d (omega (arith, past)) (omega (arith, far)) (omega (arith, round)) some
