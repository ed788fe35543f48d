-- From the joint (x, y) straight to an end whose ray a diagonal move would reach or pass: less than 7g/4 on each axis.
use Rattle.std.proofs.Common.{◌≡◌, ℕ, ◌+◌, ◌-◌, ◌*◌, ◌<◌, ◌≤◌, inl, inr, arith}
use Rattle.std.proofs.lemmas.Bool.{cases_lt}
use Rattle.std.proofs.Math.Nat.{mul-le-mul_left, le_of_mul-le-mul_left}
use Rattle.ngc_circle_walk.specs.Wheel.{square}
use Rattle.ngc_circle_walk.proofs.Rim.{less_step}
use Rattle.ngc_circle_walk.proofs.Rays.{square_le, from_squares, beyond, before_out}
use Rattle.ngc_circle_walk.proofs.NearEnd.{IsRay}

-- along y, if the joint is steep to within the rounding and at least w from the centre
pub short_steep : (g t x y ex ey w d : ℕ) → x ≡ t + g → x ≤ y + g → w * w ≤ square x y → t * ey ≤ (y + g) * ex → ex * ex + ey * ey ≤ (w + d) * (w + d) → 0 < w →
    ey ≤ y + g + d
short_steep g t x y ex ey w d e steep far past round some =
    let a = less_step g x t e in
    let b : t ≤ y = omega arith in
    let c = mul-le-mul_left g b in
    before_out (y + g) t ey ex w d past (omega arith) (omega arith) some

-- a point past the ray and at least 3g/4 ahead of e is far out
ahead_out : (g t Y ex ey δ : ℕ) → 0 < ex → t * ey ≤ Y * ex → 4 * ex + 3 * g ≤ 4 * t → square t Y ≤ ex * ex + ey * ey + δ →
    3 * (g * (ex * ex + ey * ey)) ≤ 2 * (δ * ex)
ahead_out g t Y ex ey δ some past far near =
    let n = ex * ex + ey * ey in
    let a = beyond t Y ex ey past in
    let b = square_le (4 * ex + 3 * g) (4 * t) far in
    let c = mul-le-mul_left n b in
    let d = mul-le-mul_left (ex * ex) near in
    let e : ex * (24 * (g * n)) ≤ ex * (16 * (δ * ex)) = omega arith in
    let f = le_of_mul-le-mul_left e some in
    omega arith

last_sum : (g q a b δ n : ℕ) → 3 * (g * n) ≤ 2 * a → 4 * a ≤ 3 * b → 12 * b ≤ (q + 1) * (24 * (q + 1) + 17 * ((q + 1) * g) + 30 * (g * g)) →
    g * (q * q) ≤ g * n →
    g * (q + 1) * (8 * g) ≤ g * (q + 1) * (q + 1) → (q + 1) * (q + 1) * 500 ≤ (q + 1) * (q + 1) * g → (q + 1) * (8 * g) ≤ (q + 1) * (q + 1) → ⊥
last_sum g q a b δ n c f i m rg rr rf = omega arith

-- along x, if it is flat
pub short_flat : (g q t x y ex ey : ℕ) → 500 ≤ g → 8 * g ≤ q + 1 → x ≡ t + g → y ≤ x →
    12 * square x y ≤ 12 * ((q + 1) * (q + 1)) + 17 * ((q + 1) * g) + 6 * (g * g) →
    t * ey ≤ (y + g) * ex → IsRay q ex ey → 0 < ex → 4 * x < 4 * ex + 7 * g
short_flat g q t x y ex ey step far e flat below past ray some =
    let r = q + 1 in
    let n = ex * ex + ey * ey in
    let a = less_step g x t e in
    let rg = mul-le-mul_left (g * r) far in
    let rr = mul-le-mul_left (r * r) step in
    let gr = mul-le-mul_left r step in
    let gg = mul-le-mul_left (g * g) step in
    let r8 = mul-le-mul_left g far in
    let rf = mul-le-mul_left r far in
    let m = mul-le-mul_left g ray.small in
    elim (cases_lt (4 * x) (4 * ex + 7 * g)) [
      | inl fine ↦ fine
      | inr more ↦ elim (cases_lt t y) [
        | inr apart ↦ (
            let b = mul-le-mul_left g apart in
            let δ = square t (y + g) - n in
            let c = ahead_out g t (y + g) ex ey δ some past (omega arith) (omega arith) in
            let small = from_squares ex r (omega (arith, ray.great)) in
            let d : 12 * δ ≤ 24 * r + 17 * (r * g) + 6 * (g * g) = omega (arith, ray.small, a, b, below) in
            let f = mul-le-mul_left δ small in
            let i = mul-le-mul_left r d in
            absurd (omega (arith, c, f, i, m, rg, rr, gr, gg, r8)))
        | inl steep ↦ (
            let b = mul-le-mul_left g flat in
            let δ = square t (y + g) - n in
            let c = ahead_out g t (y + g) ex ey δ some past (omega arith) (omega arith) in
            let ty = square_le t y (omega arith) in
            let high : 4 * t ≤ 3 * (r + g) = elim (cases_lt (3 * (r + g)) (4 * t)) [
              | inl up ↦ (let u = square_le (3 * (r + g)) (4 * t) (omega arith) in let w = mul-le-mul_left g up in absurd (omega (arith, u, a, ty, below, r8)))
              | inr down ↦ down
            ] in
            let small : 4 * ex ≤ 3 * r = omega arith in
            let xg : g * x ≡ g * (t + g) = rw e in
            let d : 12 * δ ≤ 24 * r + 17 * (r * g) + 30 * (g * g) = omega (arith, ray.small, a, b, below, xg) in
            let f = mul-le-mul_left δ small in
            let i = mul-le-mul_left r d in
            absurd (last_sum g q (δ * ex) (δ * r) δ n c (omega (arith, f)) (omega (arith, i)) m rg rr rf))
      ]
    ]
