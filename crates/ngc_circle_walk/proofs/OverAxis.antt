-- Moves over an axis: an end shortly past it, and the quadrant point on it.
use Rattle.std.proofs.Common.{◌≡◌, ℕ, ◌+◌, ◌-◌, ◌*◌, ◌<◌, ◌≤◌, inl, inr, arith}
use Rattle.std.proofs.lemmas.Bool.{cases_lt}
use Rattle.std.proofs.Math.Nat.{mul-le-mul_left}
use Rattle.ngc_circle_walk.specs.declared.spoke.Spoke.{Spoke}
use Rattle.ngc_circle_walk.specs.Bounds.{IsBelow, IsAbove}
use Rattle.ngc_circle_walk.proofs.Rays.{square_le, from_squares}
use Rattle.ngc_circle_walk.proofs.NearEnd.{IsRim, IsRay, IsBeside, limit_of, far_enough}

-- a point just before an axis is at least w along it
far_along : (g q h k l v w : ℕ) (s : Spoke) → IsRim g q h k l v → w + k ≡ v → IsAbove g v s → s.x < g → w ≤ s.y
far_along g q h k l v w s r e above less =
    let a = square_le s.x g (omega arith) in
    let up = above.by_axis less in
    let b = far_enough g q h k l v 0 s.y w r e (omega (arith, up, a)) in
    from_squares w s.y (omega (arith, b))

close_behind : (g w d t y ez ew : ℕ) → 0 < g → 2 * d < w → t ≤ g → w ≤ y → ez ≤ w + d → y * ew ≤ t * ez → 2 * ew < g + 2 * t
close_behind g w d t y ez ew some small tg along wide past =
    elim (cases_lt (2 * ew) (g + 2 * t)) [
      | inl fine ↦ fine
      | inr far ↦ (
          let a = mul-le-mul_left ew along in
          let b = mul-le-mul_left t wide in
          let c = mul-le-mul_left w far in
          let e = mul-le-mul_left d tg in
          let f : 2 * d + 1 ≤ w = omega arith in
          let i = mul-le-mul_left g f in
          absurd (omega arith))
    ]

not_short : (g q y ez ew : ℕ) → 500 ≤ g → 8 * g ≤ q + 1 → 2 * ew < 3 * g → q * q ≤ ez * ez + ew * ew → 5 * y ≤ 5 * q + 5 + 4 * g → 2 * y < 2 * ez + 3 * g
not_short g q y ez ew step far close round high =
    elim (cases_lt (2 * y) (2 * ez + 3 * g)) [
      | inl fine ↦ fine
      | inr short ↦ (
          let a : 2 * ez + g ≤ 2 * q = omega arith in
          let b = square_le (2 * ez + g) (2 * q) a in
          let c : 2 * ew ≤ 3 * g = omega arith in
          let d = square_le (2 * ew) (3 * g) c in
          let e : ez ≤ 2 * g = elim (cases_lt (2 * g) ez) [
            | inl more ↦ (let m : 2 * g + 1 ≤ ez = omega arith in let n = mul-le-mul_left g m in absurd (omega arith))
            | inr less ↦ less
          ] in
          let f = square_le ez (2 * g) e in
          let i : 7 * g ≤ q = omega arith in
          let j = square_le (7 * g) q i in
          let n = mul-le-mul_left g step in
          absurd (omega arith))
    ]

-- an end (ez, ew) of the next quadrant that a move over the axis reaches or passes: it is ew past
-- the axis
pub next_near : (g q h k l v : ℕ) (s : Spoke) (ez ew : ℕ) → IsRim g q h k l v → IsRay q ez ew → IsBelow g (limit_of q l) s → IsAbove g v s →
    s.x < g → s.y * ew ≤ (g - s.x) * ez → (2 * (s.x + ew) < 3 * g) × IsBeside g s.y ez
next_near g q h k l v s ez ew r ray below above less past =
    let w = v - k in
    let e : w + k ≡ v = omega (arith, r.inner, r.far, r.k_high, r.l_high) in
    let along = far_along g q h k l v w s r e above less in
    let wide = from_squares ez (q + 1) (omega (arith, ray.great)) in
    let d = q + 1 - w in
    let de : w + d ≡ q + 1 = omega (arith, e, r.inner) in
    let small : 10 * d ≤ 13 * g = omega (arith, e, de, r.inner, r.l_high, r.k_high, r.step) in
    let t = g - s.x in
    let afterwards = close_behind g w d t s.y ez ew (omega (arith, r.step)) (omega (arith, small, de, r.far, r.step)) (omega arith) along
    (omega (arith, wide, de)) past in
    let first : 2 * (s.x + ew) < 3 * g = omega (arith, afterwards, less) in
    let high = from_squares s.y (q + 1 + l) (omega (arith, below.by_axis less)) in
    let second = not_short g q s.y ez ew r.step r.far (omega (arith, first)) ray.small (omega (arith, high, r.l_high)) in
    (first, record { up = second; down = omega (arith, wide, along, de, small, r.step) })

-- a point less than a step from a half axis, whose distance from the centre differs from big by at
-- most d, is within d + g of the point at big on the axis
pub by_axis_point : (g a b d : ℕ) → a ≤ g → b ≤ d + g → a * a + b * b ≤ (d + 2 * g) * (d + 2 * g)
by_axis_point g a b d ha hb =
    let p = square_le a g ha in
    let q = square_le b (d + g) hb in
    omega arith
