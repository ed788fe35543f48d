-- Points of a quadrant, and a ray in it: e = (ex, ey) with q*q ≤ ex*ex + ey*ey ≤ (q+1)*(q+1).
use Rattle.std.proofs.Common.{◌≡◌, ℕ, ◌+◌, ◌-◌, ◌*◌, ◌<◌, ◌≤◌, inl, inr, refl, arith}
use Rattle.std.proofs.lemmas.Bool.{cases_lt}
use Rattle.std.proofs.lemmas.Nat.{mul-le}
use Rattle.std.proofs.Math.Nat.{mul-le-mul_left, le_of_mul-le-mul_left}

pub square_le : (a b : ℕ) → a ≤ b → a * a ≤ b * b
square_le a b h = mul-le a a b b h h

pub from_squares : (a b : ℕ) → a * a ≤ b * b → a ≤ b
from_squares a b h =
    elim (cases_lt b a) [
      | inl more ↦ (let p : (b + 1) * (b + 1) ≤ a * a = mul-le (b + 1) (b + 1) a a (omega arith) (omega arith) in absurd (omega arith))
      | inr less ↦ less
    ]

more_apart : (x k : ℕ) → 2 * (x * (x + k)) ≤ x * x + (x + k) * (x + k)
more_apart x k = omega arith

-- twice a product is at most the sum of the squares
pub squares_apart : (x y : ℕ) → 2 * (x * y) ≤ x * x + y * y
squares_apart x y =
    elim (cases_lt x y) [
      | inl less ↦ (let e : x + (y - x) ≡ y = omega arith in rw e at (more_apart x (y - x)))
      | inr more ↦ (let e : y + (x - y) ≡ x = omega arith in omega (arith, rw e at (more_apart y (x - y))))
    ]

-- past the ray: x is at most the share of e in the distance from the centre
pub beyond : (x y ex ey : ℕ) → x * ey ≤ y * ex → x * x * (ex * ex + ey * ey) ≤ (x * x + y * y) * (ex * ex)
beyond x y ex ey past = let p = square_le (x * ey) (y * ex) past in omega arith

-- past the ray and at most q + 1 + h from the centre, a point is at most h + 1 farther along x than
-- e
pub past_in : (x y ex ey q h : ℕ) → x * ey ≤ y * ex → x * x + y * y ≤ (q + 1 + h) * (q + 1 + h) → q * q ≤ ex * ex + ey * ey → ex ≤ q + 1 → h + 2 ≤ q →
    x ≤ ex + h + 1
past_in x y ex ey q h past near round small wide =
    let a = beyond x y ex ey past in
    let b = mul-le-mul_left (x * x) round in
    let c = mul-le-mul_left (ex * ex) near in
    let d : (x * q) * (x * q) ≤ ((q + 1 + h) * ex) * ((q + 1 + h) * ex) = omega arith in
    let r = from_squares (x * q) ((q + 1 + h) * ex) d in
    elim (cases_lt (ex + h + 1) x) [
      | inl more ↦ (
          let low : ex + h + 2 ≤ x = omega arith in
          let m = mul-le-mul_left q low in
          let n = mul-le-mul_left (h + 1) small in
          absurd (omega arith))
      | inr less ↦ less
    ]

-- before the ray and at least w from the centre, a point is at most d less along x than e, for a
-- ray of at most w + d
pub before_out : (x y ex ey w d : ℕ) → y * ex ≤ x * ey → w * w ≤ x * x + y * y → ex * ex + ey * ey ≤ (w + d) * (w + d) → 0 < w → ex ≤ x + d
before_out x y ex ey w d before far round some =
    let p = square_le (y * ex) (x * ey) before in
    let b = mul-le-mul_left (ex * ex) far in
    let c = mul-le-mul_left (x * x) round in
    let e : (w * ex) * (w * ex) ≤ (x * (w + d)) * (x * (w + d)) = omega arith in
    let r = from_squares (w * ex) (x * (w + d)) e in
    let s : ex * ex ≤ (w + d) * (w + d) = omega arith in
    let t = from_squares ex (w + d) s in
    elim (cases_lt (x + d) ex) [
      | inl more ↦ (
          let low : x + d + 1 ≤ ex = omega arith in
          let m = mul-le-mul_left w low in
          let u : x ≤ w = omega arith in
          let n = mul-le-mul_left d u in
          absurd (omega arith))
      | inr less ↦ less
    ]

-- ---- how far e may be ahead along y of the last point before its ray

-- a move inward leads past the ray, because a diagonal one is too far out
pub inward_near : (g t y ex ey limit : ℕ) → 0 < ey → t * ey ≤ y * ex → limit < t * t + (y + g) * (y + g) → ex * ex + ey * ey ≤ limit → 2 * ey < 2 * y + 3 * g
inward_near g t y ex ey limit some past refused room =
    elim (cases_lt (2 * ey) (2 * y + 3 * g)) [
      | inl less ↦ less
      | inr more ↦ (
          let up : y ≤ ey = omega arith in
          let a = mul-le-mul_left ex up in
          let b : ey * t ≤ ey * ex = omega arith in
          let c = le_of_mul-le-mul_left b some in
          let d = square_le t ex c in
          let high : y + g ≤ ey = omega arith in
          let f = square_le (y + g) ey high in
          absurd (omega arith))
    ]

-- a diagonal move leads past the ray, because one outward is too far out
diagonal_far : (g δ Y ex ey t limit : ℕ) → 0 < ey → t + g ≡ ex + δ → t * ey ≤ Y * ex → 2 * Y + g ≤ 2 * ey → 4 * limit < 4 * ((ex + δ) * (ex + δ) + Y * Y) →
    4 * (ex * ex + ey * ey) + 5 * (g * g) ≤ 4 * limit → ⊥
diagonal_far g δ Y ex ey t limit some e past low refused room =
    let a = mul-le-mul_left ex low in
    let te : (t + g) * ey ≡ (ex + δ) * ey = rw e in
    let b : 2 * (δ * ey) + g * ex ≤ 2 * (g * ey) = omega arith in
    let c : δ ≤ g = elim (cases_lt g δ) [
      | inl more ↦ (let m : g + 1 ≤ δ = omega arith in let n = mul-le-mul_left ey m in absurd (omega arith))
      | inr less ↦ less
    ] in
    let d = mul-le-mul_left ex b in
    let s : 2 * (ex * ey) ≤ ex * ex + ey * ey = squares_apart ex ey in
    let f = mul-le-mul_left g s in
    let h : ey * (2 * (δ * ex)) ≤ ey * (g * ey) = omega arith in
    let i = le_of_mul-le-mul_left h some in
    let w = 2 * ey - g in
    let we : w + g ≡ 2 * ey = omega arith in
    let yw : 2 * Y ≤ w = omega arith in
    let j = square_le (2 * Y) w yw in
    let k : (w + g) * (w + g) ≡ (2 * ey) * (2 * ey) = rw we in
    let l : g * (w + g) ≡ g * (2 * ey) = rw we in
    let n = square_le δ g c in
    omega arith

pub diagonal_near : (g t y ex ey limit : ℕ) → 0 < ey → t * ey ≤ (y + g) * ex → limit < (t + g) * (t + g) + (y + g) * (y + g) →
    4 * (ex * ex + ey * ey) + 5 * (g * g) ≤ 4 * limit → 2 * ey < 2 * y + 3 * g
diagonal_near g t y ex ey limit some past refused room =
    elim (cases_lt (2 * ey) (2 * y + 3 * g)) [
      | inl less ↦ less
      | inr more ↦ elim (cases_lt (t + g) ex) [
        | inl inner ↦ (
            let le : t + g ≤ ex = omega arith in
            let a = square_le (t + g) ex le in
            let high : y + g ≤ ey = omega arith in
            let b = square_le (y + g) ey high in
            absurd (omega arith))
        | inr outer ↦ (
            let δ = t + g - ex in
            let e : t + g ≡ ex + δ = omega arith in
            let refused_more : 4 * limit < 4 * ((t + g) * (t + g) + (y + g) * (y + g)) = omega arith in
            let r : 4 * limit < 4 * ((ex + δ) * (ex + δ) + (y + g) * (y + g)) = rw e at refused_more in
            absurd (diagonal_far g δ (y + g) ex ey t limit some e past (omega arith) r room))
      ]
    ]

-- a move outward leads past the ray: the point before it would be too near the centre. If d is the
-- dot product of point and e, and c their cross product, d*d + c*c is the product of both squared
-- distances.
pub shared : (x y ex ey d c : ℕ) → x * ey ≡ y * ex + c → d ≡ x * ex + y * ey → d * d + c * c ≡ (x * x + y * y) * (ex * ex + ey * ey)
shared x y ex ey d c cross dot =
    let a : (x * ey) * (x * ey) ≡ (y * ex + c) * (y * ex + c) = rw cross in
    let b : y * ex * (x * ey) ≡ y * ex * (y * ex + c) = rw cross in
    let e : d * d ≡ (x * ex + y * ey) * (x * ex + y * ey) = rw dot in
    omega arith

-- so the dot product of two vectors is at most the product of their lengths
pub cauchy : (x y ex ey : ℕ) → (x * ex + y * ey) * (x * ex + y * ey) ≤ (x * x + y * y) * (ex * ex + ey * ey)
cauchy x y ex ey = let p = squares_apart (x * ey) (y * ex) in omega arith

-- a point at most g before the ray, measured across it, and at least 3g/2 short of e along y, is
-- more than a step too near
pub outward_far : (g x y ex ey q : ℕ) → 0 < ey → y * ex ≤ x * ey → x * ey ≤ (y + g) * ex → q * q ≤ ex * ex + ey * ey → 2 * y + 3 * g ≤ 2 * ey →
    25 * (x * x + y * y) + 70 * (g * q) ≤ 25 * (ex * ex + ey * ey) + 74 * (g * g)
outward_far g x y ex ey q some before past small low =
    let n = ex * ex + ey * ey in
    let d = x * ex + y * ey in
    let c = x * ey - y * ex in
    let ce : x * ey ≡ y * ex + c = omega arith in
    let cg : c ≤ g * ex = omega arith in
    let s = shared x y ex ey d c ce refl in
    let p1 = mul-le-mul_left ex past in
    let p2 = mul-le-mul_left n low in
    let p3 = squares_apart (5 * q) (7 * ey) in
    let p4 = mul-le-mul_left g p3 in
    let p5 = mul-le-mul_left g small in
    let p6 : ey * (10 * d + 14 * (g * q)) ≤ ey * (10 * n) = omega arith in
    let p7 = le_of_mul-le-mul_left p6 some in
    let m = 5 * n - 7 * (g * q) in
    let p8 : 5 * d ≤ m = omega arith in
    let p9 = square_le (5 * d) m p8 in
    let me : m + 7 * (g * q) ≡ 5 * n = omega arith in
    let m1 : (m + 7 * (g * q)) * (m + 7 * (g * q)) ≡ (5 * n) * (5 * n) = rw me in
    let m2 : g * q * (m + 7 * (g * q)) ≡ g * q * (5 * n) = rw me in
    let c2 = square_le c (g * ex) cg in
    let p10 = mul-le-mul_left (g * g) small in
    let p11 : n * (25 * (x * x + y * y) + 70 * (g * q)) ≤ n * (25 * n + 74 * (g * g)) = omega arith in
    le_of_mul-le-mul_left p11 (omega (arith, square_le 1 ey some))

-- a point from which a step inward leads past the ray, and at least 3g/2 ahead of e along x, is
-- more than a step too far out
pub inward_far : (g t x y ex ey q : ℕ) → 0 < ex → x ≡ t + g → t * ey ≤ y * ex → q * q ≤ ex * ex + ey * ey → 2 * ex + 3 * g ≤ 2 * x →
    25 * (ex * ex + ey * ey) + 70 * (g * q) ≤ 25 * (x * x + y * y)
inward_far g t x y ex ey q some e past small high =
    let n = ex * ex + ey * ey in
    let d = x * ex + y * ey in
    let p0 : 2 * ex + g ≤ 2 * t = omega arith in
    let p1 = mul-le-mul_left ey past in
    let p2 = mul-le-mul_left n p0 in
    let p3 = squares_apart (5 * q) (7 * ex) in
    let p4 = mul-le-mul_left g p3 in
    let p5 = mul-le-mul_left g small in
    let xe : x * (ex * ex) ≡ (t + g) * (ex * ex) = rw e in
    let p6 : ex * (10 * n + 14 * (g * q)) ≤ ex * (10 * d) = omega arith in
    let p7 = le_of_mul-le-mul_left p6 some in
    let p8 : 5 * n + 7 * (g * q) ≤ 5 * d = omega arith in
    let p9 = square_le (5 * n + 7 * (g * q)) (5 * d) p8 in
    let c = cauchy x y ex ey in
    let p10 : n * (25 * n + 70 * (g * q)) ≤ n * (25 * (x * x + y * y)) = omega arith in
    le_of_mul-le-mul_left p10 (omega (arith, square_le 1 ex some))
