-- Round a circle of less than eight steps: the last point of a wheel before a ray is less than four steps from the ray's end.
use Rattle.std.proofs.Common.{◌≡◌, ℕ, ◌+◌, ◌-◌, ◌*◌, ◌<◌, ◌≤◌, pos, ◌-ℤ◌, unsigned_abs, inl, inr, ap, arith}
use Rattle.std.proofs.lemmas.Int.{ints}
use Rattle.std.proofs.lemmas.Bool.{cases_lt}
use Rattle.std.proofs.Math.Nat.{mul-le-mul_left}
use Rattle.ngc_circle_walk.specs.declared.spoke.Roll.{Roll}
use Rattle.ngc_circle_walk.specs.declared.spoke.Roll.TheVariants.{Outward, Diagonal, Inward, Over}
use Rattle.ngc_circle_walk.specs.declared.spoke.Spoke.{Spoke}
use Rattle.ngc_circle_walk.specs.Wheel.{square, IsRoll}
use Rattle.ngc_circle_walk.proofs.NearEnd.{IsRay}
use Rattle.ngc_circle_walk.proofs.Rays.{square_le, squares_apart, shared}

-- ---- if the point is farther out than the end, by m in squares; G is the square of a step

-- d over the least m, which is lo
over_least : (G lo E d : ℕ) → 15 * G ≡ lo + 2 * E → d ≤ 4 * E → 52 * (G * E) + 30 * (G * (d + lo)) < (d + lo) * (d + lo) + 225 * (G * G) → ⊥
over_least G lo E d e few near =
    let a : 15 * G * E ≡ (lo + 2 * E) * E = ap (λ t. t * E) e in
    let b : 15 * G * d ≡ (lo + 2 * E) * d = ap (λ t. t * d) e in
    let c : 15 * G * lo ≡ (lo + 2 * E) * lo = ap (λ t. t * lo) e in
    let f : (15 * G) * (15 * G) ≡ (lo + 2 * E) * (lo + 2 * E) = ap (λ t. t * t) e in
    let h = mul-le-mul_left d few in
    omega (arith, a, b, c, f, h, near)

axis_distance : (g r G t E m : ℕ) → G ≡ g * g → t ≡ r * g → r ≤ 8 * g → r * r ≤ E + G → m ≤ 4 * t + 6 * G → 15 * G < 2 * E + m →
    52 * (G * E) + 30 * (G * m) < m * m + 225 * (G * G) → ⊥
axis_distance g r G t E m eG et small round far more near =
    let rg = mul-le-mul_left g small in
    let t_small : t ≤ 8 * G = omega (arith, rg, eG, et) in
    elim (cases_lt (2 * E) (9 * G)) [
      | inl tiny ↦ (
          let a = squares_apart r g in
          let lo = 15 * G - 2 * E in
          let elo : 15 * G ≡ lo + 2 * E = omega (arith, tiny) in
          let d = m - lo in
          let ed : d + lo ≡ m = omega (arith, more, elo) in
          let few : d ≤ 4 * E = omega (arith, a, eG, et, round, far, ed, elo) in
          over_least G lo E d elo few (rw ed near))
      | inr large ↦ elim (cases_lt (30 * G) (4 * t + 6 * G)) [
        | inr short ↦ (
            let a = mul-le-mul_left m (let h : m ≤ 30 * G = omega (arith, far, short) in h) in
            let b = mul-le-mul_left G large in
            omega (arith, a, b, near))
        | inl long ↦ (
            let h : 6 * g ≤ r = elim (cases_lt r (6 * g)) [
              | inr fine ↦ fine
              | inl less ↦ (let q = mul-le-mul_left g (let le : r ≤ 6 * g = omega (arith, less) in le) in absurd (omega (arith, q, long, et, eG)))
            ] in
            let c = square_le (6 * g) r h in
            let far' : m ≤ 38 * G = omega (arith, far, t_small) in
            let a = mul-le-mul_left m far' in
            let b = mul-le-mul_left G far' in
            let big : 35 * G ≤ E = omega (arith, c, round, eG) in
            let d = mul-le-mul_left G big in
            omega (arith, a, b, d, near))
      ]
    ]

-- ---- if it is nearer, by m

nearer : (g r G t E m : ℕ) → G ≡ g * g → t ≡ r * g → E ≤ r * r → 31 * (r * r) ≤ 31 * E + G → 15 * G + m < 2 * E → (7 * g ≤ 2 * r → m + G ≤ 3 * t) →
    52 * (G * E) < (m + 15 * G) * (m + 15 * G) → ⊥
nearer g r G t E m eG et high round more close near =
    elim (cases_lt (2 * r) (7 * g)) [
      | inl slim ↦ (
          let a = square_le (2 * r) (7 * g) (omega (arith, slim)) in
          let b = square_le (m + 15 * G) (2 * E) (omega (arith, more)) in
          let c : 4 * E ≤ 49 * G = omega (arith, a, high, eG) in
          let d = mul-le-mul_left E c in
          omega (arith, b, d, near))
      | inr wide ↦ (
          let h : m + 15 * G ≤ 3 * t + 14 * G = omega (arith, close wide) in
          let a = square_le (m + 15 * G) (3 * t + 14 * G) h in
          let w : 7 * G ≤ 2 * t = (let p = mul-le-mul_left g wide in omega (arith, p, eG, et)) in
          let b = mul-le-mul_left t w in
          let c = mul-le-mul_left G w in
          let tt' : t * t ≡ G * (r * r) = rw (et, eG) (omega arith) in
          let d = mul-le-mul_left G round in
          omega (arith, a, b, c, tt', d, near))
    ]

-- ---- squared sizes: A of a point before the ray and E of the ray's end, p and c the dot and the cross product of both

pub record IsBeforeRay (g q A E p c : ℕ) : Type 0 where
  pub step : 500 ≤ g
  pub small : q + 1 ≤ 8 * g
  pub end_low : q * q ≤ E
  pub end_high : E ≤ (q + 1) * (q + 1)
  pub below : A ≤ (q + 1 + 2 * g) * (q + 1 + 2 * g) + g * g
  pub above : 7 * g ≤ 2 * (q + 1) → E + g * g ≤ A + 3 * ((q + 1) * g)
  pub lagrange : c * c + p * p ≡ A * E
  pub beside : c * c ≤ 2 * (g * g * E)

-- the square of the distance between both is at most fifteen times a step's
pub by_the_end : (g q A E p c D : ℕ) → IsBeforeRay g q A E p c → D + 2 * p ≡ A + E → D ≤ 15 * (g * g)
by_the_end g q A E p c D r e =
    let G = g * g in
    let t = (q + 1) * g in
    elim (cases_lt (15 * G) D) [
      | inr fine ↦ fine
      | inl long ↦ (
          let s = A + E - 15 * G in
          let es : s + 15 * G ≡ A + E = omega (arith, long, e) in
          let a = square_le (2 * p + 1) s (omega (arith, long, e, es)) in
          let near : 4 * (A * E) < s * s + 8 * (G * E) = omega (arith, a, r.lagrange, r.beside) in
          let ss : (s + 15 * G) * (s + 15 * G) ≡ (A + E) * (A + E) = ap (λ x. x * x) es in
          let gs : G * (s + 15 * G) ≡ G * (A + E) = ap (λ x. G * x) es in
          let gg = mul-le-mul_left g r.step in
          let qq = r.small in
          elim (cases_lt A E) [
            | inr out ↦ (
                let m = A - E in
                let em : A ≡ E + m = omega (arith, out) in
                let aE : A * E ≡ (E + m) * E = ap (λ x. x * E) em in
                let aa : (A + E) * (A + E) ≡ (E + m + E) * (E + m + E) = ap (λ x. (x + E) * (x + E)) em in
                let ga : G * (A + E) ≡ G * (E + m + E) = ap (λ x. G * (x + E)) em in
                absurd (axis_distance g (q + 1) G t E m (omega arith) (omega arith) r.small (omega (arith, r.end_low, gg, qq))
                (omega (arith, r.below, r.end_low, em, gg, qq)) (omega (arith, es, em, a, long, e))
                (omega (arith, near, ss, gs, aE, aa, ga))))
            | inl ins ↦ (
                let m = E - A in
                let em : E ≡ A + m = omega (arith, ins) in
                let eA : A + m ≡ E = omega (arith, em) in
                let aE : A * E + m * E ≡ E * E = (let h : (A + m) * E ≡ E * E = ap (λ x. x * E) eA in omega (arith, h)) in
                let aa : (A + E + m) * (A + E + m) ≡ (E + E) * (E + E) = ap (λ x. x * x) (let h : A + E + m ≡ E + E = omega (arith, eA) in h) in
                let am : m * (A + E + m) ≡ m * (E + E) = ap (λ x. m * x) (let h : A + E + m ≡ E + E = omega (arith, eA) in h) in
                let ga : G * (A + E + m) ≡ G * (E + E) = ap (λ x. G * x) (let h : A + E + m ≡ E + E = omega (arith, eA) in h) in
                absurd (nearer g (q + 1) G t E m (omega arith) (omega arith) r.end_high (omega (arith, r.end_low, gg, qq)) (omega (arith, es, em, a))
                (λ wide. (omega (arith, r.above wide, em)))
                (omega (arith, near, ss, gs, aE, aa, am, ga))))
          ])
    ]

-- ---- for a move that reaches or passes the ray

-- a point near the circle of radius q + 1, which is less than eight steps; a point less than a step
-- before an axis is not near the centre
pub record IsSlim (g q x y : ℕ) : Type 0 where
  pub step : 500 ≤ g
  pub small : q + 1 ≤ 8 * g
  pub below : square x y ≤ (q + 1 + 2 * g) * (q + 1 + 2 * g)
  pub above : 7 * g ≤ 2 * (q + 1) → (q + 1) * (q + 1) ≤ square x y + 2 * ((q + 1) * g) + g * g
  pub outside : x < g → 2 * (g * g) ≤ square x y

abbrev pub apart : ℕ → ℕ → ℕ
apart x z = unsigned_abs (pos z -ℤ pos x)

square_gap : (x z d w : ℕ) → w ≡ d → x + d ≡ z → w * w + 2 * (x * z) ≡ x * x + z * z
square_gap x z d w e f =
    let a : w * w ≡ d * d = ap (λ t. t * t) e in
    let b : x * (x + d) ≡ x * z = ap (λ t. x * t) f in
    let c : (x + d) * (x + d) ≡ z * z = ap (λ t. t * t) f in
    omega (arith, a, b, c)

square_apart : (x z : ℕ) → apart x z * apart x z + 2 * (x * z) ≡ x * x + z * z
square_apart x z =
    elim (cases_lt x z) [
      | inl less ↦ square_gap x z (z - x) (apart x z) (omega (arith, ints, less)) (omega (arith, less))
      | inr more ↦ (let h = square_gap z x (x - z) (apart x z) (omega (arith, ints, more)) (omega (arith, more)) in omega (arith, h))
    ]

-- a move from before a ray of its quadrant reaches or passes it
abbrev pub Reaches : ℕ → Spoke → Roll → ℕ → ℕ → Type 0
Reaches g s Over ex ey = Unit {0}
Reaches g s Outward ex ey = s.x * ey ≤ (s.y + g) * ex
Reaches g s Diagonal ex ey = (s.x - g) * ey ≤ (s.y + g) * ex
Reaches g s Inward ex ey = (s.x - g) * ey ≤ s.y * ex

within_roll : (g limit : ℕ) (s : Spoke) (r : Roll) (ex ey : ℕ) → IsRoll g limit s r → Reaches g s r ex ey → s.x * ey ≤ s.y * ex + g * (ex + ey)
within_roll g limit s Over ex ey roll past =
    let a = mul-le-mul_left ey (let h : s.x ≤ g = omega (arith, roll) in h) in
    omega (arith, a)
within_roll g limit s Outward ex ey roll past = omega (arith, past)
within_roll g limit s Diagonal ex ey roll past =
    let t = s.x - g in
    let e : s.x ≡ t + g = omega (arith, roll.0) in
    let f : s.x * ey ≡ (t + g) * ey = ap (λ x. x * ey) e in
    omega (arith, f, past)
within_roll g limit s Inward ex ey roll past =
    let t = s.x - g in
    let e : s.x ≡ t + g = omega (arith, roll.0) in
    let f : s.x * ey ≡ (t + g) * ey = ap (λ x. x * ey) e in
    omega (arith, f, past)

-- the consequence for squares
from_bounds : (g q x y E p c : ℕ) → IsSlim g q x y → q * q ≤ E → E ≤ (q + 1) * (q + 1) → c * c + p * p ≡ square x y * E → c * c ≤ 2 * (g * g * E) →
    IsBeforeRay g q (square x y) E p c
from_bounds g q x y E p c r low high lagrange beside = record {
  step = r.step;
  small = r.small;
  end_low = low;
  end_high = high;
  below = omega (arith, r.below);
  above = λ wide. (
      let a = mul-le-mul_left g (let h : 7 * g ≤ 2 * (q + 1) = wide in h) in
      omega (arith, a, r.above wide, high));
  lagrange = lagrange;
  beside = beside;
}

-- the end is in the point's quadrant
pub last_here : (g q limit : ℕ) (s : Spoke) (r : Roll) (ex ey : ℕ) → IsSlim g q s.x s.y → IsRay q ex ey → IsRoll g limit s r → s.y * ex ≤ s.x * ey →
    Reaches g s r ex ey →
    apart s.x ex * apart s.x ex + apart s.y ey * apart s.y ey ≤ 15 * (g * g)
last_here g q limit s r ex ey slim ray roll before past =
    let x = s.x in
    let y = s.y in
    let c = x * ey - y * ex in
    let ec : x * ey ≡ y * ex + c = omega (arith, before) in
    let p = x * ex + y * ey in
    let m = shared x y ex ey p c ec (omega arith) in
    let most : c ≤ g * (ex + ey) = omega (arith, ec, within_roll g limit s r ex ey roll past) in
    let a = square_le c (g * (ex + ey)) most in
    let b = mul-le-mul_left (g * g) (squares_apart ex ey) in
    let f = square_apart x ex in
    let h = square_apart y ey in
    by_the_end g q (square x y) (ex * ex + ey * ey) p c (apart x ex * apart x ex + apart y ey * apart y ey)
    (from_bounds g q x y (ex * ex + ey * ey) p c slim ray.small ray.great (omega (arith, m)) (omega (arith, a, b)))
    (omega (arith, f, h))

-- the end is in the next quadrant, into which the move leads; the distance along one axis is x + ew
pub last_over : (g q : ℕ) (s : Spoke) (ez ew : ℕ) → IsSlim g q s.x s.y → IsRay q ez ew → s.x < g → s.y * ew ≤ (g - s.x) * ez →
    (s.x + ew) * (s.x + ew) + apart s.y ez * apart s.y ez ≤ 15 * (g * g)
last_over g q s ez ew slim ray roll past =
    let x = s.x in
    let y = s.y in
    let u = g - x in
    let eu : u + x ≡ g = omega (arith, roll) in
    let h = square_apart y ez in
    elim (cases_lt (y * ez) (x * ew)) [
      | inr ahead ↦ (
          let p = y * ez - x * ew in
          let ep : y * ez ≡ x * ew + p = omega (arith, ahead) in
          let c = y * ew + x * ez in
          let m = shared y x ew ez c p ep (omega arith) in
          let gz : (u + x) * ez ≡ g * ez = ap (λ t. t * ez) eu in
          let most : c ≤ g * ez = omega (arith, past, gz) in
          let a = square_le c (g * ez) most in
          by_the_end g q (square x y) (ez * ez + ew * ew) p c ((x + ew) * (x + ew) + apart y ez * apart y ez)
          (from_bounds g q x y (ez * ez + ew * ew) p c slim ray.small ray.great (omega (arith, m)) (omega (arith, a)))
          (omega (arith, h, ep)))
      | inl afterwards ↦ (
          let near : y * y ≤ x * u = elim (cases_lt (x * u) (y * y)) [
            | inr fine ↦ fine
            | inl more ↦ (
                let a = mul-le-mul_left y past in
                let b = mul-le-mul_left u (let k : y * ez + 1 ≤ x * ew = omega (arith, afterwards) in k) in
                let c = mul-le-mul_left ew (let k : x * u + 1 ≤ y * y = omega (arith, more) in k) in
                let none : ew ≡ 0 = omega (arith, a, b, c) in
                let z : y * ez + 1 ≤ x * 0 = rw none at (let k : y * ez + 1 ≤ x * ew = omega (arith, afterwards) in k) in
                absurd (omega (arith, z)))
          ] in
          let xu : x * (u + x) ≡ x * g = ap (λ t. x * t) eu in
          let xg = mul-le-mul_left g (let k : x ≤ g = omega (arith, roll) in k) in
          let some = mul-le-mul_left g slim.step in
          absurd (omega (arith, near, xu, xg, slim.outside roll, some, slim.step)))
    ]
