-- The braking distance: a sum with a closed form.
use Rattle.std.proofs.Common.{◌≡◌, ℕ, zero, suc, ◌+◌, ◌-◌, ◌*◌, ◌/◌, ◌≤◌, ◌<◌, inl, inr, refl, arith}
use Rattle.std.proofs.Math.Nat.{div-le_self, div-mul-le_self, lt-div-mul-add, mul-le-mul_left, le_of_mul-le-mul_left}
use Rattle.std.proofs.lemmas.Bool.{cases_lt}
use Rattle.std.proofs.lemmas.Nat.{mul-le}
use Rattle.ngc_braking.specs.Braking.{braking}
use Rattle.ngc_braking.proofs.Ticks.{braking_none, braking_step}

pub braking_least : (v a : ℕ) → 1 ≤ a → v ≤ braking v a
braking_least zero a some = omega arith
braking_least (suc v) a some = omega (arith, braking_step (suc v) a some)

faster_by : (n v w a : ℕ) → v ≤ n → 1 ≤ a → v ≤ w → braking v a ≤ braking w a
faster_by zero v w a within some less = let none : v ≡ 0 = omega arith in rw none (rw (braking_none a) (omega arith))
faster_by (suc n) v w a within some less = elim (cases_lt 0 v) [
  | inl moves ↦ (
      let step = braking_step v a some in
      let steps = braking_step w a some in
      let later = faster_by n (v - a) (w - a) a (omega arith) some (omega arith) in
      omega arith)
  | inr still ↦ (let none : v ≡ 0 = omega arith in rw none (rw (braking_none a) (omega arith)))
]

-- the braking distance of a faster rate is not shorter
pub braking_faster : (v w a : ℕ) → 1 ≤ a → v ≤ w → braking v a ≤ braking w a
braking_faster v w a some less = faster_by v v w a (omega arith) some less

-- a rate of at most the change is gone after one tick
pub braking_low : (v a : ℕ) → v ≤ a → 1 ≤ a → braking v a ≡ v
braking_low zero a h some = braking_none a
braking_low (suc v) a h some =
    let none : suc v - a ≡ 0 = omega arith in
    let last : braking (suc v - a) a ≡ 0 = rw none (braking_none a) in
    omega (arith, braking_step (suc v) a some)

-- the numbers below k
pub triangle : (k : ℕ) → suc k * k / 2 ≡ k + k * (k - 1) / 2
triangle zero = refl
triangle (suc j) =
    let twice : suc (suc j) * suc j ≡ 2 * suc j + suc j * j = omega arith in
    let less : suc j - 1 ≡ j = omega arith in
    rw (twice, less) (omega arith)

one_tick_more : (j w a s t : ℕ) → s + a * t ≡ suc j * w → w + a + s + a * (suc j + t) ≡ suc (suc j) * (w + a)
one_tick_more j w a s t h = omega (arith, h)

-- in k ticks, the last of which is the first one to end at 0
pub closed_form : (k v a : ℕ) → 1 ≤ a → v ≤ k * a → k * a < v + a → braking v a + a * (k * (k - 1) / 2) ≡ k * v
closed_form zero v a some high low =
    let none : v ≡ 0 = omega arith in
    rw none (rw (braking_none a) (omega arith))
closed_form (suc zero) v a some high low =
    let fits : v ≤ a = omega arith in
    let one = braking_low v a fits some in
    omega (arith, one)
closed_form (suc (suc j)) v a some high low =
    let more : a ≤ suc j * a = omega arith in
    let above : a < v = omega arith in
    let before = closed_form (suc j) (v - a) a some (omega arith) (omega arith) in
    let step = braking_step v a some in
    let whole : v ≡ v - a + a = omega arith in
    let ticks : suc (suc j) - 1 ≡ suc j = omega arith in
    let both = one_tick_more j (v - a) a (braking (v - a) a) (suc j * (suc j - 1) / 2) before in
    rw (step, ticks, triangle (suc j)) (rw (← whole) at both)

-- the number of ticks that it takes
pub brakes_in : (v a : ℕ) → 1 ≤ a → braking v a + a * ((v + a - 1) / a * ((v + a - 1) / a - 1) / 2) ≡ (v + a - 1) / a * v
brakes_in v a some =
    let more = lt-div-mul-add {a = v + a - 1} {b = a} some in
    let less = div-mul-le_self (v + a - 1) a in
    closed_form ((v + a - 1) / a) v a some (omega arith) (omega arith)

pub few_ticks : (v a : ℕ) → v ≤ 1000000 → a ≤ 1000000 → (v + a - 1) / a * v ≤ 2000000 * 1000000
few_ticks v a slow short =
    let ticks = div-le_self (v + a - 1) a in
    mul-le ((v + a - 1) / a) v 2000000 1000000 (omega arith) slow

-- ---- near a square: 8 a times it is at most that of 2 v + a, and less by at most that of a

square_further : (x e : ℕ) → 2 * (x * (x + e)) ≤ x * x + (x + e) * (x + e)
square_further x e = omega arith

twice_product : (x y : ℕ) → x ≤ y → 2 * (x * y) ≤ x * x + y * y
twice_product x y less =
    let whole : y ≡ x + (y - x) = omega arith in
    rw (← whole) at (square_further x (y - x))

low_most : (v d : ℕ) → 2 * (v * d) ≤ v * v + d * d → 8 * ((v + d) * v) ≤ (2 * v + (v + d)) * (2 * v + (v + d))
low_most v d h = omega (arith, h)

low_square : (v a : ℕ) → v ≤ a → 8 * (a * v) ≤ (2 * v + a) * (2 * v + a)
low_square v a low =
    let whole : a ≡ v + (a - v) = omega arith in
    elim (cases_lt (a - v) v) [
      | inl near ↦ (rw (← whole) at (low_most v (a - v) (let h = twice_product (a - v) v (omega arith) in omega (arith, h))))
      | inr far ↦ (rw (← whole) at (low_most v (a - v) (twice_product v (a - v) far)))
    ]

most_further : (w a s : ℕ) → 8 * (a * s) ≤ (2 * w + a) * (2 * w + a) → 8 * (a * (w + a + s)) ≤ (2 * (w + a) + a) * (2 * (w + a) + a)
most_further w a s h = omega (arith, h)

least_further : (w a s : ℕ) → 4 * (w * (w + a)) ≤ 8 * (a * s) → 4 * ((w + a) * (w + a + a)) ≤ 8 * (a * (w + a + s))
least_further w a s h = omega (arith, h)

most_by : (n v a : ℕ) → v ≤ n → 1 ≤ a → 8 * (a * braking v a) ≤ (2 * v + a) * (2 * v + a)
most_by zero v a within some =
    let none : v ≡ 0 = omega arith in
    rw none (rw (braking_none a) (omega arith))
most_by (suc n) v a within some = elim (cases_lt a v) [
  | inl above ↦ (
      let step = braking_step v a some in
      let whole : v ≡ v - a + a = omega arith in
      let more = most_further (v - a) a (braking (v - a) a) (most_by n (v - a) a (omega arith) some) in
      rw step (rw (← whole) at more))
  | inr low ↦ (rw (braking_low v a low some) (low_square v a low))
]

least_by : (n v a : ℕ) → v ≤ n → 1 ≤ a → 4 * (v * (v + a)) ≤ 8 * (a * braking v a)
least_by zero v a within some =
    let none : v ≡ 0 = omega arith in
    rw none (omega arith)
least_by (suc n) v a within some = elim (cases_lt a v) [
  | inl above ↦ (
      let step = braking_step v a some in
      let whole : v ≡ v - a + a = omega arith in
      let more = least_further (v - a) a (braking (v - a) a) (least_by n (v - a) a (omega arith) some) in
      rw step (rw (← whole) at more))
  | inr low ↦ (
      let square = mul-le-mul_left v low in
      rw (braking_low v a low some) (omega (arith, square)))
]

pub brakes_short : (v a way : ℕ) → 1 ≤ a → (2 * v + a) * (2 * v + a) < 8 * a * way → braking v a < way
brakes_short v a way some short =
    let most = most_by v v a (omega arith) some in
    elim (cases_lt (braking v a) way) [
      | inl less ↦ less
      | inr more ↦ (let far = mul-le-mul_left a more in absurd (omega (arith, most, far, short)))
    ]

pub brakes_long : (v a way : ℕ) → 1 ≤ a → 8 * a * way ≤ 4 * v * (v + a) → way ≤ braking v a
brakes_long v a way some long =
    let least = least_by v v a (omega arith) some in
    le_of_mul-le-mul_left {k = a} (omega (arith, least, long)) (omega arith)
