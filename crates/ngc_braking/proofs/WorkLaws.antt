-- Work: what a tick uses, and what another change costs.
use Rattle.std.proofs.Common.{◌≡◌, ℕ, zero, suc, ◌+◌, ◌-◌, ◌*◌, ◌≤◌, ◌<◌, nat_lt, inl, inr, ap, sym, ◌∙◌, arith}
use Rattle.std.proofs.Math.Nat.{mul-le-mul_left, mul-le-mul_right}
use Rattle.std.proofs.lemmas.Bool.{cases_lt, lt-ltb, le-ltb}
use Rattle.std.proofs.lemmas.Nat.{mul-le}
use Rattle.ngc_braking.specs.Braking.{braking}
use Rattle.ngc_braking.specs.Work.{work, deduction, slack}
use Rattle.ngc_braking.proofs.Ticks.{braking_none, braking_step}

-- ---- products

spread : (a x y : ℕ) → a * (x + y) ≡ a * x + a * y
spread a x y = omega arith

-- a product, split at a lesser number
pub split_at : (a x y : ℕ) → y ≤ x → a * x ≡ a * (x - y) + a * y
split_at a x y less =
    let whole : x ≡ x - y + y = omega arith in
    ap (λ z. a * z) whole ∙ spread a (x - y) y

-- a factor on both sides
pub scaled : (a x y : ℕ) → 1 ≤ a → nat_lt (a * x) (a * y) ≡ nat_lt x y
scaled a x y some = elim (cases_lt x y) [
  | inl less ↦ (
      let product = mul-le-mul_left a (let next : x + 1 ≤ y = omega arith in next) in
      lt-ltb (a * x) (a * y) (omega (arith, product, some)) ∙ sym (lt-ltb x y less))
  | inr more ↦ (
      let product = mul-le-mul_left a more in
      le-ltb (a * x) (a * y) product ∙ sym (le-ltb x y more))
]

-- ---- what a tick uses

pub work_step : (w a : ℕ) → 1 ≤ a → work w a ≡ a * w + work (w - a) a
work_step w a some = ap (λ z. a * z) (braking_step w a some) ∙ spread a w (braking (w - a) a)

pub work_none : (w a : ℕ) → w ≡ 0 → work w a ≡ 0
work_none w a still =
    let none = ap (λ z. work z a) still in
    let product = ap (λ z. a * z) (braking_none a) in
    omega (arith, none, product)

-- a rate of at most the change is gone after one tick
pub work_low : (w a : ℕ) → w ≤ a → 1 ≤ a → work w a ≡ a * w
work_low w a low some =
    let step = work_step w a some in
    let last = work_none (w - a) a (omega arith) in
    omega (arith, step, last)

pub work_least : (w a : ℕ) → 1 ≤ a → a * w ≤ work w a
work_least w a some = let step = work_step w a some in omega (arith, step)

-- ---- a faster rate: it needs more, and not much more

-- by d times the rate at least
steeper : (n x d a : ℕ) → x ≤ n → 1 ≤ a → work x a + d * x ≤ work (x + d) a
steeper zero x d a within some =
    let none : x ≡ 0 = omega arith in
    let nothing = work_none x a none in
    let product = ap (λ z. d * z) none in
    omega (arith, nothing, product)
steeper (suc n) x d a within some = elim (cases_lt a x) [
  | inl above ↦ (
      let first = work_step x a some in
      let faster = work_step (x + d) a some in
      let same : x + d - a ≡ x - a + d = omega arith in
      let last = ap (λ z. work z a) same in
      let later = steeper n (x - a) d a (omega arith) some in
      let product = split_at d x a (omega arith) in
      omega (arith, first, faster, last, later, product))
  | inr low ↦ (
      let first = work_low x a low some in
      let faster = work_least (x + d) a some in
      let product = mul-le-mul_left d low in
      omega (arith, first, faster, product))
]

pub work_faster : (v w a : ℕ) → 1 ≤ a → v ≤ w → work v a ≤ work w a
work_faster v w a some less =
    let up = steeper v v (w - v) a (omega arith) some in
    let same : v + (w - v) ≡ w = omega arith in
    let there = ap (λ z. work z a) same in
    omega (arith, up, there)

-- from 0
climbs : (n y a : ℕ) → y ≤ n → 1 ≤ a → work y a ≤ y * (y + a)
climbs zero y a within some = let none = work_none y a (omega arith) in omega (arith, none)
climbs (suc n) y a within some = elim (cases_lt a y) [
  | inl above ↦ (
      let first = work_step y a some in
      let later = climbs n (y - a) a (omega arith) some in
      let same : y - a + a ≡ y = omega arith in
      let product = ap (λ z. (y - a) * z) same in
      let less = mul-le (y - a) y y y (omega arith) (omega arith) in
      omega (arith, first, later, product, less))
  | inr low ↦ (let first = work_low y a low some in omega (arith, first))
]

pub work_most : (w a : ℕ) → 1 ≤ a → work w a ≤ w * (w + a)
work_most w a some = climbs w w a (omega arith) some

-- by d times the sum of the rate and the change at most
low_start : (x d a : ℕ) → x ≤ a → 1 ≤ a → work (x + d) a ≤ work x a + d * (x + d + a)
low_start x d a low some =
    let first = work_low x a low some in
    let faster = work_step (x + d) a some in
    elim (cases_lt a (x + d)) [
      | inl above ↦ (
          let later = climbs (x + d - a) (x + d - a) a (omega arith) some in
          let sum : x + d - a + a ≡ x + d = omega arith in
          let product = ap (λ z. (x + d - a) * z) sum in
          let few : x + d - a ≤ d = omega arith in
          let less = mul-le-mul_right (x + d) few in
          omega (arith, first, faster, later, product, less))
      | inr slow ↦ (
          let last = work_none (x + d - a) a (omega arith) in
          omega (arith, first, faster, last))
    ]

gentler : (n x d a : ℕ) → x ≤ n → 1 ≤ a → work (x + d) a ≤ work x a + d * (x + d + a)
gentler zero x d a within some = low_start x d a (omega arith) some
gentler (suc n) x d a within some = elim (cases_lt a x) [
  | inl above ↦ (
      let first = work_step x a some in
      let faster = work_step (x + d) a some in
      let same : x + d - a ≡ x - a + d = omega arith in
      let last = ap (λ z. work z a) same in
      let later = gentler n (x - a) d a (omega arith) some in
      let sum : x - a + d + a ≡ x + d = omega arith in
      let product = ap (λ z. d * z) sum in
      omega (arith, first, faster, last, later, product))
  | inr low ↦ (low_start x d a low some)
]

-- ---- another change

-- the rate after one tick by the lesser change, compared with that after one by the greater
after_more : (w a b : ℕ) → 1 ≤ a → a ≤ b → work (w - a) a ≤ work (w - b) a + (b - a) * w
after_more w a b some less = elim (cases_lt w b) [
  | inl slow ↦ (elim (cases_lt a w) [
    | inl above ↦ (
        let up = climbs (w - a) (w - a) a (omega arith) some in
        let sum : w - a + a ≡ w = omega arith in
        let product = ap (λ z. (w - a) * z) sum in
        let fewer : w - a ≤ b - a = omega arith in
        let few = mul-le-mul_right w fewer in
        omega (arith, up, product, few))
    | inr low ↦ (let none = work_none (w - a) a (omega arith) in omega (arith, none))
  ])
  | inr fast ↦ (
      let up = gentler (w - b) (w - b) (b - a) a (omega arith) some in
      let there : w - b + (b - a) ≡ w - a = omega arith in
      let reached = ap (λ z. work z a) there in
      let sum : w - b + (b - a) + a ≡ w = omega arith in
      let product = ap (λ z. (b - a) * z) sum in
      omega (arith, up, reached, product))
]

-- and at least by the product with the rate after it
after_less : (w a b : ℕ) → 1 ≤ a → a ≤ b → work (w - b) a + (b - a) * (w - b) ≤ work (w - a) a
after_less w a b some less = elim (cases_lt w b) [
  | inl slow ↦ (
      let still : w - b ≡ 0 = omega arith in
      let none = work_none (w - b) a still in
      let product = ap (λ z. (b - a) * z) still in
      omega (arith, none, product))
  | inr fast ↦ (
      let up = steeper (w - b) (w - b) (b - a) a (omega arith) some in
      let there : w - b + (b - a) ≡ w - a = omega arith in
      let reached = ap (λ z. work z a) there in
      omega (arith, up, reached))
]

-- the product with a greater change
two_changes : (a b w : ℕ) → a ≤ b → b * w ≡ a * w + (b - a) * w
two_changes a b w less =
    let whole : b ≡ a + (b - a) = omega arith in
    let product = ap (λ z. z * w) whole in
    omega (arith, product)

rises : (n w a b : ℕ) → w ≤ n → 1 ≤ a → a ≤ b → work w a ≤ work w b
rises zero w a b within some less = let none = work_none w a (omega arith) in omega (arith, none)
rises (suc n) w a b within some less =
    let first = work_step w a some in
    let other = work_step w b (omega arith) in
    let later = rises n (w - b) a b (omega arith) some less in
    let between = after_more w a b some less in
    let product = two_changes a b w less in
    omega (arith, first, other, later, between, product)

pub work_rises : (w a b : ℕ) → 1 ≤ a → a ≤ b → work w a ≤ work w b
work_rises w a b some less = rises w w a b (omega arith) some less

costs : (n w a b : ℕ) → w ≤ n → 1 ≤ a → a ≤ b → work w b ≤ work w a + (b - a) * w
costs zero w a b within some less = let none = work_none w b (omega arith) in omega (arith, none)
costs (suc n) w a b within some less =
    let first = work_step w a some in
    let other = work_step w b (omega arith) in
    let later = costs n (w - b) a b (omega arith) some less in
    let between = after_less w a b some less in
    let product = two_changes a b w less in
    omega (arith, first, other, later, between, product)

pub costs_deduction : (w a b limit : ℕ) → 1 ≤ a → a ≤ b → w ≤ limit → work w b ≤ work w a + deduction a b limit
costs_deduction w a b limit some less low =
    let up = costs w w a b (omega arith) some less in
    let product = mul-le-mul_left (b - a) low in
    omega (arith, up, product)

-- ---- a rate above a limit that reaches its joint

pub needs_too_much : (w a d limit : ℕ) → 1 ≤ a → limit < w → d ≤ w → a * d + slack limit a ≤ work w a
needs_too_much w a d limit some above there =
    let step = work_step w a some in
    let more = work_faster (limit + 1 - a) (w - a) a some (omega arith) in
    let product = mul-le-mul_left a there in
    omega (arith, step, more, product)
