-- The rule for braking: for more legs, after a tick, and where the braking distance is short.
use Rattle.std.proofs.Common.{◌≡◌, ℕ, ◌+◌, ◌-◌, ◌*◌, ◌≤◌, ◌<◌, nat_lt, nat_le, min, max, Bool, true, false, cond, ◌&&◌, ◌||◌, List, [], ◌∷◌, ◌++◌, ◌⊎◌, inl, inr}
use Rattle.std.proofs.Common.{refl, ap, sym, ◌∙◌, arith}
use Rattle.std.proofs.Math.Nat.{mul-le-mul_left, mul-le-mul_right}
use Rattle.std.proofs.lemmas.Bool.{cases_lt, cases_Bool, lt-ltb, ltb-true, le-leb, leb-true, and_parts, and_from, or_cases}
use Rattle.std.proofs.lemmas.Bool.Decides.{nat_tests}
use Rattle.std.proofs.lemmas.Nat.{mul-le}
use Rattle.ngc_fixed_length.specs.Limits.{MILLION}
use Rattle.ngc_braking.specs.declared.leg.Leg.{Leg}
use Rattle.ngc_braking.specs.Leg.{IsLeg, passes}
use Rattle.ngc_braking.specs.Laws.{PassesOn}
use Rattle.ngc_braking.specs.Work.{work, leg_work, slack, slows, is_enough, can_brake, beyond, work_ahead}
use Rattle.ngc_braking.proofs.WorkLaws.{split_at, work_step, work_least, work_rises, costs_deduction, needs_too_much}

-- ---- tests

pub or_first : (x y : Bool) → x ≡ true → (x || y) ≡ true
or_first true y h = refl
or_first false y h = cc

pub or_second : (x y : Bool) → y ≡ true → (x || y) ≡ true
or_second true y h = refl
or_second false y h = h

-- ---- one joint

slows_at : (w a d limit : ℕ) → slows w a d limit ≡ true → (w ≤ limit) ⊎ (work w a < a * d + slack limit a)
slows_at w a d limit h = elim (or_cases (nat_le w limit) (nat_lt (work w a) (a * d + slack limit a)) h) [
  | inl low ↦ (inl (leb-true w limit low))
  | inr short ↦ (inr (ltb-true (work w a) (a * d + slack limit a) short))
]

pub slow_passes : (w a d limit : ℕ) → w ≤ limit → slows w a d limit ≡ true
slow_passes w a d limit low = or_first _ _ (le-leb w limit low)

pub short_passes : (w a d limit : ℕ) → work w a < a * d + slack limit a → slows w a d limit ≡ true
short_passes w a d limit short = or_second (nat_le w limit) _ (lt-ltb (work w a) (a * d + slack limit a) short)

-- a rate whose tick reaches the joint is at most its limit
slows_here : (w a d limit : ℕ) → 1 ≤ a → d ≤ w → slows w a d limit ≡ true → w ≤ limit
slows_here w a d limit some there h = elim (slows_at w a d limit h) [
  | inl low ↦ low
  | inr short ↦ (elim (cases_lt limit w) [
    | inl above ↦ (let much = needs_too_much w a d limit some above there in absurd (omega (arith, much, short)))
    | inr low ↦ low
  ])
]

-- a tick later, it still slows down in time
slows_later : (w a d limit : ℕ) → 1 ≤ a → w ≤ d → slows w a d limit ≡ true → slows (w - a) a (d - w) limit ≡ true
slows_later w a d limit some before h = elim (slows_at w a d limit h) [
  | inl low ↦ (slow_passes (w - a) a (d - w) limit (omega arith))
  | inr short ↦ (
      let step = work_step w a some in
      let product = split_at a d w before in
      short_passes (w - a) a (d - w) limit (omega (arith, short, step, product)))
]

-- ---- one leg

pub enough_on : (n s a e : ℕ) (l : Leg) (ls : List Leg) → l.joined ≡ true →
    is_enough n s a e (l ∷ ls) ≡ (nat_lt n (s + slack (passes e l) a) && is_enough n (s + leg_work a e l) l.change l.exit ls)
enough_on n s a e l ls on =
    ap (λ b. cond b (nat_lt n (s + slack (passes e l) a) && is_enough n (s + leg_work a e l) l.change l.exit ls) (nat_lt n s)) on

pub enough_up_to : (n s a e : ℕ) (l : Leg) (ls : List Leg) → l.joined ≡ false → is_enough n s a e (l ∷ ls) ≡ nat_lt n s
enough_up_to n s a e l ls off =
    ap (λ b. cond b (nat_lt n (s + slack (passes e l) a) && is_enough n (s + leg_work a e l) l.change l.exit ls) (nat_lt n s)) off

abbrev pub after_head : ℕ → ℕ → Leg → Leg → List Leg → Bool
after_head w rest h l ls = is_enough (work w h.change) (h.change * rest + leg_work h.change h.exit l) l.change l.exit ls

pub brakes_on : (w rest : ℕ) (h l : Leg) (ls : List Leg) → l.joined ≡ true →
    can_brake w rest h (l ∷ ls) ≡ (slows w h.change rest (passes h.exit l) && after_head w rest h l ls)
brakes_on w rest h l ls on =
    ap (λ b. cond b (slows w h.change rest (passes h.exit l) && after_head w rest h l ls) (nat_lt (work w h.change) (h.change * rest))) on

pub brakes_up_to : (w rest : ℕ) (h l : Leg) (ls : List Leg) → l.joined ≡ false →
    can_brake w rest h (l ∷ ls) ≡ nat_lt (work w h.change) (h.change * rest)
brakes_up_to w rest h l ls off =
    ap (λ b. cond b (slows w h.change rest (passes h.exit l) && after_head w rest h l ls) (nat_lt (work w h.change) (h.change * rest))) off

-- ---- what is enough

less_there : (n m s t x : ℕ) → m + s ≤ t + n → n < s + x → m < t + x
less_there n m s t x less short = omega (arith, less, short)

more_both : (m s t n x : ℕ) → m + s ≤ t + n → m + (s + x) ≤ t + x + n
more_both m s t n x less = omega (arith, less)

-- for less needed, and more work ahead
enough_for_less : (n m s t a e : ℕ) (ls : List Leg) → m + s ≤ t + n → is_enough n s a e ls ≡ true → is_enough m t a e ls ≡ true
enough_for_less n m s t a e [] less h = let short = ltb-true n s h in lt-ltb m t (omega arith)
enough_for_less n m s t a e (l ∷ ls) less h = elim (cases_Bool l.joined) [
  | inl on ↦ (
      let both = and_parts (nat_lt n (s + slack (passes e l) a)) (is_enough n (s + leg_work a e l) l.change l.exit ls) (sym (enough_on n s a e l ls on) ∙ h) in
      let short = ltb-true n (s + slack (passes e l) a) both.0 in
      let here = lt-ltb m (t + slack (passes e l) a) (less_there n m s t (slack (passes e l) a) less short) in
      let afterwards = enough_for_less n m (s + leg_work a e l) (t + leg_work a e l) l.change l.exit ls (more_both m s t n (leg_work a e l) less) both.1 in
      enough_on m t a e l ls on ∙ and_from _ _ here afterwards)
  | inr off ↦ (
      let short = ltb-true n s (sym (enough_up_to n s a e l ls off) ∙ h) in
      enough_up_to m t a e l ls off ∙ lt-ltb m t (omega (arith, short, less)))
]

farther : (n s x : ℕ) → n < s → n < s + x
farther n s x short = omega (arith, short)

-- up to the leg's end
short_is_enough : (n s a e : ℕ) (ls : List Leg) → n < s → is_enough n s a e ls ≡ true
short_is_enough n s a e [] short = lt-ltb n s short
short_is_enough n s a e (l ∷ ls) short = elim (cases_Bool l.joined) [
  | inl on ↦ (
      let here = lt-ltb n (s + slack (passes e l) a) (farther n s (slack (passes e l) a) short) in
      let afterwards = short_is_enough n (s + leg_work a e l) l.change l.exit ls (farther n s (leg_work a e l) short) in
      enough_on n s a e l ls on ∙ and_from _ _ here afterwards)
  | inr off ↦ (enough_up_to n s a e l ls off ∙ lt-ltb n s short)
]

-- from the head on
enough_brakes : (w rest : ℕ) (h : Leg) (ls : List Leg) → is_enough (work w h.change) (h.change * rest) h.change h.exit ls ≡ true →
    can_brake w rest h ls ≡ true
enough_brakes w rest h [] enough = enough
enough_brakes w rest h (l ∷ ls) enough = elim (cases_Bool l.joined) [
  | inl on ↦ (
      let both = and_parts (nat_lt (work w h.change) (h.change * rest + slack (passes h.exit l) h.change)) (after_head w rest h l ls)
      (sym (enough_on (work w h.change) (h.change * rest) h.change h.exit l ls on) ∙ enough) in
      let short = ltb-true (work w h.change) (h.change * rest + slack (passes h.exit l) h.change) both.0 in
      brakes_on w rest h l ls on ∙ and_from _ _ (short_passes w h.change rest (passes h.exit l) short) both.1)
  | inr off ↦ (brakes_up_to w rest h l ls off ∙ (sym (enough_up_to (work w h.change) (h.change * rest) h.change h.exit l ls off) ∙ enough))
]

pub head_is_enough : (w rest : ℕ) (h : Leg) (ls : List Leg) → work w h.change < h.change * rest → can_brake w rest h ls ≡ true
head_is_enough w rest h ls short =
    enough_brakes w rest h ls (short_is_enough (work w h.change) (h.change * rest) h.change h.exit ls short)

-- ---- one more leg takes nothing away

enough_loaded : (n s a e : ℕ) (ls xs : List Leg) → is_enough n s a e ls ≡ true → is_enough n s a e (ls ++ xs) ≡ true
enough_loaded n s a e [] xs h = short_is_enough n s a e xs (ltb-true n s h)
enough_loaded n s a e (l ∷ ls) xs h = elim (cases_Bool l.joined) [
  | inl on ↦ (
      let both = and_parts (nat_lt n (s + slack (passes e l) a)) (is_enough n (s + leg_work a e l) l.change l.exit ls) (sym (enough_on n s a e l ls on) ∙ h) in
      let afterwards = enough_loaded n (s + leg_work a e l) l.change l.exit ls xs both.1 in
      enough_on n s a e l (ls ++ xs) on ∙ and_from _ _ both.0 afterwards)
  | inr off ↦ (enough_up_to n s a e l (ls ++ xs) off ∙ (sym (enough_up_to n s a e l ls off) ∙ h))
]

pub brakes_loaded : (w rest : ℕ) (h : Leg) (ls xs : List Leg) → can_brake w rest h ls ≡ true → can_brake w rest h (ls ++ xs) ≡ true
brakes_loaded w rest h [] xs brakes =
    head_is_enough w rest h xs (ltb-true (work w h.change) (h.change * rest) brakes)
brakes_loaded w rest h (l ∷ ls) xs brakes = elim (cases_Bool l.joined) [
  | inl on ↦ (
      let both = and_parts (slows w h.change rest (passes h.exit l)) (after_head w rest h l ls) (sym (brakes_on w rest h l ls on) ∙ brakes) in
      let afterwards = enough_loaded (work w h.change) (h.change * rest + leg_work h.change h.exit l) l.change l.exit ls xs both.1 in
      brakes_on w rest h l (ls ++ xs) on ∙ and_from _ _ both.0 afterwards)
  | inr off ↦ (brakes_up_to w rest h l (ls ++ xs) off ∙ (sym (brakes_up_to w rest h l ls off) ∙ brakes))
]

-- ---- a tick that stays on the head

head_short : (v rest a : ℕ) → 1 ≤ a → v ≤ rest → work v a < a * rest → work (v - a) a < a * (rest - v)
head_short v rest a some less short =
    let step = work_step v a some in
    let product = split_at a rest v less in
    omega (arith, short, step, product)

-- with x more work ahead
later_sum : (v rest a x : ℕ) → 1 ≤ a → v ≤ rest → work (v - a) a + (a * rest + x) ≤ (a * (rest - v) + x) + work v a
later_sum v rest a x some less =
    let step = work_step v a some in
    let product = split_at a rest v less in
    omega (arith, step, product)

pub brakes_later : (v rest : ℕ) (h : Leg) (ls : List Leg) → 1 ≤ h.change → v ≤ rest → can_brake v rest h ls ≡ true →
    can_brake (v - h.change) (rest - v) h ls ≡ true
brakes_later v rest h [] some less brakes =
    let short = ltb-true (work v h.change) (h.change * rest) brakes in
    lt-ltb (work (v - h.change) h.change) (h.change * (rest - v)) (head_short v rest h.change some less short)
brakes_later v rest h (l ∷ ls) some less brakes = elim (cases_Bool l.joined) [
  | inl on ↦ (
      let both = and_parts (slows v h.change rest (passes h.exit l)) (after_head v rest h l ls) (sym (brakes_on v rest h l ls on) ∙ brakes) in
      let here = slows_later v h.change rest (passes h.exit l) some less both.0 in
      let sum = later_sum v rest h.change (leg_work h.change h.exit l) some less in
      let afterwards = enough_for_less (work v h.change) (work (v - h.change) h.change) (h.change * rest + leg_work h.change h.exit l)
      (h.change * (rest - v) + leg_work h.change h.exit l) l.change l.exit ls sum both.1 in
      brakes_on (v - h.change) (rest - v) h l ls on ∙ and_from _ _ here afterwards)
  | inr off ↦ (
      let short = ltb-true (work v h.change) (h.change * rest) (sym (brakes_up_to v rest h l ls off) ∙ brakes) in
      brakes_up_to (v - h.change) (rest - v) h l ls off
      ∙ lt-ltb (work (v - h.change) h.change) (h.change * (rest - v)) (head_short v rest h.change some less short))
]

-- ---- a tick that reaches the head's end

too_short : (v rest a : ℕ) → 1 ≤ a → rest ≤ v → a * rest ≤ work v a
too_short v rest a some there =
    let least = work_least v a some in
    let product = mul-le-mul_left a there in
    omega (arith, least, product)

pub stops_before : (v rest : ℕ) (h : Leg) → 1 ≤ h.change → can_brake v rest h [] ≡ true → v < rest
stops_before v rest h some brakes =
    let short = ltb-true (work v h.change) (h.change * rest) brakes in
    elim (cases_lt v rest) [
      | inl less ↦ less
      | inr there ↦ (let much = too_short v rest h.change some there in absurd (omega (arith, short, much)))
    ]

-- the work on the next leg, after v from the head: a and b are the changes, m is the next leg's length
abbrev next_work : ℕ → ℕ → ℕ → ℕ → ℕ
next_work a b m limit = b * m - (b - a) * limit

-- to a lesser change, or the same one
passes_down : (a b v rest m limit : ℕ) → 1 ≤ b → b ≤ a → rest ≤ v → v - rest ≤ m →
    work (v - max a b) b + (a * rest + next_work a b m limit) ≤ b * (m - (v - rest)) + work v a
passes_down a b v rest m limit some less there short =
    let slower : v - max a b ≡ v - a = omega arith in
    let now = ap (λ z. work z b) slower in
    let weaker = work_rises (v - a) b a some less in
    let step = work_step v a (omega arith) in
    let none : b - a ≡ 0 = omega arith in
    let product = ap (λ z. z * limit) none in
    let left = split_at b m (v - rest) short in
    let travelled = split_at a v rest there in
    let over = mul-le-mul_right (v - rest) less in
    omega (arith, now, weaker, step, product, left, travelled, over)

-- to a greater change
passes_up : (a b v rest m limit : ℕ) → 1 ≤ a → a ≤ b → rest ≤ v → v - rest ≤ m → v ≤ limit → limit ≤ m →
    work (v - max a b) b + (a * rest + next_work a b m limit) ≤ b * (m - (v - rest)) + work v a
passes_up a b v rest m limit some less there short low few =
    let slower : v - max a b ≡ v - b = omega arith in
    let now = ap (λ z. work z b) slower in
    let costs = costs_deduction v a b limit some less low in
    let step = work_step v b (omega arith) in
    let whole = mul-le (b - a) limit b m (omega arith) few in
    let left = split_at b m (v - rest) short in
    let travelled = split_at b v rest there in
    let before = mul-le-mul_right rest less in
    omega (arith, now, costs, step, whole, left, travelled, before)

passes_over : (a b v rest m limit : ℕ) → 1 ≤ a → 1 ≤ b → rest ≤ v → v - rest ≤ m → v ≤ limit → limit ≤ m →
    work (v - max a b) b + (a * rest + next_work a b m limit) ≤ b * (m - (v - rest)) + work v a
passes_over a b v rest m limit some also there short low few = elim (cases_lt a b) [
  | inl up ↦ (passes_up a b v rest m limit some (omega arith) there short low few)
  | inr down ↦ (passes_down a b v rest m limit also down there short)
]

pub passes_on : (v rest : ℕ) (h l : Leg) (ls : List Leg) → 1 ≤ h.change → IsLeg l → v ≤ MILLION → rest ≤ v → can_brake v rest h (l ∷ ls) ≡ true →
    PassesOn v rest h l ls
passes_on v rest h l ls some leg small there brakes = elim (cases_Bool l.joined) [
  | inl on ↦ (
      let both = and_parts (slows v h.change rest (passes h.exit l)) (after_head v rest h l ls) (sym (brakes_on v rest h l ls on) ∙ brakes) in
      let low = slows_here v h.change rest (passes h.exit l) some there both.0 in
      let over = passes_over h.change l.change v rest l.millionths (passes h.exit l) some leg.change there (omega (arith, leg.some, small)) low
      (omega (arith, leg.some, leg.bound_greatest)) in
      let enough = enough_for_less (work v h.change) (work (v - max h.change l.change) l.change) (h.change * rest + leg_work h.change h.exit l)
      (l.change * (l.millionths - (v - rest))) l.change l.exit ls over both.1 in
      record {
        joined = on;
        within = low;
        brakes = enough_brakes (v - max h.change l.change) (l.millionths - (v - rest)) l ls enough;
      })
  | inr off ↦ (
      let short = ltb-true (work v h.change) (h.change * rest) (sym (brakes_up_to v rest h l ls off) ∙ brakes) in
      let much = too_short v rest h.change some there in
      absurd (omega (arith, short, much)))
]

-- ---- of the legs ahead only the least matters

pub less_both : (n d x y : ℕ) → (nat_lt n (d + x) && nat_lt n (d + y)) ≡ nat_lt n (d + min x y)
less_both n d x y = elim (cases_lt n (d + min x y)) [
  | inl less ↦ (and_from _ _ (lt-ltb n (d + x) (omega arith)) (lt-ltb n (d + y) (omega arith)) ∙ sym (lt-ltb n (d + min x y) less))
  | inr more ↦ (grind (arith, nat_tests))
]

regrouped : (x y z : ℕ) → x + y + z ≡ x + (y + z)
regrouped x y z = omega arith

pub least_matters : (n s a e : ℕ) (ls : List Leg) → is_enough n s a e ls ≡ nat_lt n (s + beyond a e ls)
least_matters n s a e [] = let same : s + 0 ≡ s = omega arith in rw same refl
least_matters n s a e (l ∷ ls) = elim (cases_Bool l.joined) [
  | inl on ↦ (
      let afterwards = least_matters n (s + leg_work a e l) l.change l.exit ls in
      let sum = regrouped s (leg_work a e l) (beyond l.change l.exit ls) in
      let both = less_both n s (slack (passes e l) a) (leg_work a e l + beyond l.change l.exit ls) in
      let to = ap (λ b. cond b (min (slack (passes e l) a) (leg_work a e l + beyond l.change l.exit ls)) 0) on in
      enough_on n s a e l ls on ∙ ap (λ b. nat_lt n (s + slack (passes e l) a) && b) (afterwards ∙ ap (λ z. nat_lt n z) sum)
      ∙ both ∙ sym (ap (λ z. nat_lt n (s + z)) to))
  | inr off ↦ (
      let to = ap (λ b. cond b (min (slack (passes e l) a) (leg_work a e l + beyond l.change l.exit ls)) 0) off in
      let same : s + 0 ≡ s = omega arith in
      enough_up_to n s a e l ls off ∙ sym (ap (λ z. nat_lt n (s + z)) to ∙ ap (λ z. nat_lt n z) same))
]

-- ---- the work to brake is within the known path

within_sum : (n s x y z : ℕ) → z ≡ x + y → n < s + x + y → n < s + z
within_sum n s x y z is short = omega (arith, is, short)

enough_ahead : (n s a e : ℕ) (ls : List Leg) → is_enough n s a e ls ≡ true → n < s + work_ahead a e ls
enough_ahead n s a e [] h = let short = ltb-true n s h in omega (arith, short)
enough_ahead n s a e (l ∷ ls) h = elim (cases_Bool l.joined) [
  | inl on ↦ (
      let both = and_parts (nat_lt n (s + slack (passes e l) a)) (is_enough n (s + leg_work a e l) l.change l.exit ls) (sym (enough_on n s a e l ls on) ∙ h) in
      let afterwards = enough_ahead n (s + leg_work a e l) l.change l.exit ls both.1 in
      let known = ap (λ b. cond b (leg_work a e l + work_ahead l.change l.exit ls) 0) on in
      within_sum n s (leg_work a e l) (work_ahead l.change l.exit ls) (work_ahead a e (l ∷ ls)) known afterwards)
  | inr off ↦ (
      let short = ltb-true n s (sym (enough_up_to n s a e l ls off) ∙ h) in
      farther n s (work_ahead a e (l ∷ ls)) short)
]

pub ends_on_path : (w rest : ℕ) (h : Leg) (ls : List Leg) → can_brake w rest h ls ≡ true →
    work w h.change < h.change * rest + work_ahead h.change h.exit ls
ends_on_path w rest h [] brakes = farther (work w h.change) (h.change * rest) 0 (ltb-true (work w h.change) (h.change * rest) brakes)
ends_on_path w rest h (l ∷ ls) brakes = elim (cases_Bool l.joined) [
  | inl on ↦ (
      let both = and_parts (slows w h.change rest (passes h.exit l)) (after_head w rest h l ls) (sym (brakes_on w rest h l ls on) ∙ brakes) in
      let afterwards = enough_ahead (work w h.change) (h.change * rest + leg_work h.change h.exit l) l.change l.exit ls both.1 in
      let known = ap (λ b. cond b (leg_work h.change h.exit l + work_ahead l.change l.exit ls) 0) on in
      within_sum (work w h.change) (h.change * rest) (leg_work h.change h.exit l) (work_ahead l.change l.exit ls) (work_ahead h.change h.exit (l ∷ ls)) known
      afterwards)
  | inr off ↦ (
      let short = ltb-true (work w h.change) (h.change * rest) (sym (brakes_up_to w rest h l ls off) ∙ brakes) in
      farther (work w h.change) (h.change * rest) (work_ahead h.change h.exit (l ∷ ls)) short)
]
