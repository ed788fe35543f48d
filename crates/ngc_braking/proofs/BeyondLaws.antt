-- What may be needed beyond a leg, in 64 bits and in distances, and the tests of a rate.
use Rattle.std.proofs.Common.{◌≡◌, ℕ, ◌+◌, ◌-◌, ◌*◌, ◌≤◌, ◌<◌, min, nat_lt, true, false, cond, ◌&&◌, List, [], ◌∷◌, inl, inr, refl, sym, subst, ap, ap₂, ◌∙◌, arith, Some, None, slice_get}
use Rattle.std.specs.Int.{div_ceil}
use Rattle.std.proofs.Math.Nat.{mul-le-mul_left}
use Rattle.std.proofs.lemmas.Bool.{cases_Bool, cases_lt, lt-ltb, le-ltb, lt-leb}
use Rattle.std.proofs.lemmas.Grind.{div_ceil_times}
use Rattle.std.proofs.lemmas.Nat.{mul-le}
use Rattle.ngc_braking.specs.declared.leg.Leg.{Leg}
use Rattle.ngc_braking.specs.Braking.{braking}
use Rattle.ngc_braking.specs.Leg.{passes}
use Rattle.ngc_braking.specs.Reach.{ahead}
use Rattle.ngc_braking.specs.Work.{GREATEST, work, deduction, leg_work, slack, slows, can_brake, beyond, next_beyond, work_ahead}
use Rattle.ngc_braking.proofs.WorkLaws.{scaled, split_at, work_step, work_faster, work_most}
use Rattle.ngc_braking.proofs.AheadLaws.{slow_passes, short_passes, after_head, brakes_on, brakes_up_to, head_is_enough, least_matters, less_both}

-- ---- products that are small

pub work_small : (w a : ℕ) → w ≤ 1000000 → 1 ≤ a → a ≤ 1000000 → work w a ≤ 1000000 * 2000000
work_small w a slow some short =
    let most = work_most w a some in
    let all = mul-le w (w + a) 1000000 2000000 slow (omega (arith, slow, short)) in
    omega (arith, most, all)

pub deduction_small : (a b limit : ℕ) → b ≤ 1000000 → limit ≤ 1000000 → (b - a) * limit ≤ 1000000 * 1000000
deduction_small a b limit short low = mul-le (b - a) limit 1000000 1000000 (omega (arith, short)) low

-- and no more than the work of the leg
pub deducted : (a b limit m : ℕ) → limit ≤ 1000000 → 1000000 ≤ m → (b - a) * limit ≤ b * m
deducted a b limit m low long = mul-le (b - a) limit b m (omega arith) (omega (arith, low, long))

-- ---- beyond a leg

pub beyond_on : (a e : ℕ) (l : Leg) (ls : List Leg) → l.joined ≡ true →
    beyond a e (l ∷ ls) ≡ min (slack (passes e l) a) (leg_work a e l + beyond l.change l.exit ls)
beyond_on a e l ls on = ap (λ b. cond b (min (slack (passes e l) a) (leg_work a e l + beyond l.change l.exit ls)) 0) on

pub beyond_none : (a e : ℕ) (l : Leg) (ls : List Leg) → l.joined ≡ false → beyond a e (l ∷ ls) ≡ 0
beyond_none a e l ls off = ap (λ b. cond b (min (slack (passes e l) a) (leg_work a e l + beyond l.change l.exit ls)) 0) off

-- ---- the tests of a rate: what it lacks on the head is y

none_by : (a w rest : ℕ) → 1 ≤ a → rest ≤ braking w a → nat_lt (work w a) (a * rest) ≡ false
none_by a w rest some long = scaled a (braking w a) rest some ∙ le-ltb (braking w a) rest long

pub none_after : (w rest : ℕ) (h : Leg) (ls : List Leg) → 1 ≤ h.change → None ≡ slice_get ls 0 → rest ≤ braking w h.change → can_brake w rest h ls ≡ false
none_after w rest h [] some none long = none_by h.change w rest some long
none_after w rest h (l ∷ ls) some none long = cc

pub apart_after : (w rest : ℕ) (h l : Leg) (ls : List Leg) → 1 ≤ h.change → Some l ≡ slice_get ls 0 → l.joined ≡ false → rest ≤ braking w h.change →
    can_brake w rest h ls ≡ false
apart_after w rest h l [] some first off long = cc
apart_after w rest h l (x ∷ xs) some first off long =
    let same : l ≡ x = cc in
    brakes_up_to w rest h x xs (ap (λ (k : Leg). k.joined) (sym same) ∙ off) ∙ none_by h.change w rest some long

pub lacks : (a w rest : ℕ) → rest ≤ braking w a → a * rest + a * (braking w a - rest) ≡ work w a
lacks a w rest long = let parts = split_at a (braking w a) rest long in omega (arith, parts)

sum_less : (n d y x : ℕ) → d + y ≡ n → nat_lt n (d + x) ≡ nat_lt y x
sum_less n d y x is = elim (cases_lt y x) [
  | inl less ↦ (lt-ltb n (d + x) (omega (arith, is, less)) ∙ sym (lt-ltb y x less))
  | inr more ↦ (le-ltb n (d + x) (omega (arith, is, more)) ∙ sym (le-ltb y x more))
]

-- in 64 bits
less_capped : (y x b : ℕ) → y < GREATEST → nat_lt y (x + b) ≡ nat_lt y (min GREATEST x + min GREATEST b)
less_capped y x b small = elim (cases_lt y (x + b)) [
  | inl less ↦ (lt-ltb y (x + b) less ∙ sym (lt-ltb y (min GREATEST x + min GREATEST b) (omega (arith, less, small))))
  | inr more ↦ (le-ltb y (x + b) more ∙ sym (le-ltb y (min GREATEST x + min GREATEST b) (omega (arith, more))))
]

after_is : (w rest y : ℕ) (h l : Leg) (ls : List Leg) → h.change * rest + y ≡ work w h.change → y < GREATEST →
    after_head w rest h l ls ≡ nat_lt y (min GREATEST (leg_work h.change h.exit l) + min GREATEST (beyond l.change l.exit ls))
after_is w rest y h l ls is small =
    let sum : h.change * rest + leg_work h.change h.exit l + beyond l.change l.exit ls
    ≡ h.change * rest + (leg_work h.change h.exit l + beyond l.change l.exit ls) = omega arith in
    least_matters (work w h.change) (h.change * rest + leg_work h.change h.exit l) l.change l.exit ls
    ∙ ap (λ z. nat_lt (work w h.change) z) sum
    ∙ sum_less (work w h.change) (h.change * rest) y (leg_work h.change h.exit l + beyond l.change l.exit ls) is
    ∙ less_capped y (leg_work h.change h.exit l) (beyond l.change l.exit ls) small

-- it is too fast for the head's own joint
too_fast_by : (w a d y limit : ℕ) → a * d + y ≡ work w a → limit < w → slack limit a ≤ y → slows w a d limit ≡ false
too_fast_by w a d y limit is fast much =
    let first = lt-leb w limit fast in
    let second = le-ltb (work w a) (a * d + slack limit a) (omega (arith, is, much)) in
    cc

pub too_fast_after : (w rest y : ℕ) (h l : Leg) (ls : List Leg) → Some l ≡ slice_get ls 0 → l.joined ≡ true → h.change * rest + y ≡ work w h.change →
    passes h.exit l < w → slack (passes h.exit l) h.change ≤ y → can_brake w rest h ls ≡ false
too_fast_after w rest y h l [] first on is fast much = cc
too_fast_after w rest y h l (x ∷ xs) first on is fast much =
    let same : x ≡ l = cc in
    let joined : x.joined ≡ true = ap (λ (k : Leg). k.joined) same ∙ on in
    let limit : passes h.exit x ≡ passes h.exit l = ap (λ k. passes h.exit k) same in
    let here = too_fast_by w h.change rest y (passes h.exit l) is fast much in
    brakes_on w rest h x xs joined ∙ ap (λ n. slows w h.change rest n && after_head w rest h x xs) limit
    ∙ ap (λ b. b && after_head w rest h x xs) here

-- it isn't, and the work after the head decides
slow_by : (w a d y limit : ℕ) → a * d + y ≡ work w a → (limit < w → y < slack limit a) → slows w a d limit ≡ true
slow_by w a d y limit is little = elim (cases_lt limit w) [
  | inl fast ↦ (let less = little fast in short_passes w a d limit (omega (arith, is, less)))
  | inr slow ↦ (slow_passes w a d limit slow)
]

pub decided_after : (w rest y b : ℕ) (h l : Leg) (ls : List Leg) → Some l ≡ slice_get ls 0 → l.joined ≡ true → h.change * rest + y ≡ work w h.change →
    y < GREATEST → b ≡ next_beyond ls → (passes h.exit l < w → y < slack (passes h.exit l) h.change) →
    can_brake w rest h ls ≡ nat_lt y (min GREATEST (leg_work h.change h.exit l) + b)
decided_after w rest y b h l [] first on is small there little = cc
decided_after w rest y b h l (x ∷ xs) first on is small there little =
    let same : x ≡ l = cc in
    let joined : x.joined ≡ true = ap (λ (k : Leg). k.joined) same ∙ on in
    let limit : passes h.exit x ≡ passes h.exit l = ap (λ k. passes h.exit k) same in
    let here = slow_by w h.change rest y (passes h.exit l) is little in
    brakes_on w rest h x xs joined ∙ ap (λ n. slows w h.change rest n && after_head w rest h x xs) limit
    ∙ ap (λ c. c && after_head w rest h x xs) here ∙ after_is w rest y h x xs is small
    ∙ ap₂ (λ k c. nat_lt y (min GREATEST (leg_work h.change h.exit k) + c)) same (sym there)

pub short_after : (w rest : ℕ) (h : Leg) (ls : List Leg) → 1 ≤ h.change → braking w h.change < rest → can_brake w rest h ls ≡ true
short_after w rest h ls some short =
    head_is_enough w rest h ls (
    let product = mul-le-mul_left h.change (let next : braking w h.change + 1 ≤ rest = omega (arith, short) in next) in
    omega (arith, product, some))

-- ---- a rate that the end of its tick does not take to the joint

far_slows : (w a d limit : ℕ) → 1 ≤ a → w < d → slows w a d limit ≡ nat_lt (work w a) (a * d + slack limit a)
far_slows w a d limit some far = elim (cases_lt (work w a) (a * d + slack limit a)) [
  | inl short ↦ (short_passes w a d limit short ∙ sym (lt-ltb (work w a) (a * d + slack limit a) short))
  | inr long ↦ (elim (cases_lt limit w) [
    | inl above ↦ (
        let first = lt-leb w limit above in
        let second = le-ltb (work w a) (a * d + slack limit a) long in
        cc)
    | inr low ↦ (
        let step = work_step w a some in
        let more = work_faster (w - a) (limit + 1 - a) a some (omega (arith, low)) in
        let next : w + 1 ≤ d = omega (arith, far) in
        let product = mul-le-mul_left a next in
        absurd (omega (arith, long, step, more, product, some)))
  ])
]

-- only what may be needed beyond its leg decides
pub far_brakes : (w rest : ℕ) (h : Leg) (ls : List Leg) → 1 ≤ h.change → w < rest →
    can_brake w rest h ls ≡ nat_lt (work w h.change) (h.change * rest + beyond h.change h.exit ls)
far_brakes w rest h [] some far = let same : h.change * rest + 0 ≡ h.change * rest = omega arith in sym (ap (λ z. nat_lt (work w h.change) z) same)
far_brakes w rest h (l ∷ ls) some far = elim (cases_Bool l.joined) [
  | inl on ↦ (
      let a = h.change in
      let here = far_slows w h.change rest (passes h.exit l) some far in
      let afterwards = least_matters (work w h.change) (h.change * rest + leg_work h.change h.exit l) l.change l.exit ls in
      let sum : h.change * rest + leg_work h.change h.exit l + beyond l.change l.exit ls
      ≡ h.change * rest + (leg_work h.change h.exit l + beyond l.change l.exit ls) = omega arith in
      let both = less_both (work w h.change) (h.change * rest) (slack (passes h.exit l) h.change) (leg_work h.change h.exit l + beyond l.change l.exit ls) in
      let to = beyond_on h.change h.exit l ls on in
      brakes_on w rest h l ls on ∙ ap₂ (λ x y. x && y) here (afterwards ∙ ap (λ z. nat_lt (work w h.change) z) sum)
      ∙ both ∙ sym (ap (λ z. nat_lt (work w h.change) (h.change * rest + z)) to))
  | inr off ↦ (
      let none = beyond_none h.change h.exit l ls off in
      let same : h.change * rest + 0 ≡ h.change * rest = omega arith in
      brakes_up_to w rest h l ls off ∙ sym (ap (λ z. nat_lt (work w h.change) (h.change * rest + z)) none ∙ ap (λ z. nat_lt (work w h.change) z) same))
]

-- in distances: too long a braking distance
pub too_far : (w rest : ℕ) (h : Leg) (ls : List Leg) → 1 ≤ h.change → w < rest →
    rest + div_ceil (beyond h.change h.exit ls) h.change ≤ braking w h.change → can_brake w rest h ls ≡ false
too_far w rest h ls some far long =
    let y = beyond h.change h.exit ls in
    let up = (div_ceil_times (beyond h.change h.exit ls) h.change (omega (arith, some))).0 in
    let product = mul-le-mul_left h.change long in
    far_brakes w rest h ls some far ∙ le-ltb (work w h.change) (h.change * rest + beyond h.change h.exit ls) (omega (arith, up, product))

-- in 64 bits
pub ceil_capped : (y a d needed : ℕ) → 1 ≤ a → a ≤ 1000000 → d ≡ div_ceil (min GREATEST y) a → d ≤ needed → needed ≤ 10000000000000 → d ≡ div_ceil y a
ceil_capped y a d needed some short is less small = elim (cases_lt GREATEST y) [
  | inl above ↦ (
      let top : min GREATEST y ≡ GREATEST = omega (arith, above) in
      let up : min GREATEST y ≤ d * a = subst (λ z. min GREATEST y ≤ z * a) (sym is) (div_ceil_times (min GREATEST y) a (omega (arith, some))).0 in
      let product = mul-le d a 10000000000000 1000000 (omega (arith, less, small)) short in
      absurd (omega (arith, up, top, product)))
  | inr low ↦ (
      let same : min GREATEST y ≡ y = omega (arith, low) in
      is ∙ ap (λ z. div_ceil z a) same)
]

-- ---- the work ahead of a leg after which the known path ends

none_by_length : (b m d : ℕ) → m ≡ 0 → b * m - d ≡ 0
none_by_length b m d none = let product = ap (λ z. b * z) none in omega (arith, product)

pub no_work_ahead : (a e : ℕ) (ls : List Leg) → ahead ls ≡ 0 → work_ahead a e ls ≡ 0
no_work_ahead a e [] none = refl
no_work_ahead a e (l ∷ ls) none = elim (cases_Bool l.joined) [
  | inl on ↦ (
      let sum : l.millionths + ahead ls ≡ 0 = sym (ap (λ b. cond b (l.millionths + ahead ls) 0) on) ∙ none in
      let here : leg_work a e l ≡ 0 = none_by_length l.change l.millionths (deduction a l.change (passes e l)) (omega (arith, sum)) in
      let later = no_work_ahead l.change l.exit ls (omega (arith, sum)) in
      ap (λ b. cond b (leg_work a e l + work_ahead l.change l.exit ls) 0) on ∙ omega (arith, here, later))
  | inr off ↦ ap (λ b. cond b (leg_work a e l + work_ahead l.change l.exit ls) 0) off
]
