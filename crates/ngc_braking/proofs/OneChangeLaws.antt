-- The rule for legs that all have one change.
use Rattle.std.proofs.Common.{◌≡◌, ℕ, ◌+◌, ◌-◌, ◌*◌, ◌≤◌, ◌<◌, nat_lt, nat_le, Bool, true, false, cond, ◌&&◌, ◌||◌, List, [], ◌∷◌, inl, inr}
use Rattle.std.proofs.Common.{ap, ap₂, sym, subst, ◌∙◌, arith}
use Rattle.std.proofs.lemmas.Bool.{cases_lt, cases_Bool, lt-ltb, le-ltb, le-leb, lt-leb, and_from}
use Rattle.std.specs.List.{All}
use Rattle.std.proofs.lemmas.List.Elements.{All-head, All-tail}
use Rattle.ngc_fixed_length.specs.Limits.{MILLION}
use Rattle.ngc_braking.specs.declared.leg.Leg.{Leg}
use Rattle.ngc_braking.specs.Leg.{passes}
use Rattle.ngc_braking.specs.Braking.{braking}
use Rattle.ngc_braking.specs.Work.{work, leg_work, slows, is_enough, can_brake, work_ahead}
use Rattle.ngc_braking.specs.OneChange.{slows_within, brakes_within, HasChange, IsLong}
use Rattle.ngc_braking.specs.Reach.{may_enter, free_ahead, ahead, free}
use Rattle.ngc_braking.proofs.Ticks.{braking_step}
use Rattle.ngc_braking.proofs.BrakingLaws.{braking_faster}
use Rattle.ngc_braking.proofs.ReachLaws.{entered, free_none, free_more}
use Rattle.ngc_braking.proofs.WorkLaws.{scaled}
use Rattle.ngc_braking.proofs.AheadLaws.{or_first, or_second, enough_on, enough_up_to, brakes_on, brakes_up_to}

-- ---- a factor on both sides

scaled_sum : (a x d y : ℕ) → 1 ≤ a → nat_lt (a * x) (a * d + a * y) ≡ nat_lt x (d + y)
scaled_sum a x d y some =
    let sum : a * d + a * y ≡ a * (d + y) = omega arith in
    ap (λ z. nat_lt (a * x) z) sum ∙ scaled a x (d + y) some

slows_same : (w a d limit : ℕ) → 1 ≤ a → slows w a d limit ≡ slows_within w a d limit
slows_same w a d limit some =
    ap (λ b. nat_le w limit || b) (scaled_sum a (braking w a) d (braking (limit + 1 - a) a) some)

-- ---- a joint that the tick does not reach

or_none : (x y : Bool) → x ≡ false → y ≡ false → (x || y) ≡ false
or_none true y h k = cc
or_none false y h k = k

slows_far : (w a d limit : ℕ) → 1 ≤ a → w < d → slows_within w a d limit ≡ nat_lt (braking w a) (d + braking (limit + 1 - a) a)
slows_far w a d limit some far = elim (cases_lt (braking w a) (d + braking (limit + 1 - a) a)) [
  | inl short ↦ (or_second (nat_le w limit) _ (lt-ltb _ _ short) ∙ sym (lt-ltb _ _ short))
  | inr long ↦ (elim (cases_lt limit w) [
    | inl above ↦ (or_none (nat_le w limit) _ (lt-leb w limit above) (le-ltb _ _ long) ∙ sym (le-ltb _ _ long))
    | inr low ↦ (
        let more = braking_faster (w - a) (limit + 1 - a) a some (omega arith) in
        let step = braking_step w a some in
        absurd (omega (arith, long, more, step, far)))
  ])
]

-- ---- the legs ahead

within_on : (w a d e : ℕ) (l : Leg) (ls : List Leg) → l.joined ≡ true →
    brakes_within w a d e (l ∷ ls) ≡ (slows_within w a d (passes e l) && brakes_within w a (d + l.millionths) l.exit ls)
within_on w a d e l ls on = ap (λ b. cond b (slows_within w a d (passes e l) && brakes_within w a (d + l.millionths) l.exit ls) (nat_lt (braking w a) d)) on

within_up_to : (w a d e : ℕ) (l : Leg) (ls : List Leg) → l.joined ≡ false → brakes_within w a d e (l ∷ ls) ≡ nat_lt (braking w a) d
within_up_to w a d e l ls off = ap (λ b. cond b (slows_within w a d (passes e l) && brakes_within w a (d + l.millionths) l.exit ls) (nat_lt (braking w a) d)) off

-- the work of a leg with the same change: nothing is deducted
no_deduction : (a b m limit : ℕ) → b ≡ a → b * m - (b - a) * limit ≡ a * m
no_deduction a b m limit is =
    let none : b - a ≡ 0 = omega (arith, is) in
    let deducted = ap (λ z. z * limit) none in
    let product = ap (λ z. z * m) is in
    omega (arith, deducted, product)

work_of_leg : (a e : ℕ) (l : Leg) → l.change ≡ a → leg_work a e l ≡ a * l.millionths
work_of_leg a e l is = no_deduction a l.change l.millionths (passes e l) is

summed : (a d m x : ℕ) → x ≡ a * m → a * d + x ≡ a * (d + m)
summed a d m x is = omega (arith, is)

-- the sum up to the end of a leg
sum_to : (a d e : ℕ) (l : Leg) → l.change ≡ a → a * d + leg_work a e l ≡ a * (d + l.millionths)
sum_to a d e l is = summed a d l.millionths (leg_work a e l) (work_of_leg a e l is)

same_ahead : (w a d e : ℕ) (ls : List Leg) → 1 ≤ a → w < d → All (HasChange a) ls → is_enough (work w a) (a * d) a e ls ≡ brakes_within w a d e ls
same_ahead w a d e [] some far all = scaled a (braking w a) d some
same_ahead w a d e (l ∷ ls) some far all = elim (cases_Bool l.joined) [
  | inl on ↦ (
      let is = All-head (HasChange a) l ls all in
      let here = scaled_sum a (braking w a) d (braking (passes e l + 1 - a) a) some ∙ sym (slows_far w a d (passes e l) some far) in
      let afterwards = same_ahead w a (d + l.millionths) l.exit ls some (omega (arith, far)) (All-tail (HasChange a) l ls all) in
      let there = ap₂ (λ s c. is_enough (work w a) s c l.exit ls) (sum_to a d e l is) is in
      enough_on (work w a) (a * d) a e l ls on ∙ ap₂ (λ x y. x && y) here (there ∙ afterwards) ∙ sym (within_on w a d e l ls on))
  | inr off ↦ (
      enough_up_to (work w a) (a * d) a e l ls off ∙ scaled a (braking w a) d some ∙ sym (within_up_to w a d e l ls off))
]

-- the change of the head as a variable of its own
same_on : (w a rest : ℕ) (h : Leg) (ls : List Leg) → w ≤ MILLION → 1 ≤ h.change → 1 ≤ rest → a ≡ h.change → All (HasChange a) ls → All IsLong ls →
    can_brake w rest h ls ≡ brakes_within w h.change rest h.exit ls
same_on w a rest h [] small some left is all each = scaled h.change (braking w h.change) rest some
same_on w a rest h (l ∷ ls) small some left is all each = elim (cases_Bool l.joined) [
  | inl on ↦ (
      let long = All-head IsLong l ls each in
      let change = All-head (HasChange a) l ls all ∙ is in
      let others = subst (λ c. All (HasChange c) ls) is (All-tail (HasChange a) l ls all) in
      let here = slows_same w h.change rest (passes h.exit l) some in
      let afterwards = same_ahead w h.change (rest + l.millionths) l.exit ls some (omega (arith, long, small, left)) others in
      let there = ap₂ (λ s c. is_enough (work w h.change) s c l.exit ls) (sum_to h.change rest h.exit l change) change in
      brakes_on w rest h l ls on ∙ ap₂ (λ x y. x && y) here (there ∙ afterwards) ∙ sym (within_on w h.change rest h.exit l ls on))
  | inr off ↦ (
      brakes_up_to w rest h l ls off ∙ scaled h.change (braking w h.change) rest some ∙ sym (within_up_to w h.change rest h.exit l ls off))
]

pub same_with_one_change : (w a rest : ℕ) (h : Leg) (ls : List Leg) → w ≤ MILLION → 1 ≤ a → 1 ≤ rest → HasChange a h → All (HasChange a) ls →
    All IsLong ls → can_brake w rest h ls ≡ brakes_within w a rest h.exit ls
same_with_one_change w a rest h ls small some left is all each =
    let least : 1 ≤ h.change = omega (arith, is, some) in
    same_on w a rest h ls small least left (sym is) all each ∙ ap (λ c. brakes_within w c rest h.exit ls) is

-- ---- the legs ahead that a rate may enter

slow_within : (w a d limit : ℕ) → w ≤ limit → slows_within w a d limit ≡ true
slow_within w a d limit low = or_first _ _ (le-leb w limit low)

short_within : (w a d limit : ℕ) → braking w a < d + braking (limit + 1 - a) a → slows_within w a d limit ≡ true
short_within w a d limit short = or_second (nat_le w limit) _ (lt-ltb (braking w a) (d + braking (limit + 1 - a) a) short)

-- enough distance up to the next joint is enough
short_brakes : (w a d e : ℕ) (ls : List Leg) → braking w a < d → brakes_within w a d e ls ≡ true
short_brakes w a d e [] short = lt-ltb (braking w a) d short
short_brakes w a d e (l ∷ ls) short = elim (cases_Bool l.joined) [
  | inl on ↦ (
      let here = short_within w a d (passes e l) (omega (arith, short)) in
      let afterwards = short_brakes w a (d + l.millionths) l.exit ls (omega (arith, short)) in
      within_on w a d e l ls on ∙ and_from _ _ here afterwards)
  | inr off ↦ (within_up_to w a d e l ls off ∙ lt-ltb (braking w a) d short)
]

free_brakes : (w a d e : ℕ) (ls : List Leg) → braking w a < d + free_ahead w e ls → brakes_within w a d e ls ≡ true
free_brakes w a d e [] short = short_brakes w a d e [] (omega arith)
free_brakes w a d e (l ∷ ls) short = elim (cases_Bool (may_enter w e l)) [
  | inl open' ↦ (
      let p = entered w e l open' in
      let more = free_more w e l ls open' in
      let here = slow_within w a d (passes e l) (omega (arith, p.1)) in
      let afterwards = free_brakes w a (d + l.millionths) l.exit ls (omega (arith, more, short)) in
      within_on w a d e l ls p.0 ∙ and_from _ _ here afterwards)
  | inr shut ↦ (let none = free_none w e l ls shut in short_brakes w a d e (l ∷ ls) (omega (arith, none, short)))
]

pub brakes_where_free : (w a rest : ℕ) (h : Leg) (ls : List Leg) → w ≤ MILLION → 1 ≤ a → 1 ≤ rest → HasChange a h → All (HasChange a) ls →
    All IsLong ls → braking w a < free w rest h ls → can_brake w rest h ls ≡ true
brakes_where_free w a rest h ls small some left is all each short =
    same_with_one_change w a rest h ls small some left is all each ∙ free_brakes w a rest h.exit ls short

-- ---- the work ahead

pub same_work_ahead : (a e : ℕ) (ls : List Leg) → All (HasChange a) ls → work_ahead a e ls ≡ a * ahead ls
same_work_ahead a e [] all = omega arith
same_work_ahead a e (l ∷ ls) all = elim (cases_Bool l.joined) [
  | inl on ↦ (
      let is = All-head (HasChange a) l ls all in
      let here = work_of_leg a e l is in
      let afterwards = ap (λ c. work_ahead c l.exit ls) is ∙ same_work_ahead a l.exit ls (All-tail (HasChange a) l ls all) in
      let known = ap (λ b. cond b (leg_work a e l + work_ahead l.change l.exit ls) 0) on in
      let long = ap (λ b. a * cond b (l.millionths + ahead ls) 0) on in
      let spread : a * (l.millionths + ahead ls) ≡ a * l.millionths + a * ahead ls = omega arith in
      known ∙ ap₂ (λ x y. x + y) here afterwards ∙ sym (long ∙ spread))
  | inr off ↦ (
      let known = ap (λ b. cond b (leg_work a e l + work_ahead l.change l.exit ls) 0) off in
      let long = ap (λ b. a * cond b (l.millionths + ahead ls) 0) off in
      let nothing : a * 0 ≡ 0 = omega arith in
      known ∙ sym (long ∙ nothing))
]
