-- Ticks that are computed at once.
use Rattle.std.proofs.Common.{◌≡◌, ℕ, zero, suc, ◌+◌, ◌-◌, ◌*◌, ◌/◌, ◌≤◌, ◌<◌, min, max, nat_lt, nat_le, Bool, true, false, cond, List, [], ◌∷◌, arith, refl, ap, ap₂, sym, subst, ◌∙◌}
use Rattle.std.specs.Int.{div_ceil}
use Rattle.std.proofs.lemmas.Bool.{lt-ltb, ltb-true, and_parts}
use Rattle.std.proofs.lemmas.Nat.{mul-le}
use Rattle.std.proofs.Math.Nat.{div-mul-le_self, mul-le-mul_left}
use Rattle.std.specs.List.{All}
use Rattle.std.proofs.lemmas.List.Elements.{All-head, All-tail}
use Rattle.ngc_braking.specs.declared.leg.Leg.{Leg}
use Rattle.ngc_braking.specs.Braking.{braking}
use Rattle.ngc_braking.specs.Leg.{IsLeg, tick_bound, is_due}
use Rattle.ngc_braking.specs.Work.{GREATEST, work, can_brake, beyond, work_ahead}
use Rattle.ngc_braking.proofs.Ticks.{braking_step}
use Rattle.ngc_braking.proofs.BrakingLaws.{braking_faster, brakes_in, few_ticks}
use Rattle.ngc_braking.proofs.BeyondLaws.{short_after, too_far, ceil_capped}
use Rattle.ngc_planner.specs.Ramp.{RampState, IsRamp, MayTick, on_legs, pace, after_tick, next_rest}
use Rattle.ngc_planner.specs.Stretches.{TicksFrom, Ticks, rise, fall, MayRise, may_rise, MayRiseOn, risen, SpeedsUp, MayGoOn, MayGoOnOn, gone_on, GoesOn, MayFall, SlowsDown, highest_rate, chosen_rate, after_ticks, MayBrake, BrakesDown, ChoosesWell, MayBrakeDown, MayBrakeOn, fallen, MayFallTo}
use Rattle.ngc_planner.proofs.CoastLaws.{bound_after}
use Rattle.ngc_planner.proofs.RampLaws.{tick_bound_greatest, may_go_fast, may_go_slow, slow_suits, suits_fast, ramp_after}

-- ---- distances

-- the first of n + 1 ticks, and the others
rise_step : (n v a : ℕ) → rise (suc n) v a ≡ v + a + rise n (v + a) a
rise_step n v a =
    let whole : suc n * (suc n + 1) / 2 ≡ suc n + n * (n + 1) / 2 = omega arith in
    let part : a * (suc n * (suc n + 1) / 2) ≡ a * (suc n + n * (n + 1) / 2) = ap (λ x. a * x) whole in
    omega (arith, part)

-- the products of a rise are small
pub rise_small : (n v a : ℕ) → n ≤ 1000000 → v ≤ 1000000 → a ≤ 1000000 →
    (n * v ≤ 1000000 * 1000000) × (n * (n + 1) ≤ 1000000 * 1000001) × (a * (n * (n + 1) / 2) ≤ 1000000 * (1000000 * 1000001))
rise_small n v a few rate change =
    let way = mul-le n v 1000000 1000000 few rate in
    let sum = mul-le n (n + 1) 1000000 1000001 few (omega (arith, few)) in
    (way, sum, mul-le a (n * (n + 1) / 2) 1000000 (1000000 * 1000001) change (omega (arith, sum)))

-- fewer ticks end at a lower rate
pub slower : (n most v a : ℕ) → n ≤ most → v + most * a ≤ 1000000 → v + n * a ≤ 1000000
slower n most v a few low = let p = mul-le n a most a few (omega arith) in omega (arith, p, low)

-- ---- one tick that does not end the head

-- the ramp after it, if the last tick began on the head too
on_head : (a v rest w : ℕ) (head : Leg) (legs : List Leg) (room : ℕ) → a ≡ head.change → w < rest →
    after_tick (on_legs a v rest head legs room) head legs w ≡ on_legs a w (rest - w) head legs room
on_head a v rest w head legs room same less =
    ap (λ b. cond b (on_legs head.change w (rest - w) head legs room)
    (record { last_change = head.change; rate = w; rest = next_rest (w - rest) legs; legs = legs; room = room })) (lt-ltb w rest less)
    ∙ ap (λ c. on_legs c w (rest - w) head legs room) (sym same)

-- its rate is this one, whatever the tick is
only_tick : (a v rest w : ℕ) (head : Leg) (legs : List Leg) (room wish : ℕ) (mid : RampState) → a ≡ head.change → w < rest →
    ((x : ℕ) → MayTick (on_legs a v rest head legs room) wish head legs x → x ≡ w) →
    TicksFrom (head ∷ legs) (on_legs a v rest head legs room) wish mid → mid ≡ on_legs a w (rest - w) head legs room
only_tick a v rest w head legs room wish mid same less only h =
    let t = h.3 in
    t.next ∙ ap (λ x. after_tick (on_legs a v rest head legs room) head legs x) (only h.0 t.may) ∙ on_head a v rest w head legs room same less

-- such a tick
one_tick : (a v rest w : ℕ) (head : Leg) (legs : List Leg) (room wish : ℕ) → a ≡ head.change → w < rest →
    MayTick (on_legs a v rest head legs room) wish head legs w →
    TicksFrom (head ∷ legs) (on_legs a v rest head legs room) wish (on_legs a w (rest - w) head legs room)
one_tick a v rest w head legs room wish same less may =
    (w, is_due head rest w, nat_le rest w, record { may = may; tells = refl; ends = refl; next = sym (on_head a v rest w head legs room same less) })

-- the braking distance ends on the head
by_change : (a w rest : ℕ) (head : Leg) → a ≡ head.change → braking w a < rest → braking w head.change < rest
by_change a w rest head same short = subst (λ c. braking w c < rest) same short

head_brakes : (a u w rest : ℕ) (head : Leg) (legs : List Leg) → 1 ≤ a → a ≡ head.change → u ≡ w → braking w a < rest → can_brake u rest head legs ≡ true
head_brakes a u w rest head legs some same is short =
    subst (λ z. can_brake z rest head legs ≡ true) (sym is) (short_after w rest head legs (omega (arith, some, same)) (by_change a w rest head same short))

brakes_on : (a w rest : ℕ) (head : Leg) (legs : List Leg) → a ≡ head.change → braking w a < rest →
    work w head.change ≤ head.change * rest + work_ahead head.change head.exit legs
brakes_on a w rest head legs same short =
    let here = by_change a w rest head same short in
    let product = mul-le-mul_left head.change (let less : braking w head.change ≤ rest = omega (arith, here) in less) in
    omega (arith, product)

-- ---- speeding up

rising : (a v rest wish w : ℕ) (head : Leg) (legs : List Leg) (room : ℕ) → 1 ≤ a → a ≡ head.change → w ≡ v + a → w ≤ wish → w ≤ tick_bound head rest →
    braking w a < rest → (x : ℕ) → MayTick (on_legs a v rest head legs room) wish head legs x → x ≡ w
rising a v rest wish w head legs room some own same wished within short x may =
    let at_pace : pace (on_legs a v rest head legs room) wish head ≡ w = omega (arith, own, same, wished, within) in
    let kept = may.keeps_pace in
    let fast = subst (λ p. can_brake p rest head legs ≡ true → p ≤ x) at_pace kept in
    let least = fast (head_brakes a w w rest head legs some own refl short) in
    omega (arith, least, may.faster, same, own)

may_speed_up : (a v rest wish w : ℕ) (head : Leg) (legs : List Leg) (room : ℕ) → a ≡ head.change → w ≡ v + a → w ≤ wish → w ≤ tick_bound head rest → w < rest →
    braking w a < rest → MayTick (on_legs a v rest head legs room) wish head legs w
may_speed_up a v rest wish w head legs room own same wished within less short =
    record {
      faster = omega (arith, same, own);
      slower = omega (arith, same);
      within = within;
      leaves = λ end. absurd (omega (arith, end, less));
      goes_on = λ over. absurd (omega (arith, over, less));
      brakes = brakes_on a w rest head legs own short;
      aims = omega (arith, wished);
      keeps_pace = λ brakes. omega (arith, same, own, wished, within);
      at_least = omega (arith, same, own);
    }

-- what the first of n + 1 ticks needs
first_rise : (n a v rest : ℕ) (head : Leg) (wish : ℕ) → 1 ≤ a → MayRise a v rest head wish (suc n) →
    (v + a ≤ wish) × (v + a ≤ tick_bound head rest) × (v + a < rest) × (braking (v + a) a < rest)
first_rise n a v rest head wish some may =
    let step = rise_step n v a in
    let up = mul-le 1 a (suc n) a (omega arith) (omega arith) in
    let less : v + a ≤ v + suc n * a = omega (arith, up) in
    let first = braking_step (v + a) a some in
    let back : v + a - a ≡ v = omega arith in
    let here = ap (λ x. braking x a) back in
    let later = braking_faster v (v + suc n * a - a) a some (omega (arith, up)) in (
      omega (arith, may.wished, less),
      omega (arith, may.within, less),
      omega (arith, may.brakes, step),
      omega (arith, may.brakes, step, first, here, later),
    )

-- and what the others need after it
later_rise : (n a v rest : ℕ) (head : Leg) (wish : ℕ) → rest ≤ head.millionths → MayRise a v rest head wish (suc n) →
    MayRise a (v + a) (rest - (v + a)) head wish n
later_rise n a v rest head wish within may =
    let step = rise_step n v a in
    let top : v + a + n * a ≡ v + suc n * a = omega arith in
    let bound = bound_after head rest (v + a) within (omega (arith, may.brakes, step)) in
    record {
      same = may.same;
      wished = omega (arith, may.wished);
      within = omega (arith, may.within, bound);
      brakes = subst (λ t. rise n (v + a) a + braking (t - a) a < rest - (v + a)) (sym top) (omega (arith, may.brakes, step));
    }

risen_state : (n a v rest : ℕ) (head : Leg) (legs : List Leg) (room : ℕ) →
    on_legs a (v + a + n * a) (rest - (v + a) - rise n (v + a) a) head legs room ≡ on_legs a (v + suc n * a) (rest - rise (suc n) v a) head legs room
risen_state n a v rest head legs room =
    let step = rise_step n v a in
    let rate : v + a + n * a ≡ v + suc n * a = omega arith in
    let left : rest - (v + a) - rise n (v + a) a ≡ rest - rise (suc n) v a = omega (arith, step) in
    ap₂ (λ r l. on_legs a r l head legs room) rate left

standing : (a v rest : ℕ) (head : Leg) (legs : List Leg) (room : ℕ) → on_legs a (v + 0 * a) (rest - rise 0 v a) head legs room ≡ on_legs a v rest head legs room
standing a v rest head legs room =
    let none : rise 0 v a ≡ 0 = omega arith in
    let rate : v + 0 * a ≡ v = omega arith in
    let left : rest - rise 0 v a ≡ rest = omega (arith, none) in
    ap₂ (λ r l. on_legs a r l head legs room) rate left

only_rise : (n a v rest : ℕ) (head : Leg) (legs : List Leg) (room wish : ℕ) (new : RampState) → 1 ≤ a → rest ≤ head.millionths →
    MayRise a v rest head wish n → Ticks n (on_legs a v rest head legs room) wish new →
    new ≡ on_legs a (v + n * a) (rest - rise n v a) head legs room
only_rise zero a v rest head legs room wish new some within may h = h ∙ sym (standing a v rest head legs room)
only_rise (suc n) a v rest head legs room wish new some within may h =
    let p = first_rise n a v rest head wish some may in
    let mid = only_tick a v rest (v + a) head legs room wish h.0 may.same p.2
    (rising a v rest wish (v + a) head legs room some may.same refl p.0 p.1 p.3) h.1 in
    let next = on_legs a (v + a) (rest - (v + a)) head legs room in
    let others = subst (λ m. Ticks n m wish new) {x = h.0} {y = next} mid h.2 in
    only_rise n a (v + a) (rest - (v + a)) head legs room wish new some (omega (arith, within)) (later_rise n a v rest head wish within may) others
    ∙ risen_state n a v rest head legs room

some_rise : (n a v rest : ℕ) (head : Leg) (legs : List Leg) (room wish : ℕ) → 1 ≤ a → rest ≤ head.millionths →
    MayRise a v rest head wish n →
    Ticks n (on_legs a v rest head legs room) wish (on_legs a (v + n * a) (rest - rise n v a) head legs room)
some_rise zero a v rest head legs room wish some within may = standing a v rest head legs room
some_rise (suc n) a v rest head legs room wish some within may =
    let p = first_rise n a v rest head wish some may in
    let tick = one_tick a v rest (v + a) head legs room wish may.same p.2 (may_speed_up a v rest wish (v + a) head legs room may.same refl p.0 p.1 p.2 p.3) in
    let others = some_rise n a (v + a) (rest - (v + a)) head legs room wish some (omega (arith, within)) (later_rise n a v rest head wish within may) in
    let mid = on_legs a (v + a) (rest - (v + a)) head legs room in
    let there = on_legs a (v + a + n * a) (rest - (v + a) - rise n (v + a) a) head legs room in
    let new = on_legs a (v + suc n * a) (rest - rise (suc n) v a) head legs room in
    (mid, tick, subst (λ s. Ticks n mid wish s) {x = there} {y = new} (risen_state n a v rest head legs room) others)

pub speeds_up : SpeedsUp
speeds_up n a v rest head legs room wish new some within may = (
  λ h. only_rise n a v rest head legs room wish new some within may h,
  λ same. (
      let old = on_legs a v rest head legs room in
      let there = on_legs a (v + n * a) (rest - rise n v a) head legs room in
      subst (λ s. Ticks n old wish s) {x = there} {y = new} (sym same) (some_rise n a v rest head legs room wish some within may)),
)

-- ---- going on

going_on : (a v rest wish : ℕ) (head : Leg) (legs : List Leg) (room : ℕ) → 1 ≤ a → a ≡ head.change → v ≡ min wish head.bound → v ≤ tick_bound head rest →
    braking v a < rest → (x : ℕ) → MayTick (on_legs a v rest head legs room) wish head legs x → x ≡ v
going_on a v rest wish head legs room some own wished within short x may =
    let most = tick_bound_greatest head rest in
    let at_pace : pace (on_legs a v rest head legs room) wish head ≡ v = omega (arith, wished, within, most) in
    let fast = subst (λ p. can_brake p rest head legs ≡ true → p ≤ x) at_pace may.keeps_pace in
    let least = fast (head_brakes a v v rest head legs some own refl short) in
    omega (arith, least, may.aims, may.within, most, wished)

may_go_on : (a v rest wish : ℕ) (head : Leg) (legs : List Leg) (room : ℕ) → a ≡ head.change → v ≡ min wish head.bound → v ≤ tick_bound head rest → v < rest →
    braking v a < rest → MayTick (on_legs a v rest head legs room) wish head legs v
may_go_on a v rest wish head legs room own wished within less short =
    let most = tick_bound_greatest head rest in
    record {
      faster = omega arith;
      slower = omega arith;
      within = within;
      leaves = λ end. absurd (omega (arith, end, less));
      goes_on = λ over. absurd (omega (arith, over, less));
      brakes = brakes_on a v rest head legs own short;
      aims = omega (arith, wished);
      keeps_pace = λ brakes. omega (arith, wished, most);
      at_least = omega (arith, wished);
    }

-- what the first of n + 1 ticks needs, and the others after it
first_even : (n a v rest : ℕ) (head : Leg) (wish : ℕ) → 1 ≤ a → MayGoOn a v rest head wish (suc n) → (v < rest) × (braking v a < rest)
first_even n a v rest head wish some may =
    let step : suc n * v ≡ v + n * v = omega arith in
    let most = braking_step v a some in
    (omega (arith, may.brakes, step), omega (arith, may.brakes, step, most))

later_even : (n a v rest : ℕ) (head : Leg) (wish : ℕ) → rest ≤ head.millionths → MayGoOn a v rest head wish (suc n) →
    MayGoOn a v (rest - v) head wish n
later_even n a v rest head wish within may =
    let step : suc n * v ≡ v + n * v = omega arith in
    let bound = bound_after head rest v within (omega (arith, may.brakes, step)) in
    record {
      same = may.same;
      wished = may.wished;
      within = omega (arith, may.within, bound);
      brakes = omega (arith, may.brakes, step);
    }

even_state : (n a v rest : ℕ) (head : Leg) (legs : List Leg) (room : ℕ) →
    on_legs a v (rest - v - n * v) head legs room ≡ on_legs a v (rest - suc n * v) head legs room
even_state n a v rest head legs room =
    let left : rest - v - n * v ≡ rest - suc n * v = omega arith in ap (λ l. on_legs a v l head legs room) left

even_none : (a v rest : ℕ) (head : Leg) (legs : List Leg) (room : ℕ) → on_legs a v (rest - 0 * v) head legs room ≡ on_legs a v rest head legs room
even_none a v rest head legs room = let left : rest - 0 * v ≡ rest = omega arith in ap (λ l. on_legs a v l head legs room) left

only_even : (n a v rest : ℕ) (head : Leg) (legs : List Leg) (room wish : ℕ) (new : RampState) → 1 ≤ a → rest ≤ head.millionths →
    MayGoOn a v rest head wish n → Ticks n (on_legs a v rest head legs room) wish new → new ≡ on_legs a v (rest - n * v) head legs room
only_even zero a v rest head legs room wish new some within may h = h ∙ sym (even_none a v rest head legs room)
only_even (suc n) a v rest head legs room wish new some within may h =
    let p = first_even n a v rest head wish some may in
    let mid = only_tick a v rest v head legs room wish h.0 may.same p.0 (going_on a v rest wish head legs room some may.same may.wished may.within p.1) h.1 in
    let next = on_legs a v (rest - v) head legs room in
    let others = subst (λ m. Ticks n m wish new) {x = h.0} {y = next} mid h.2 in
    only_even n a v (rest - v) head legs room wish new some (omega (arith, within)) (later_even n a v rest head wish within may) others
    ∙ even_state n a v rest head legs room

some_even : (n a v rest : ℕ) (head : Leg) (legs : List Leg) (room wish : ℕ) → 1 ≤ a → rest ≤ head.millionths → MayGoOn a v rest head wish n →
    Ticks n (on_legs a v rest head legs room) wish (on_legs a v (rest - n * v) head legs room)
some_even zero a v rest head legs room wish some within may = even_none a v rest head legs room
some_even (suc n) a v rest head legs room wish some within may =
    let p = first_even n a v rest head wish some may in
    let tick = one_tick a v rest v head legs room wish may.same p.0 (may_go_on a v rest wish head legs room may.same may.wished may.within p.0 p.1) in
    let others = some_even n a v (rest - v) head legs room wish some (omega (arith, within)) (later_even n a v rest head wish within may) in
    let mid = on_legs a v (rest - v) head legs room in
    let there = on_legs a v (rest - v - n * v) head legs room in
    let new = on_legs a v (rest - suc n * v) head legs room in
    (mid, tick, subst (λ s. Ticks n mid wish s) {x = there} {y = new} (even_state n a v rest head legs room) others)

pub goes_on : GoesOn
goes_on n a v rest head legs room wish new some within may = (
  λ h. only_even n a v rest head legs room wish new some within may h,
  λ same. (
      let old = on_legs a v rest head legs room in
      let there = on_legs a v (rest - n * v) head legs room in
      subst (λ s. Ticks n old wish s) {x = there} {y = new} (sym same) (some_even n a v rest head legs room wish some within may)),
)

-- ---- slowing down

triangle_short : (n : ℕ) → n * (n + 1) / 2 ≤ n * n
triangle_short zero = omega arith
triangle_short (suc n) = let p = mul-le (suc n) 1 (suc n) (suc n) (omega arith) (omega arith) in omega (arith, p)

-- the first of n + 1 ticks, and the others
fall_step : (n v a : ℕ) → suc n * a ≤ v → fall (suc n) v a ≡ v - a + fall n (v - a) a
fall_step n v a low =
    let whole : suc n * (suc n + 1) / 2 ≡ suc n + n * (n + 1) / 2 = omega arith in
    let part : a * (suc n * (suc n + 1) / 2) ≡ a * (suc n + n * (n + 1) / 2) = ap (λ x. a * x) whole in
    let short = mul-le (n * (n + 1) / 2) a (n * n) a (triangle_short n) (omega arith) in
    let left : n * a ≤ v - a = omega (arith, low) in
    let far = mul-le (n * a) n (v - a) n left (omega arith) in
    let back : v ≡ v - a + a = omega (arith, low) in
    let times : suc n * v ≡ suc n * (v - a + a) = ap (λ x. suc n * x) back in
    omega (arith, part, short, far, times, low)

slowing : (a v rest wish : ℕ) (head : Leg) (legs : List Leg) (room : ℕ) → a ≡ head.change → wish + a ≤ v → (x : ℕ) →
    MayTick (on_legs a v rest head legs room) wish head legs x → x ≡ v - a
slowing a v rest wish head legs room same low x may = omega (arith, same, low, may.slower, may.aims)

later_fall : (n a v rest wish : ℕ) → MayFall a v rest wish (suc n) → MayFall a (v - a) (rest - (v - a)) wish n
later_fall n a v rest wish may =
    let step = fall_step n v a (omega (arith, may.wished)) in
    record { wished = omega (arith, may.wished); on_head = omega (arith, may.on_head, step) }

only_fall : (n a v rest : ℕ) (head : Leg) (legs : List Leg) (room wish : ℕ) (new : RampState) → a ≡ head.change → MayFall a v rest wish n →
    Ticks n (on_legs a v rest head legs room) wish new → new ≡ on_legs a (v - n * a) (rest - fall n v a) head legs room
only_fall zero a v rest head legs room wish new same may h =
    let rate : v ≡ v - 0 * a = omega arith in
    let left : rest ≡ rest - fall 0 v a = omega arith in
    h ∙ ap₂ (λ r l. on_legs a r l head legs room) rate left
only_fall (suc n) a v rest head legs room wish new same may h =
    let step = fall_step n v a (omega (arith, may.wished)) in
    let mid = only_tick a v rest (v - a) head legs room wish h.0 same (omega (arith, may.on_head, step))
    (slowing a v rest wish head legs room same (omega (arith, may.wished))) h.1 in
    let next = on_legs a (v - a) (rest - (v - a)) head legs room in
    let others = subst (λ m. Ticks n m wish new) {x = h.0} {y = next} mid h.2 in
    let rate : v - a - n * a ≡ v - suc n * a = omega arith in
    let left : rest - (v - a) - fall n (v - a) a ≡ rest - fall (suc n) v a = omega (arith, step) in
    only_fall n a (v - a) (rest - (v - a)) head legs room wish new same (later_fall n a v rest wish may) others
    ∙ ap₂ (λ r l. on_legs a r l head legs room) rate left

pub slows_down : SlowsDown
slows_down n a v rest head legs room wish new same may h = only_fall n a v rest head legs room wish new same may h

-- ---- the ramp after ticks that speed up

-- the test leaves the distance to brake
pub rises_within : (n v a rest : ℕ) → may_rise n v a rest ≡ true → (rise n v a < rest) × (rise n v a + braking (v + n * a - a) a < rest)
rises_within n v a rest h =
    let parts = and_parts (nat_lt (rise n v a) rest) (nat_lt (braking (v + n * a - a) a) (rest - rise n v a)) h in
    let less = ltb-true (rise n v a) rest parts.0 in
    let short = ltb-true (braking (v + n * a - a) a) (rest - rise n v a) parts.1 in
    (less, omega (arith, less, short))

pub may_rise_on : (n a v rest wish : ℕ) (head : Leg) → a ≡ head.change → v + n * a ≤ wish → v + n * a ≤ tick_bound head rest →
    may_rise n v a rest ≡ true → MayRise a v rest head wish n
may_rise_on n a v rest wish head same wished within h =
    let p = rises_within n v a rest h in
    record { same = same; wished = wished; within = within; brakes = p.1 }

-- the number of ticks that reach a rate
pub reaches : (n rate a highest : ℕ) → 1 ≤ a → 1 ≤ n → n ≤ (highest - rate) / a → rate + n * a ≤ highest
reaches n rate a highest some one few =
    let p = mul-le n a ((highest - rate) / a) a few (omega arith) in
    let q = div-mul-le_self (highest - rate) a in
    let more = mul-le 1 1 n a one some in
    omega (arith, p, q, more)

-- it stays small, and so does their number
pub reaches_small : (n rate a highest : ℕ) → 1 ≤ a → rate ≤ 1000000 → highest ≤ 1000000 → n ≤ (highest - rate) / a →
    (rate + n * a ≤ 1000000) × (n ≤ 1000000)
reaches_small zero rate a highest some slow low few = (omega (arith, slow), omega arith)
reaches_small (suc n) rate a highest some slow low few =
    let top = reaches (suc n) rate a highest some (omega arith) few in
    let more = mul-le (suc n) 1 (suc n) a (omega arith) some in
    (omega (arith, top, low), omega (arith, top, low, more))

-- no rate up to the bound of a leg is greater than a million
pub low_bound : (highest wish rest : ℕ) (head : Leg) (legs all : List Leg) → all ≡ head ∷ legs → All IsLeg all → highest ≡ min wish (tick_bound head rest) →
    highest ≤ 1000000
low_bound highest wish rest head legs all were each h =
    let leg = All-head IsLeg head legs (subst (All IsLeg) were each) in
    let most = tick_bound_greatest head rest in
    omega (arith, h, most, leg.bound_greatest)

pub first_leg : (head : Leg) (legs all : List Leg) → all ≡ head ∷ legs → All IsLeg all → IsLeg head
first_leg head legs all were each = All-head IsLeg head legs (subst (All IsLeg) were each)

pub other_legs : (head : Leg) (legs all : List Leg) → all ≡ head ∷ legs → All IsLeg all → All IsLeg legs
other_legs head legs all were each = All-tail IsLeg head legs (subst (All IsLeg) were each)

-- the change of the first leg is at least 1
pub some_change : (a : ℕ) (head : Leg) (legs all : List Leg) → all ≡ head ∷ legs → All IsLeg all → a ≡ head.change → 1 ≤ a
some_change a head legs all were each same =
    let leg = first_leg head legs all were each in
    omega (arith, same, leg.change)

pub rise_as : (r : RampState) (head : Leg) (legs : List Leg) (wish n : ℕ) → r.legs ≡ head ∷ legs →
    (1 ≤ n → MayRise r.last_change r.rate r.rest head wish n) → MayRiseOn r.legs r wish n
rise_as r head legs wish n were may = subst (λ ls. MayRiseOn ls r wish n) (sym were) may

risen_kept : (places n a v rest wish : ℕ) (legs : List Leg) → IsRamp (record { last_change = a; rate = v; rest = rest; legs = legs; room = places }) →
    MayRiseOn legs (record { last_change = a; rate = v; rest = rest; legs = legs; room = places }) wish n → (0 < n → may_rise n v a rest ≡ true) →
    IsRamp (record { last_change = a; rate = v + n * a; rest = rest - rise n v a; legs = legs; room = places })
risen_kept places zero a v rest wish legs ramp may leaves =
    let rate : v + 0 * a ≡ v = omega arith in
    let none : rise 0 v a ≡ 0 = omega arith in
    let left : rest - rise 0 v a ≡ rest = omega (arith, none) in
    rw (rate, left) ramp
risen_kept places (suc n) a v rest wish [] ramp may leaves = absurd (omega (arith, may))
risen_kept places (suc n) a v rest wish (head ∷ legs) ramp may leaves =
    let h = may (omega arith) in
    let own = h.same in
    let p = rises_within (suc n) v a rest (leaves (omega arith)) in
    let most = tick_bound_greatest head rest in
    let leg = All-head IsLeg head legs ramp.each in
    let way = rise (suc n) v a in
    let least : v + suc n * a - max head.change a ≡ v + suc n * a - a = omega (arith, own) in
    record {
      last_greatest = ramp.last_greatest;
      rate_greatest = omega (arith, h.within, most, leg.bound_greatest);
      few = ramp.few;
      each = ramp.each;
      left = (omega (arith, p.0), omega (arith, ramp.left.1));
      kept = record {
        bounded = omega (arith, h.within, bound_after head rest way ramp.left.1 (omega (arith, p.0)));
        braked = λ some. head_brakes a (v + suc n * a - max head.change a) (v + suc n * a - a) (rest - way) head legs (omega (arith, own, leg.change)) own least
            (omega (arith, p.0, p.1));
      };
    }

pub risen_ramp : (r : RampState) (wish n : ℕ) → IsRamp r → MayRiseOn r.legs r wish n → (0 < n → may_rise n r.rate r.last_change r.rest ≡ true) →
    IsRamp (risen r n)
risen_ramp r wish n ramp may leaves = risen_kept r.room n r.last_change r.rate r.rest wish r.legs ramp may leaves

-- and these are n ticks of it
rises_on : (places n a v rest wish : ℕ) (legs : List Leg) → IsRamp (record { last_change = a; rate = v; rest = rest; legs = legs; room = places }) →
    MayRiseOn legs (record { last_change = a; rate = v; rest = rest; legs = legs; room = places }) wish n →
    Ticks n (record { last_change = a; rate = v; rest = rest; legs = legs; room = places }) wish
    (record { last_change = a; rate = v + n * a; rest = rest - rise n v a; legs = legs; room = places })
rises_on places zero a v rest wish legs ramp may =
    let rate : v + 0 * a ≡ v = omega arith in
    let none : rise 0 v a ≡ 0 = omega arith in
    let left : rest - rise 0 v a ≡ rest = omega (arith, none) in
    ap₂ (λ x l. record { last_change = a; rate = x; rest = l; legs = legs; room = places }) rate left
rises_on places (suc n) a v rest wish [] ramp may = absurd (omega (arith, may))
rises_on places (suc n) a v rest wish (head ∷ legs) ramp may =
    let h = may (omega arith) in
    let leg = All-head IsLeg head legs ramp.each in
    some_rise (suc n) a v rest head legs places wish (omega (arith, h.same, leg.change)) ramp.left.1 h

pub rises : (r : RampState) (wish n : ℕ) → IsRamp r → MayRiseOn r.legs r wish n → Ticks n r wish (risen r n)
rises r wish n ramp may = rises_on r.room n r.last_change r.rate r.rest wish r.legs ramp may

-- ---- the ramp after ticks at one rate

pub may_go_on_as : (r : RampState) (head : Leg) (legs : List Leg) (wish n : ℕ) → r.legs ≡ head ∷ legs →
    (1 ≤ n → MayGoOn r.last_change r.rate r.rest head wish n) → MayGoOnOn r.legs r wish n
may_go_on_as r head legs wish n were may = subst (λ ls. MayGoOnOn ls r wish n) (sym were) may

pub may_last : (n a v rest wish : ℕ) (head : Leg) → a ≡ head.change → v ≡ min wish head.bound → v ≤ tick_bound head rest →
    n * v + braking (v - a) a < rest → MayGoOn a v rest head wish n
may_last n a v rest wish head same wished within short = record { same = same; wished = wished; within = within; brakes = short }

-- the greatest number of ticks
pub lasts : (v needed rest : ℕ) → needed < rest → (rest - needed - 1) / v * v + needed < rest
lasts v needed rest some = let p = div-mul-le_self (rest - needed - 1) v in omega (arith, p, some)

pub fewer_last : (n most v needed rest : ℕ) → n ≤ most → most * v + needed < rest → n * v + needed < rest
fewer_last n most v needed rest few short = let p = mul-le n v most v few (omega arith) in omega (arith, p, short)

gone_on_kept : (places n a v rest wish : ℕ) (legs : List Leg) → IsRamp (record { last_change = a; rate = v; rest = rest; legs = legs; room = places }) →
    MayGoOnOn legs (record { last_change = a; rate = v; rest = rest; legs = legs; room = places }) wish n → (0 < n → n * v + braking (v - a) a < rest) →
    IsRamp (record { last_change = a; rate = v; rest = rest - n * v; legs = legs; room = places })
gone_on_kept places zero a v rest wish legs ramp may leaves = let left : rest - 0 * v ≡ rest = omega arith in rw left ramp
gone_on_kept places (suc n) a v rest wish [] ramp may leaves = absurd (omega (arith, may))
gone_on_kept places (suc n) a v rest wish (head ∷ legs) ramp may leaves =
    let h = may (omega arith) in
    let own = h.same in
    let short = leaves (omega arith) in
    let way = suc n * v in
    let leg = All-head IsLeg head legs ramp.each in
    let least : v - max head.change a ≡ v - a = omega (arith, own) in
    record {
      last_greatest = ramp.last_greatest;
      rate_greatest = ramp.rate_greatest;
      few = ramp.few;
      each = ramp.each;
      left = (omega (arith, short), omega (arith, ramp.left.1));
      kept = record {
        bounded = omega (arith, h.within, bound_after head rest way ramp.left.1 (omega (arith, short)));
        braked = λ some. head_brakes a (v - max head.change a) (v - a) (rest - way) head legs (omega (arith, own, leg.change)) own least (omega (arith, short));
      };
    }

pub gone_on_ramp : (r : RampState) (wish n : ℕ) → IsRamp r → MayGoOnOn r.legs r wish n → (0 < n → n * r.rate + braking (r.rate - r.last_change) r.last_change < r.rest) →
    IsRamp (gone_on r n)
gone_on_ramp r wish n ramp may leaves = gone_on_kept r.room n r.last_change r.rate r.rest wish r.legs ramp may leaves

goes_on_so : (places n a v rest wish : ℕ) (legs : List Leg) → IsRamp (record { last_change = a; rate = v; rest = rest; legs = legs; room = places }) →
    MayGoOnOn legs (record { last_change = a; rate = v; rest = rest; legs = legs; room = places }) wish n →
    Ticks n (record { last_change = a; rate = v; rest = rest; legs = legs; room = places }) wish
    (record { last_change = a; rate = v; rest = rest - n * v; legs = legs; room = places })
goes_on_so places zero a v rest wish legs ramp may =
    let left : rest - 0 * v ≡ rest = omega arith in
    ap (λ l. record { last_change = a; rate = v; rest = l; legs = legs; room = places }) left
goes_on_so places (suc n) a v rest wish [] ramp may = absurd (omega (arith, may))
goes_on_so places (suc n) a v rest wish (head ∷ legs) ramp may =
    let h = may (omega arith) in
    let leg = All-head IsLeg head legs ramp.each in
    some_even (suc n) a v rest head legs places wish (omega (arith, h.same, leg.change)) ramp.left.1 h

pub lasting : (r : RampState) (wish n : ℕ) → IsRamp r → MayGoOnOn r.legs r wish n → Ticks n r wish (gone_on r n)
lasting r wish n ramp may = goes_on_so r.room n r.last_change r.rate r.rest wish r.legs ramp may

-- ---- slowing down for what is ahead

chosen_low : (a v rest wish : ℕ) (head : Leg) (legs : List Leg) (room : ℕ) → 1 ≤ a → a ≡ head.change → 2 * a ≤ v → v + a ≤ wish →
    v + a ≤ tick_bound head rest → v + a < rest →
    rest + div_ceil (beyond a head.exit legs) a ≤ braking (v + a) a → chosen_rate (on_legs a v rest head legs room) wish head legs ≡ v - a
chosen_low a v rest wish head legs room some same fast wished within near short =
    let high : highest_rate (on_legs a v rest head legs room) wish head ≡ v + head.change = omega (arith, same, fast, wished, within) in
    let none = too_far (v + head.change) rest head legs (omega (arith, some, same)) (omega (arith, near, same))
    (subst (λ c. rest + div_ceil (beyond c head.exit legs) c ≤ braking (v + c) c) same short) in
    let least : max (v - max head.change a) (min (min (min (v + head.change) head.change) head.exit) rest) ≡ v - a = omega (arith, fast, same) in
    ap (λ h. cond (can_brake h rest head legs) h (max (v - max head.change a) (min (min (min h head.change) head.exit) rest))) high
    ∙ ap (λ b. cond b (v + head.change) (max (v - max head.change a) (min (min (min (v + head.change) head.change) head.exit) rest))) none ∙ least

-- d is how far beyond the head the braking distance may end
first_short : (n a rest d needed : ℕ) → rest + d + 2 * (suc n * a) ≤ needed + 2 * a → rest + d ≤ needed
first_short n a rest d needed short = omega (arith, short)

later_short : (n a v rest d : ℕ) → 1 ≤ a → 2 * a ≤ v → v - a ≤ rest → rest + d + 2 * (suc n * a) ≤ braking (v + a) a + 2 * a →
    rest - (v - a) + d + 2 * (n * a) ≤ braking v a + 2 * a
later_short n a v rest d some fast less short =
    let first = braking_step (v + a) a some in
    let up : v + a - a ≡ v = omega arith in
    let here = ap (λ x. braking x a) up in
    omega (arith, short, first, here, fast, less)

later_brake : (n a v rest : ℕ) (head : Leg) (legs : List Leg) (wish : ℕ) → 1 ≤ a → rest ≤ head.millionths → MayBrake a v rest head legs wish (suc n) →
    MayBrake a (v - a) (rest - (v - a)) head legs wish n
later_brake n a v rest head legs wish some within may =
    let step = fall_step n v a (omega (arith, may.fast)) in
    let back : v - a + a ≡ v = omega (arith, may.fast) in
    let bound = bound_after head rest (v - a) within (omega (arith, may.on_head, step)) in
    record {
      same = may.same;
      wished = omega (arith, back, may.wished);
      within = omega (arith, back, may.within, bound);
      fast = omega (arith, may.fast);
      on_head = omega (arith, may.on_head, step);
      short = subst (λ x. rest - (v - a) + div_ceil (beyond a head.exit legs) a + 2 * (n * a) ≤ braking x a + 2 * a) (sym back)
          (later_short n a v rest (div_ceil (beyond a head.exit legs) a) some (omega (arith, may.fast)) (omega (arith, may.on_head, step)) may.short);
    }

pub brakes_down : BrakesDown
brakes_down zero a v rest head legs room wish some within may =
    let rate : v ≡ v - 0 * a = omega arith in
    let left : rest ≡ rest - fall 0 v a = omega arith in
    ap₂ (λ r l. on_legs a r l head legs room) rate left
brakes_down (suc n) a v rest head legs room wish some within may =
    let step = fall_step n v a (omega (arith, may.fast)) in
    let low = chosen_low a v rest wish head legs room some may.same (omega (arith, may.fast)) may.wished may.within (omega (arith, may.on_head, step, may.fast))
    (first_short n a rest (div_ceil (beyond a head.exit legs) a) (braking (v + a) a) may.short) in
    let mid = ap (λ x. after_tick (on_legs a v rest head legs room) head legs x) low
    ∙ on_head a v rest (v - a) head legs room may.same (omega (arith, may.on_head, step)) in
    let rate : v - a - n * a ≡ v - suc n * a = omega arith in
    let left : rest - (v - a) - fall n (v - a) a ≡ rest - fall (suc n) v a = omega (arith, step) in
    ap (λ s. after_ticks n s wish) mid
    ∙ brakes_down n a (v - a) (rest - (v - a)) head legs room wish some (omega (arith, within)) (later_brake n a v rest head legs wish some within may)
    ∙ ap₂ (λ r l. on_legs a r l head legs room) rate left

-- ---- the choice of a rate

chosen_by : (b : Bool) (places a r rest wish c v : ℕ) (h : Leg) (ls : List Leg) → IsRamp (on_legs a r rest h ls places) →
    c ≡ min (min (r + h.change) (max wish (r - max h.change a))) (tick_bound h rest) → can_brake c rest h ls ≡ b →
    v ≡ cond b c (max (r - max h.change a) (min (min (min c h.change) h.exit) rest)) →
    MayTick (on_legs a r rest h ls places) wish h ls v × IsRamp (after_tick (on_legs a r rest h ls places) h ls v)
chosen_by true places a r rest wish c v h ls ramp highest brakes same =
    let leg = All-head IsLeg h ls ramp.each in
    let within = tick_bound_greatest h rest in
    let may = may_go_fast places a r rest wish (tick_bound h rest) c h ls ramp.each refl ramp.kept.bounded highest brakes in
    let kept = ramp_after places a r rest c h ls ramp (omega (arith, highest, within, leg.bound_greatest)) (omega (arith, highest, within)) (λ fast. brakes) in
    let old = on_legs a r rest h ls places in
    (subst (λ x. MayTick old wish h ls x) (sym same) may, subst (λ x. IsRamp (after_tick old h ls x)) (sym same) kept)
chosen_by false places a r rest wish c v h ls ramp highest none same =
    let leg = All-head IsLeg h ls ramp.each in
    let within = tick_bound_greatest h rest in
    let may = may_go_slow places a r rest wish (tick_bound h rest) c v h ls ramp.each refl ramp.kept.bounded ramp.kept.braked highest none same in
    let suits = slow_suits (r - max h.change a) (min c h.change) rest v h ls ramp.kept.braked (omega arith) (omega (arith, same)) in
    let high : v ≤ c = omega (arith, same, highest, ramp.kept.bounded) in (
      may,
      ramp_after places a r rest v h ls ramp (omega (arith, high, highest, within, leg.bound_greatest)) (omega (arith, high, highest, within))
          (λ fast. suits_fast rest v h ls suits fast),
    )

pub chooses_well : ChoosesWell
chooses_well a v rest head legs room wish ramp =
    let c = highest_rate (on_legs a v rest head legs room) wish head in
    let both = chosen_by (can_brake c rest head legs) room a v rest wish c (chosen_rate (on_legs a v rest head legs room) wish head legs) head legs ramp refl refl refl in
    record { may = both.0; kept = both.1 }

pub may_brake_down : MayBrakeDown
may_brake_down zero a v rest head legs room wish ramp may =
    let rate : v - 0 * a ≡ v = omega arith in
    let left : rest - fall 0 v a ≡ rest = omega arith in
    let old = on_legs a v rest head legs room in
    let new = on_legs a (v - 0 * a) (rest - fall 0 v a) head legs room in
    let same : new ≡ old = ap₂ (λ r l. on_legs a r l head legs room) rate left in
    (same, subst IsRamp {x = old} {y = new} (sym same) ramp)
may_brake_down (suc n) a v rest head legs room wish ramp may =
    let leg = All-head IsLeg head legs ramp.each in
    let some : 1 ≤ a = omega (arith, may.same, leg.change) in
    let step = fall_step n v a (omega (arith, may.fast)) in
    let low = chosen_low a v rest wish head legs room some may.same (omega (arith, may.fast)) may.wished may.within (omega (arith, may.on_head, step, may.fast))
    (first_short n a rest (div_ceil (beyond a head.exit legs) a) (braking (v + a) a) may.short) in
    let choice = chooses_well a v rest head legs room wish ramp in
    let less : v - a < rest = omega (arith, may.on_head, step) in
    let old = on_legs a v rest head legs room in
    let mid = on_legs a (v - a) (rest - (v - a)) head legs room in
    let chosen = after_tick old head legs (chosen_rate old wish head legs) in
    let allowed = subst (λ x. MayTick old wish head legs x) low choice.may in
    let tick = one_tick a v rest (v - a) head legs room wish may.same less allowed in
    let here : chosen ≡ mid = ap (λ x. after_tick old head legs x) low ∙ on_head a v rest (v - a) head legs room may.same less in
    let kept = subst IsRamp {x = chosen} {y = mid} here choice.kept in
    let others = may_brake_down n a (v - a) (rest - (v - a)) head legs room wish kept (later_brake n a v rest head legs wish some ramp.left.1 may) in
    let rate : v - a - n * a ≡ v - suc n * a = omega arith in
    let left : rest - (v - a) - fall n (v - a) a ≡ rest - fall (suc n) v a = omega (arith, step) in
    let there = on_legs a (v - a - n * a) (rest - (v - a) - fall n (v - a) a) head legs room in
    let new = on_legs a (v - suc n * a) (rest - fall (suc n) v a) head legs room in
    let same : there ≡ new = ap₂ (λ r l. on_legs a r l head legs room) rate left in (
      (mid, tick, subst (λ s. Ticks n mid wish s) {x = there} {y = new} same others.0),
      subst IsRamp {x = there} {y = new} same others.1,
    )

-- ---- the ramp after ticks that slow down

fall_most : (n v a : ℕ) → fall n v a ≤ n * v
fall_most n v a = omega arith

-- the products of a fall are small
pub fall_small : (n v a : ℕ) → n ≤ 1000000 → v ≤ 1000000 → n * a ≤ v → (n * v ≤ 1000000 * 1000000) × (n * (n + 1) ≤ 1000000 * 1000001) × (a * (n * (n + 1) / 2) ≤ n * v)
fall_small n v a few rate low =
    let way = mul-le n v 1000000 1000000 few rate in
    let sum = mul-le n (n + 1) 1000000 1000001 few (omega (arith, few)) in
    let short = mul-le (n * (n + 1) / 2) a (n * n) a (triangle_short n) (omega arith) in
    let far = mul-le (n * a) n v n low (omega arith) in
    (way, sum, omega (arith, short, far))

pub may_fall_to : (n a v rest d needed : ℕ) → 1 ≤ a → 1 ≤ v → needed ≡ braking (v + a) a + 2 * a → 0 < n → n ≤ v / a - 1 → n ≤ (rest - (2 * a + 1)) / v →
    n ≤ (needed - min 18446744073709551615 (rest + d)) / (2 * a) → needed < 18446744073709551615 → MayFallTo a v rest d n
may_fall_to n a v rest d needed some moves is one fast near short small =
    let p = mul-le (n + 1) a (v / a) a (omega (arith, fast, one)) (omega arith) in
    let q = div-mul-le_self v a in
    let r = mul-le n v ((rest - (2 * a + 1)) / v) v near (omega arith) in
    let s = div-mul-le_self (rest - (2 * a + 1)) v in
    let t = mul-le n (2 * a) ((needed - min 18446744073709551615 (rest + d)) / (2 * a)) (2 * a) short (omega arith) in
    let u = div-mul-le_self (needed - min 18446744073709551615 (rest + d)) (2 * a) in
    let step = mul-le 1 1 n v one moves in
    let some_steps = mul-le 1 1 n a one some in
    let most = fall_most n v a in
    record {
      fast = omega (arith, p, q);
      on_head = omega (arith, r, s, step, most);
      short = omega (arith, t, u, some_steps, is, small);
    }

pub braking_small : (v a : ℕ) → v ≤ 1000000 → 1 ≤ a → a ≤ 1000000 → braking v a ≤ 2000000 * 1000000
braking_small v a slow some short =
    let whole = brakes_in v a some in
    let few = few_ticks v a slow short in
    omega (arith, whole, few)

pub may_brake_as : (r : RampState) (head : Leg) (legs : List Leg) (wish n : ℕ) → r.legs ≡ head ∷ legs →
    (1 ≤ n → MayBrake r.last_change r.rate r.rest head legs wish n) → MayBrakeOn r.legs r wish n
may_brake_as r head legs wish n were may = subst (λ ls. MayBrakeOn ls r wish n) (sym were) may

fallen_by : (places n a v rest wish : ℕ) (legs : List Leg) → IsRamp (record { last_change = a; rate = v; rest = rest; legs = legs; room = places }) →
    MayBrakeOn legs (record { last_change = a; rate = v; rest = rest; legs = legs; room = places }) wish n →
    Ticks n (record { last_change = a; rate = v; rest = rest; legs = legs; room = places }) wish
    (record { last_change = a; rate = v - n * a; rest = rest - fall n v a; legs = legs; room = places })
    × IsRamp (record { last_change = a; rate = v - n * a; rest = rest - fall n v a; legs = legs; room = places })
fallen_by places zero a v rest wish legs ramp may =
    let rate : v - 0 * a ≡ v = omega arith in
    let left : rest - fall 0 v a ≡ rest = omega arith in
    let old : RampState = record { last_change = a; rate = v; rest = rest; legs = legs; room = places } in
    let new : RampState = record { last_change = a; rate = v - 0 * a; rest = rest - fall 0 v a; legs = legs; room = places } in
    let same : new ≡ old = ap₂ (λ x l. record { last_change = a; rate = x; rest = l; legs = legs; room = places }) rate left in
    (same, subst IsRamp {x = old} {y = new} (sym same) ramp)
fallen_by places (suc n) a v rest wish [] ramp may = absurd (omega (arith, may))
fallen_by places (suc n) a v rest wish (head ∷ legs) ramp may = may_brake_down (suc n) a v rest head legs places wish ramp (may (omega arith))

pub falls : (r : RampState) (wish n : ℕ) → IsRamp r → MayBrakeOn r.legs r wish n → Ticks n r wish (fallen r n) × IsRamp (fallen r n)
falls r wish n ramp may = fallen_by r.room n r.last_change r.rate r.rest wish r.legs ramp may

falls_by : (legs : List Leg) (r : RampState) (wish n : ℕ) → MayBrakeOn legs r wish n → (n * r.last_change ≤ r.rate) × (fall n r.rate r.last_change ≤ r.rest)
falls_by legs r wish zero may = (omega arith, omega arith)
falls_by [] r wish (suc n) may = absurd (omega (arith, may))
falls_by (head ∷ legs) r wish (suc n) may = let h = may (omega arith) in (omega (arith, h.fast), omega (arith, h.on_head))

-- a stretch that slows down is short enough
pub falls_within : (r : RampState) (wish n : ℕ) → MayBrakeOn r.legs r wish n → (n * r.last_change ≤ r.rate) × (fall n r.rate r.last_change ≤ r.rest)
falls_within r wish n may = falls_by r.legs r wish n may

pub may_brake_by : (n a v rest wish d : ℕ) (head : Leg) (legs : List Leg) → a ≡ head.change → v + a ≤ wish → v + a ≤ tick_bound head rest →
    d ≡ div_ceil (min GREATEST (beyond a head.exit legs)) a → v + a ≤ 1000000 → 1 ≤ a → MayFallTo a v rest d n → MayBrake a v rest head legs wish n
may_brake_by n a v rest wish d head legs same wished within is low some may =
    let small = braking_small (v + a) a low some (omega (arith, low)) in
    let short = may.short in
    let whole = ceil_capped (beyond a head.exit legs) a d (braking (v + a) a + 2 * a) some (omega (arith, low)) is (omega (arith, short)) (omega (arith, small, low)) in
    record {
      same = same;
      wished = wished;
      within = within;
      fast = may.fast;
      on_head = may.on_head;
      short = subst (λ x. rest + x + 2 * (n * a) ≤ braking (v + a) a + 2 * a) whole short;
    }
