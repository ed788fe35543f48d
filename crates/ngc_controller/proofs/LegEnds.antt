-- Ticks of a ramp on its first leg.
use Rattle.std.proofs.Common.{◌≡◌, ℕ, zero, suc, ◌+◌, ◌-◌, ◌≤◌, ◌<◌, List, [], ◌∷◌, length, Bool, true, false, refl, ap, sym, subst, ◌∙◌, arith}
use Rattle.std.specs.Prelude.{◌≢◌, nat_lt, if◌then◌else◌}
use Rattle.std.specs.List.{All}
use Rattle.std.proofs.lemmas.List.Elements.{All-head}
use Rattle.ngc_braking.specs.declared.leg.Leg.{Leg}
use Rattle.ngc_braking.specs.Leg.{IsLeg}
use Rattle.ngc_planner.specs.Ramp.{RampState, IsRamp, MayTick, TicksTo, next_rest}
use Rattle.ngc_planner.specs.Stretches.{TicksFrom, Ticks}
use Rattle.ngc_controller.specs.Finishing.{EndsBy, EndsLeg}
use Rattle.ngc_controller.proofs.HeadLaws.{Goes, goes, ends}

-- ---- one tick after the other

pub ticks_joined : (n k : ℕ) (r m q : RampState) (wish : ℕ) → Ticks n r wish m → Ticks k m wish q → Ticks (n + k) r wish q
ticks_joined zero k r m q wish h more =
    let none : k ≡ zero + k = omega arith in
    subst (λ i. Ticks i r wish q) none (subst (λ x. Ticks k x wish q) h more)
ticks_joined (suc n) k r m q wish h more =
    let one : suc (n + k) ≡ suc n + k = omega arith in
    subst (λ i. Ticks i r wish q) one (h.0, h.1, ticks_joined n k h.0 m q wish h.2 more)

pub one_more_tick : (n k : ℕ) (r m q : RampState) (wish : ℕ) → Ticks n r wish m → TicksFrom m.legs m wish q → k ≡ n + 1 → Ticks k r wish q
one_more_tick n k r m q wish h t is =
    subst (λ i. Ticks i r wish q) (sym is) (ticks_joined n (suc zero) r m q wish h (q, t, refl))

-- ---- no tick adds a leg

few_by : (b : Bool) (s t : RampState) (n : ℕ) → length s.legs ≤ n → length t.legs ≤ n → length (if b then s else t).legs ≤ n
few_by true s t n p q = p
few_by false s t n p q = q

one_shorter : (xs : List Leg) (r : RampState) (wish : ℕ) (q : RampState) → xs ≡ r.legs → TicksFrom xs r wish q → length q.legs ≤ length xs
one_shorter [] r wish q e h = absurd h
one_shorter (head ∷ legs) r wish q e h =
    let v = h.0 in
    let here : length r.legs ≤ length (head ∷ legs) = omega (arith, ap length e) in
    let next = ap (λ (x : RampState). length x.legs) h.3.next in
    let few = few_by (nat_lt v r.rest) (record r { last_change = head.change; rate = v; rest = r.rest - v })
    (record r { last_change = head.change; rate = v; rest = next_rest (v - r.rest) legs; legs = legs })
    (length (head ∷ legs)) here (omega arith) in
    omega (arith, next, few)

pub ticks_shorter : (n : ℕ) (r : RampState) (wish : ℕ) (q : RampState) → Ticks n r wish q → length q.legs ≤ length r.legs
ticks_shorter zero r wish q h = omega (arith, ap (λ (x : RampState). length x.legs) h)
ticks_shorter (suc n) r wish q h = omega (arith, one_shorter r.legs r wish h.0 refl h.1, ticks_shorter n h.0 wish q h.2)

-- so a tick with no fewer legs after it doesn't end the first one
pub tick_stays : (r q : RampState) (wish v : ℕ) (due ended : Bool) (head : Leg) (legs : List Leg) → r.legs ≡ head ∷ legs →
    TicksTo r wish head legs v due ended q → length r.legs ≤ length q.legs → (ended ≡ false) × Goes r q head.change v
tick_stays r q wish v due true head legs e t long = absurd
    (let there = ends r q head legs v true t.ends refl t.next in
    omega (arith, ap length e, ap length there.legs, long))
tick_stays r q wish v due false head legs e t long = (refl, goes r q head legs v false t.ends refl t.next)

-- ---- and each travels some distance

-- n ticks on the first leg
pub record StaysOnLeg (n : ℕ) (r q : RampState) : Type 0 where
  pub fewer : n + q.rest ≤ r.rest
  pub room : q.room ≡ r.room

some_travel : (r : RampState) (wish v : ℕ) (head : Leg) (legs : List Leg) → 1 ≤ wish → IsLeg head → MayTick r wish head legs v → v < r.rest → 1 ≤ v
some_travel r wish v head legs some leg may less = omega (arith, may.at_least, leg.change, leg.bound, leg.entry, leg.exit, some, less)

pub stays_on_leg : (n : ℕ) (r q : RampState) (wish : ℕ) (head : Leg) (legs : List Leg) → 1 ≤ wish → IsLeg head → r.legs ≡ head ∷ legs →
    q.legs ≡ r.legs → Ticks n r wish q → StaysOnLeg n r q
stays_on_leg zero r q wish head legs some leg e same h = record {
  fewer = omega (arith, ap (λ (x : RampState). x.rest) h);
  room = ap (λ (x : RampState). x.room) h;
}
stays_on_leg (suc n) r q wish head legs some leg e same h =
    let mid = h.0 in
    let first : TicksFrom (head ∷ legs) r wish mid = subst (λ xs. TicksFrom xs r wish mid) e h.1 in
    let long = ticks_shorter n mid wish q h.2 in
    let g = (tick_stays r mid wish first.0 first.1 first.2 head legs e first.3 (omega (arith, long, ap length same))).1 in
    let some_way = some_travel r wish first.0 head legs some leg first.3.may g.less in
    let more = stays_on_leg n mid q wish head legs some leg (g.legs ∙ e) (same ∙ sym g.legs) h.2 in
    record {
      fewer = omega (arith, more.fewer, g.rest, g.less, some_way);
      room = more.room ∙ g.room;
    }

-- the first leg of a ramp that has one
first_of : (xs : List Leg) → (xs ≡ [] → ⊥) → (head : Leg) × (legs : List Leg) × (xs ≡ head ∷ legs)
first_of [] some = absurd (some refl)
first_of (x ∷ xs) some = (x, xs, refl)

-- ---- the loop

abbrev pub TicksOn : RampState → ℕ → ℕ → Bool → Bool → RampState → Type 0
TicksOn m wish v due ended q = (head : Leg) (legs : List Leg) → m.legs ≡ head ∷ legs → TicksTo m wish head legs v due ended q

-- n ticks, one more, and k more
pub record GoesFurther (n k : ℕ) (r m z : RampState) (wish : ℕ) : Type 0 where
  pub goes : Ticks (n + 1 + k) r wish z
  pub same : z.legs ≡ r.legs
  pub fewer : 1 + k + z.rest ≤ m.rest

pub goes_further : (n k : ℕ) (r m q z : RampState) (wish v : ℕ) (due ended : Bool) → 1 ≤ wish → IsRamp m → r.legs ≢ [] → Ticks n r wish m → m.legs ≡ r.legs →
    TicksOn m wish v due ended q → ended ≡ false → Ticks k q wish z → z.legs ≡ q.legs → GoesFurther n k r m z wish
goes_further n k r m q z wish v due ended some ramp any before same tick stays more kept =
    let f = first_of m.legs (λ none. any (sym same ∙ none)) in
    let head = f.0 in
    let legs = f.1 in
    let t = tick head legs f.2 in
    let g = goes m q head legs v ended t.ends stays t.next in
    let leg : IsLeg head = All-head IsLeg head legs (subst (λ xs. All IsLeg xs) f.2 ramp.each) in
    let one : TicksFrom m.legs m wish q = subst (λ xs. TicksFrom xs m wish q) (sym f.2) (v, due, ended, t) in
    let some_way = some_travel m wish v head legs some leg t.may g.less in
    let on = stays_on_leg k q z wish head legs some leg (g.legs ∙ f.2) kept more in
    record {
      goes = ticks_joined (n + 1) k r q z wish (one_more_tick n (n + 1) r m q wish before one refl) more;
      same = kept ∙ g.legs ∙ same;
      fewer = omega (arith, on.fewer, g.rest, g.less, some_way);
    }

pub ends_leg : (n : ℕ) (r m q : RampState) (wish v : ℕ) (due ended : Bool) → r.legs ≢ [] → Ticks n r wish m → m.legs ≡ r.legs →
    TicksOn m wish v due ended q → ended ≡ true → EndsLeg (n + 1) r wish q
ends_leg n r m q wish v due ended any before same tick done =
    let f = first_of m.legs (λ none. any (sym same ∙ none)) in
    let t : TicksTo m wish f.0 f.1 v due true q = subst (λ b. TicksTo m wish f.0 f.1 v due b q) done (tick f.0 f.1 f.2) in
    record {
      before = n;
      count = omega arith;
      mid = m;
      ticks = before;
      same = same;
      last = subst (λ xs. EndsBy xs m wish q) (sym f.2) (v, due, t);
    }
