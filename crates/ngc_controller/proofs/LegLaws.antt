-- The ring's motions as legs of the ramp.
use Rattle.std.proofs.Common.{◌≡◌, ℕ, suc, ◌+◌, ◌-◌, ◌≤◌, ◌<◌, List, [], ◌∷◌, ◌++◌, length, Bool, true, false, cond, refl, ap, sym, subst, ◌∙◌, inl, inr, arith}
use Rattle.std.specs.Prelude.{nat_lt, ◌&&◌, not}
use Rattle.std.proofs.lemmas.Bool.{cases_lt, lt-ltb, le-ltb}
use Rattle.std.proofs.lemmas.Bool.Decides.{nat_tests}
use Rattle.ngc_braking.specs.declared.leg.Leg.{Leg}
use Rattle.ngc_fixed_length.specs.Limits.{MILLION}
use Rattle.ngc_braking.specs.Reach.{ahead}
use Rattle.ngc_planner.specs.Ramp.{RampState, IsRest, next_rest, loaded, rest_with}
use Rattle.ngc_machine_model.specs.State.{Job, Queued, path_steps, millionths}
use Rattle.ngc_machine_model.specs.Reach.{stops, continues_into, leg_of, legs_after}
use Rattle.ngc_machine_model.proofs.RampFit.{unjoined, no_more_legs, last_behind, one_more, none_more}
use Rattle.ngc_controller.specs.Drive.{continues_travel, last_flows_on, legs_of, with_one_more}
use Rattle.ngc_controller.specs.Fields.{travelled_of}
use Rattle.ngc_controller.specs.Ring.{IsMoving}

-- ---- whether or not the head is a motion with path steps

pub moving_legs : (job : Job) (k : ℕ) (joined : Bool) (l : Queued) (ls : List Queued) → 1 ≤ path_steps l →
    legs_of job k joined (l ∷ ls) ≡ leg_of job k joined l ∷ legs_after job (suc k) l ls
moving_legs job k joined l ls some =
    ap (λ b. cond b (leg_of job k joined l ∷ legs_after job (suc k) l ls) (legs_after job (suc k) l ls)) (lt-ltb 0 (path_steps l) some)

pub still_legs : (job : Job) (k : ℕ) (joined : Bool) (l : Queued) (ls : List Queued) → path_steps l ≤ 0 →
    legs_of job k joined (l ∷ ls) ≡ legs_after job (suc k) l ls
still_legs job k joined l ls none =
    ap (λ b. cond b (leg_of job k joined l ∷ legs_after job (suc k) l ls) (legs_after job (suc k) l ls)) (le-ltb 0 (path_steps l) none)

pub moving_travelled : (l : Queued) (ls : List Queued) (rest : ℕ) → 1 ≤ path_steps l → travelled_of (l ∷ ls) rest ≡ millionths l - rest
moving_travelled l ls rest some = ap (λ b. cond b (millionths l - rest) 0) (lt-ltb 0 (path_steps l) some)

pub still_travelled : (l : Queued) (ls : List Queued) (rest : ℕ) → path_steps l ≤ 0 → travelled_of (l ∷ ls) rest ≡ 0
still_travelled l ls rest none = ap (λ b. cond b (millionths l - rest) 0) (le-ltb 0 (path_steps l) none)

-- ---- what follows the head

pub behind_is : (job : Job) (k : ℕ) (l : Queued) (ls : List Queued) → (joined : Bool) × (legs_after job k l ls ≡ legs_of job k joined ls)
behind_is job k l [] = (false, refl)
behind_is job k l (m ∷ ms) = (continues_into l m, refl)

few_by : (b : Bool) (x : Leg) (xs : List Leg) (n : ℕ) → length xs ≤ n → length (cond b (x ∷ xs) xs) ≤ suc n
few_by true x xs n h = omega arith
few_by false x xs n h = omega arith

pub few_legs : (job : Job) (k : ℕ) (joined : Bool) (ring : List Queued) → length (legs_of job k joined ring) ≤ length ring
few_legs job k joined [] = omega arith
few_legs job k joined (l ∷ ls) =
    few_by (nat_lt 0 (path_steps l)) (leg_of job k joined l) (legs_after job (suc k) l ls) (length ls) (no_more_legs job (suc k) l ls)

rest_by : (b : Bool) (m : Queued) (x : Leg) (xs : List Leg) (over : ℕ) → b ≡ nat_lt 0 (path_steps m) → x.millionths ≡ millionths m → over < MILLION →
    IsRest (next_rest over xs) xs →
    IsRest (next_rest over (cond b (x ∷ xs) xs)) (cond b (x ∷ xs) xs)
rest_by true m x xs over test same few h = let some : 0 < path_steps m = grind (arith, nat_tests) in (omega arith, omega arith)
rest_by false m x xs over test same few h = h

-- part of the first leg after the head remains, whatever a tick has beyond its end
pub behind_left : (job : Job) (k : ℕ) (l : Queued) (ls : List Queued) (over : ℕ) → over < MILLION →
    IsRest (next_rest over (legs_after job k l ls)) (legs_after job k l ls)
behind_left job k l [] over few = refl
behind_left job k l (m ∷ ms) over few = rest_by (nat_lt 0 (path_steps m)) m (leg_of job k (continues_into l m) m) (legs_after job (suc k) m ms) over refl refl few
    (behind_left job (suc k) m ms over few)

-- no leg is joined to the head if the next command is no motion with path steps
pub none_ahead : (job : Job) (k : ℕ) (l : Queued) (ls : List Queued) → (IsMoving ls → ⊥) → ahead (legs_after job k l ls) ≡ 0
none_ahead job k l [] still = refl
none_ahead job k l (m ∷ ms) still =
    let none : path_steps m ≤ 0 = elim (cases_lt 0 (path_steps m)) [ inl more ↦ absurd (still more) | inr zero ↦ zero ] in
    ap (λ b. ahead (cond b (leg_of job k (continues_into l m) m ∷ legs_after job (suc k) m ms) (legs_after job (suc k) m ms))) (le-ltb 0 (path_steps m) none)
    ∙ unjoined job (suc k) m ms (inl (omega (arith, none)))

-- ---- the distance travelled on a head, if this distance is travelled on the first leg

pub travelled_over : (job : Job) (k : ℕ) (joined : Bool) (ring : List Queued) (r : RampState) (over : ℕ) → r.legs ≡ legs_of job k joined ring →
    r.rest ≡ next_rest over r.legs → over < MILLION → ((IsMoving ring → ⊥) → over ≡ 0) → travelled_of ring r.rest ≡ over
travelled_over job k joined [] r over legs rest few slow = sym (slow (λ h. h))
travelled_over job k joined (l ∷ ls) r over legs rest few slow = elim (cases_lt 0 (path_steps l)) [
  | inl more ↦ (
      let left : r.rest ≡ millionths l - over = rest ∙ ap (λ ks. next_rest over ks) (legs ∙ moving_legs job k joined l ls more) in
      let at = moving_travelled l ls r.rest more in
      omega (arith, left, at, more))
  | inr none ↦ (still_travelled l ls r.rest none ∙ sym (slow (λ h. omega (arith, h, none))))
]

-- ---- one more command

moving_more : (job : Job) (k : ℕ) (joined : Bool) (q : Queued) (r : RampState) → 1 ≤ path_steps q →
    with_one_more job k joined q r ≡ loaded r (leg_of job k joined q)
moving_more job k joined q r some = ap (λ b. cond b (loaded r (leg_of job k joined q)) r) (lt-ltb 0 (path_steps q) some)

still_more : (job : Job) (k : ℕ) (joined : Bool) (q : Queued) (r : RampState) → path_steps q ≤ 0 → with_one_more job k joined q r ≡ r
still_more job k joined q r none = ap (λ b. cond b (loaded r (leg_of job k joined q)) r) (le-ltb 0 (path_steps q) none)

-- the last command decides whether the axes continue
last_is : (l : Queued) (ls : List Queued) → last_flows_on (continues_travel l) ls ≡ continues_travel (last_behind l ls)
last_is l [] = refl
last_is l (m ∷ ms) = last_is m ms

pub last_of_more : (b : Bool) (ring : List Queued) (q : Queued) → last_flows_on b (ring ++ q ∷ []) ≡ continues_travel q
last_of_more b [] q = refl
last_of_more b (l ∷ ls) q = last_of_more (continues_travel l) ls q

pub last_of_rest : (b : Bool) (l : Queued) (ls : List Queued) → b ≡ last_flows_on b (l ∷ ls) → b ≡ last_flows_on b ls
last_of_rest b l [] h = refl
last_of_rest b l (m ∷ ms) h = h

into_is : (a s c : Bool) → c ≡ true → (a && (s && c)) ≡ (a && s)
into_is true true c h = h
into_is true false c h = refl
into_is false s c h = refl

more_by : (b : Bool) (x : Leg) (all some one : List Leg) → all ≡ some ++ one → cond b (x ∷ all) all ≡ cond b (x ∷ some) some ++ one
more_by true x all some one e = ap (λ xs. x ∷ xs) e
more_by false x all some one e = e

same_by : (b : Bool) (x : Leg) (all some : List Leg) → all ≡ some → cond b (x ∷ all) all ≡ cond b (x ∷ some) some
same_by b x all some e = ap (λ xs. cond b (x ∷ xs) xs) e

joined_legs : (job : Job) (k : ℕ) (joined on : Bool) (l : Queued) (ls : List Queued) (q : Queued) → on ≡ last_flows_on on (l ∷ ls) → 1 ≤ path_steps q →
    legs_of job k joined (l ∷ ls ++ q ∷ []) ≡ legs_of job k joined (l ∷ ls) ++ leg_of job (k + length (l ∷ ls)) on q ∷ []
joined_legs job k joined on l ls q last some =
    let x = last_behind l ls in
    let into : continues_into x q ≡ on = into_is (nat_lt 0 (path_steps x)) (not (stops x.command.action)) (nat_lt 0 (path_steps q)) (lt-ltb 0 (path_steps q) some)
    ∙ sym (last ∙ last_is l ls) in
    let at : suc k + length ls ≡ k + length (l ∷ ls) = omega arith in
    more_by (nat_lt 0 (path_steps l)) (leg_of job k joined l) (legs_after job (suc k) l (ls ++ q ∷ [])) (legs_after job (suc k) l ls)
    (leg_of job (k + length (l ∷ ls)) on q ∷ [])
    (one_more job (suc k) l ls q some ∙ ap (λ b. legs_after job (suc k) l ls ++ leg_of job (suc k + length ls) b q ∷ []) into
    ∙ ap (λ n. legs_after job (suc k) l ls ++ leg_of job n on q ∷ []) at)

pub legs_of_more : (job : Job) (k : ℕ) (joined on : Bool) (ring : List Queued) (q : Queued) (r : RampState) → r.legs ≡ legs_of job k joined ring →
    on ≡ last_flows_on on ring →
    (b : Bool) × ((with_one_more job (k + length ring) on q r).legs ≡ legs_of job k b (ring ++ q ∷ []))
legs_of_more job k joined on [] q r legs last = elim (cases_lt 0 (path_steps q)) [
  | inl more ↦ (
    on,
    ap (λ (x : RampState). x.legs) (moving_more job (k + 0) on q r more) ∙ ap (λ ks. ks ++ leg_of job (k + 0) on q ∷ []) legs
        ∙ ap (λ n. leg_of job n on q ∷ []) (omega arith) ∙ sym (moving_legs job k on q [] more),
  )
  | inr none ↦ (on, ap (λ (x : RampState). x.legs) (still_more job (k + 0) on q r none) ∙ legs ∙ sym (still_legs job k on q [] none))
]
legs_of_more job k joined on (l ∷ ls) q r legs last = elim (cases_lt 0 (path_steps q)) [
  | inl more ↦ (
    joined,
    ap (λ (x : RampState). x.legs) (moving_more job (k + length (l ∷ ls)) on q r more) ∙ ap (λ ks. ks ++ leg_of job (k + length (l ∷ ls)) on q ∷ []) legs
        ∙ sym (joined_legs job k joined on l ls q last more),
  )
  | inr none ↦ (
    joined,
    ap (λ (x : RampState). x.legs) (still_more job (k + length (l ∷ ls)) on q r none) ∙ legs
        ∙ sym (same_by (nat_lt 0 (path_steps l)) (leg_of job k joined l) (legs_after job (suc k) l (ls ++ q ∷ [])) (legs_after job (suc k) l ls)
        (none_more job (suc k) l ls q (omega (arith, none)))),
  )
]

left_with : (rest : ℕ) (legs : List Leg) (leg : Leg) → 1 ≤ leg.millionths → IsRest rest legs → IsRest (rest_with rest legs leg) (legs ++ leg ∷ [])
left_with rest [] leg some h = (some, omega arith)
left_with rest (x ∷ xs) leg some h = h

whole_with : (rest : ℕ) (legs : List Leg) (leg : Leg) → rest ≡ next_rest 0 legs → rest_with rest legs leg ≡ next_rest 0 (legs ++ leg ∷ [])
whole_with rest [] leg h = omega arith
whole_with rest (x ∷ xs) leg h = h

-- the ramp with the leg of one more command, if it has one
pub record HasOneMore (r s : RampState) : Type 0 where
  pub last : s.last_change ≡ r.last_change
  pub places : s.room ≡ r.room
  pub rate : s.rate ≡ r.rate
  pub left : IsRest r.rest r.legs → IsRest s.rest s.legs
  pub whole : r.rest ≡ next_rest 0 r.legs → s.rest ≡ next_rest 0 s.legs

has_leg : (job : Job) (k : ℕ) (on : Bool) (q : Queued) (r : RampState) → 1 ≤ path_steps q → HasOneMore r (loaded r (leg_of job k on q))
has_leg job k on q r some = record {
  last = refl;
  places = refl;
  rate = refl;
  left = λ h. left_with r.rest r.legs (leg_of job k on q) (omega arith) h;
  whole = λ h. whole_with r.rest r.legs (leg_of job k on q) h;
}

has_none : (r : RampState) → HasOneMore r r
has_none r = record { last = refl; places = refl; rate = refl; left = λ h. h; whole = λ h. h }

pub has_one_more : (job : Job) (k : ℕ) (on : Bool) (q : Queued) (r s : RampState) → s ≡ with_one_more job k on q r → HasOneMore r s
has_one_more job k on q r s is = elim (cases_lt 0 (path_steps q)) [
  | inl more ↦ subst (λ x. HasOneMore r x) (sym (is ∙ moving_more job k on q r more)) (has_leg job k on q r more)
  | inr none ↦ subst (λ x. HasOneMore r x) (sym (is ∙ still_more job k on q r none)) (has_none r)
]

rest_behind : (rest : ℕ) (legs : List Leg) (x leg : Leg) (xs : List Leg) → legs ≡ x ∷ xs → rest_with rest legs leg ≡ rest
rest_behind rest [] x leg xs e = cc
rest_behind rest (y ∷ ys) x leg xs e = refl

same_rest : (job : Job) (k : ℕ) (on : Bool) (q : Queued) (r s : RampState) (x : Leg) (xs : List Leg) → s ≡ with_one_more job k on q r → r.legs ≡ x ∷ xs →
    s.rest ≡ r.rest
same_rest job k on q r s x xs is e = elim (cases_lt 0 (path_steps q)) [
  | inl more ↦ ap (λ (y : RampState). y.rest) (is ∙ moving_more job k on q r more) ∙ rest_behind r.rest r.legs x (leg_of job k on q) xs e
  | inr none ↦ ap (λ (y : RampState). y.rest) (is ∙ still_more job k on q r none)
]

whole_rest : (job : Job) (k : ℕ) (on : Bool) (q : Queued) (r s : RampState) → s ≡ with_one_more job k on q r → r.legs ≡ [] → 1 ≤ path_steps q →
    s.rest ≡ millionths q
whole_rest job k on q r s is e more =
    ap (λ (y : RampState). y.rest) (is ∙ moving_more job k on q r more) ∙ ap (λ ks. rest_with r.rest ks (leg_of job k on q)) e

-- nothing more is travelled
pub travelled_more : (job : Job) (k n : ℕ) (joined on : Bool) (ring : List Queued) (q : Queued) (r s : RampState) → r.legs ≡ legs_of job k joined ring →
    s ≡ with_one_more job n on q r → travelled_of (ring ++ q ∷ []) s.rest ≡ travelled_of ring r.rest
travelled_more job k n joined on [] q r s legs is = elim (cases_lt 0 (path_steps q)) [
  | inl more ↦ (let all = whole_rest job n on q r s is legs more in let at = moving_travelled q [] s.rest more in omega (arith, all, at))
  | inr none ↦ still_travelled q [] s.rest none
]
travelled_more job k n joined on (l ∷ ls) q r s legs is = elim (cases_lt 0 (path_steps l)) [
  | inl more ↦ (
      let same = same_rest job n on q r s (leg_of job k joined l) (legs_after job (suc k) l ls) is (legs ∙ moving_legs job k joined l ls more) in
      moving_travelled l (ls ++ q ∷ []) s.rest more ∙ ap (λ x. millionths l - x) same ∙ sym (moving_travelled l ls r.rest more))
  | inr none ↦ (still_travelled l (ls ++ q ∷ []) s.rest none ∙ sym (still_travelled l ls r.rest none))
]
