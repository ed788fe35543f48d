-- The summary of the motions ahead: from load to load, and as motions leave.
use Rattle.std.proofs.Common.{◌≡◌, ℕ, zero, suc, ◌+◌, ◌-◌, ◌≤◌, ◌<◌, min, List, [], ◌∷◌, ◌++◌, length, drop, cond, inl, inr, refl, sym, ap, ap₂, ◌∙◌, arith, get_or}
use Rattle.std.proofs.lemmas.Bool.{cases_Bool, cases_lt}
use Rattle.std.proofs.lemmas.List.{drop_all}
use Rattle.ngc_braking.specs.declared.leg.Leg.{Leg}
use Rattle.ngc_braking.specs.declared.outlook.Allowance.{Allowance}
use Rattle.ngc_braking.specs.Leg.{passes}
use Rattle.ngc_braking.specs.Work.{GREATEST, leg_work, slack, beyond, legs_beyond}
use Rattle.ngc_braking.specs.Outlook.{none, joint_slack, with_leg, allowed, followed, Foresees, change_at, exit_at, IsOutlook}
use Rattle.ngc_braking.proofs.BeyondLaws.{beyond_on, beyond_none}

same_allowance : (s t : Allowance) → s.least ≡ t.least → s.total ≡ t.total → s ≡ t
same_allowance s t e f = ap₂ (λ (x y : ℕ). record { least = x; total = y }) e f

-- ---- some legs, and then others

small : (a e : ℕ) (ls : List Leg) → (allowed a e ls).least ≤ GREATEST × (allowed a e ls).total ≤ GREATEST
small a e [] = (omega arith, omega arith)
small a e (l ∷ ls) = (omega arith, omega arith)

-- after none
none_followed : (t : Allowance) → t.least ≤ GREATEST → t.total ≤ GREATEST → followed none t ≡ t
none_followed t p q = same_allowance (followed none t) t (omega arith) (omega arith)

-- with a leg in front of both, whose slack is s and whose work is w
abbrev in_front : ℕ → ℕ → Allowance → Allowance
in_front s w t = record { least = min GREATEST (min s (w + t.least)); total = min GREATEST (w + t.total) }

front_followed : (x w : ℕ) (s t : Allowance) → in_front x w (followed s t) ≡ followed (in_front x w s) t
front_followed x w s t = same_allowance _ _ (omega arith) (omega arith)

leg_followed : (a e : ℕ) (l : Leg) (s t : Allowance) → with_leg a e l (followed s t) ≡ followed (with_leg a e l s) t
leg_followed a e l s t = front_followed (joint_slack a e l) (leg_work a e l) s t

abbrev change_after : ℕ → List Leg → ℕ
change_after a [] = a
change_after a (l ∷ ls) = change_after l.change ls

abbrev exit_after : ℕ → List Leg → ℕ
exit_after e [] = e
exit_after e (l ∷ ls) = exit_after l.exit ls

one_more : (a e : ℕ) (ls : List Leg) (x : Leg) →
    allowed a e (ls ++ x ∷ []) ≡ followed (allowed a e ls) (with_leg (change_after a ls) (exit_after e ls) x none)
one_more a e [] x = sym (none_followed (with_leg a e x none) (omega arith) (omega arith))
one_more a e (l ∷ ls) x =
    ap (with_leg a e l) (one_more l.change l.exit ls x)
    ∙ leg_followed a e l (allowed l.change l.exit ls) (with_leg (change_after l.change ls) (exit_after l.exit ls) x none)

-- ---- the summary

seen : (a e : ℕ) (ls : List Leg) (near : Allowance) (later : List Allowance) (far : Allowance) → Foresees a e ls near later far →
    followed near far ≡ allowed a e ls
seen a e ls near [] far h =
    let s = small a e ls in
    rw (h.0, h.1) (none_followed (allowed a e ls) s.0 s.1)
seen a e [] near (next ∷ later) far h = absurd h
seen a e (l ∷ ls) near (next ∷ later) far h =
    ap (λ t. followed t far) h.0 ∙ sym (leg_followed a e l next far) ∙ ap (with_leg a e l) (seen l.change l.exit ls next later far h.1)

loaded : (a e : ℕ) (ls : List Leg) (near : Allowance) (later : List Allowance) (far : Allowance) (x : Leg) → Foresees a e ls near later far →
    Foresees a e (ls ++ x ∷ []) near later (followed far (with_leg (change_after a ls) (exit_after e ls) x none))
loaded a e ls near [] far x h =
    (h.0, ap (λ t. followed t (with_leg (change_after a ls) (exit_after e ls) x none)) h.1 ∙ sym (one_more a e ls x))
loaded a e [] near (next ∷ later) far x h = absurd h
loaded a e (l ∷ ls) near (next ∷ later) far x h = (h.0, loaded l.change l.exit ls next later far x h.1)

no_legs : (a e b d : ℕ) (near : Allowance) (later : List Allowance) (far : Allowance) → Foresees a e [] near later far → Foresees b d [] near later far
no_legs a e b d near [] far h = h
no_legs a e b d near (next ∷ later) far h = h

last_change : (n : Leg) (ls : List Leg) → change_at (length ls) (n ∷ ls) ≡ change_after n.change ls
last_change n [] = refl
last_change n (l ∷ ls) = last_change l ls

last_exit : (n : Leg) (ls : List Leg) → exit_at (length ls) (n ∷ ls) ≡ exit_after n.exit ls
last_exit n [] = refl
last_exit n (l ∷ ls) = last_exit l ls

-- the change and the exit of a leg that is read
pub change_read : (x : Leg) (k : ℕ) (legs : List Leg) → k < length legs → x ≡ get_or legs k x → change_at k legs ≡ x.change
change_read x k [] within is = absurd (omega arith)
change_read x zero (l ∷ ls) within is = ap (λ (m : Leg). m.change) (sym is)
change_read x (suc k) (l ∷ ls) within is = change_read x k ls (omega arith) is

pub exit_read : (x : Leg) (k : ℕ) (legs : List Leg) → k < length legs → x ≡ get_or legs k x → exit_at k legs ≡ x.exit
exit_read x k [] within is = absurd (omega arith)
exit_read x zero (l ∷ ls) within is = ap (λ (m : Leg). m.exit) (sym is)
exit_read x (suc k) (l ∷ ls) within is = exit_read x k ls (omega arith) is

-- one more leg
pub add_first : (legs : List Leg) (near : Allowance) (later : List Allowance) (far : Allowance) (x : Leg) → length legs < 2 →
    IsOutlook legs near later far → IsOutlook (legs ++ x ∷ []) near later far
add_first [] near later far x few h = h
add_first (l ∷ []) near later far x few h = no_legs 0 0 x.change x.exit near later far h
add_first (l ∷ (n ∷ ls)) near later far x few h = absurd (omega arith)

-- after the last one
pub add_more : (legs : List Leg) (near : Allowance) (later : List Allowance) (far : Allowance) (x before : Leg) (k : ℕ) → 2 ≤ length legs →
    suc k ≡ length legs → before ≡ get_or legs k before → IsOutlook legs near later far →
    IsOutlook (legs ++ x ∷ []) near later (followed far (with_leg before.change before.exit x none))
add_more [] near later far x before k more at is h = absurd (omega arith)
add_more (l ∷ []) near later far x before k more at is h = absurd (omega arith)
add_more (l ∷ (n ∷ ls)) near later far x before k more at is h =
    let same : k ≡ suc (length ls) = omega arith in
    let within : k < length (l ∷ (n ∷ ls)) = omega (arith, at) in
    let change : before.change ≡ change_after n.change ls =
    sym (change_read before k (l ∷ (n ∷ ls)) within is) ∙ ap (λ m. change_at m (l ∷ (n ∷ ls))) same ∙ last_change n ls in
    let exit : before.exit ≡ exit_after n.exit ls =
    sym (exit_read before k (l ∷ (n ∷ ls)) within is) ∙ ap (λ m. exit_at m (l ∷ (n ∷ ls))) same ∙ last_exit n ls in
    rw (change, exit) (loaded n.change n.exit ls near later far x h)

-- the first leg leaves
pub leaves_to : (head : Leg) (legs : List Leg) (near next : Allowance) (later : List Allowance) (far : Allowance) →
    IsOutlook (head ∷ legs) near (next ∷ later) far → IsOutlook legs next later far
leaves_to head [] near next later far h = absurd h
leaves_to head (n ∷ []) near next later far h = absurd h
leaves_to head (n ∷ (l ∷ ls)) near next later far h = h.1

-- ---- all of them nearer ones, from the last one on

drop_read : (x : Leg) (k : ℕ) (legs : List Leg) → k < length legs → x ≡ get_or legs k x → drop k legs ≡ x ∷ drop (suc k) legs
drop_read x k [] within is = absurd (omega arith)
drop_read x zero (l ∷ ls) within is = ap (λ (m : Leg). m ∷ ls) (sym is)
drop_read x (suc k) (l ∷ ls) within is = drop_read x k ls (omega arith) is

-- y is the leg at k, and x the one before it
pub one_nearer : (i k : ℕ) (x y : Leg) (legs : List Leg) (near : Allowance) (later : List Allowance) → 1 ≤ k → k < length legs → i ≡ suc k →
    x ≡ get_or legs (k - 1) x → y ≡ get_or legs k y → Foresees (change_at (i - 1) legs) (exit_at (i - 1) legs) (drop i legs) near later none →
    Foresees (change_at (k - 1) legs) (exit_at (k - 1) legs) (drop k legs) (with_leg x.change x.exit y near) (near ∷ later) none
one_nearer i k x y legs near later some within is read_x read_y h =
    let change : change_at (i - 1) legs ≡ y.change = ap (λ n. change_at n legs) (omega arith) ∙ change_read y k legs within read_y in
    let exit : exit_at (i - 1) legs ≡ y.exit = ap (λ n. exit_at n legs) (omega arith) ∙ exit_read y k legs within read_y in
    let rest : Foresees y.change y.exit (drop (suc k) legs) near later none = rw (change, exit, is) at h in
    let before : k - 1 < length legs = omega arith in
    rw (drop_read y k legs within read_y, change_read x (k - 1) legs before read_x, exit_read x (k - 1) legs before read_x) (refl, rest)

pub none_nearer : (a e : ℕ) (legs : List Leg) (n : ℕ) → length legs ≤ n → Foresees a e (drop n legs) none [] none
none_nearer a e legs n all = rw (drop_all n legs all) (refl, refl)

pub all_nearer : (i : ℕ) (legs : List Leg) (near : Allowance) (later : List Allowance) → i ≤ 2 → min 2 (length legs) ≤ i →
    length later + i ≡ length legs → Foresees (change_at (i - 1) legs) (exit_at (i - 1) legs) (drop i legs) near later none → IsOutlook legs near later none
all_nearer i legs near later low high is h = elim (cases_lt i 2) [
  | inl few ↦ (nothing near later (omega arith) (rw (drop_all i legs (omega arith)) at h))
  | inr two ↦ (let same : i ≡ 2 = omega arith in rw same at h)
] where
  nothing : (near : Allowance) (later : List Allowance) → length legs ≤ 2 → Foresees (change_at (i - 1) legs) (exit_at (i - 1) legs) [] near later none → IsOutlook legs near later none
  nothing near later few h =
      rw (drop_all 2 legs few) (no_legs (change_at (i - 1) legs) (exit_at (i - 1) legs) (change_at 1 legs) (exit_at 1 legs) near later none h)

-- ---- how much work beyond the end of the second leg braking may use

least_of : (s w x m n : ℕ) → min GREATEST x ≡ min m n →
    min GREATEST (min s (w + x)) ≡ min (min GREATEST (min s (w + m))) (min GREATEST (w + n))
least_of s w x m n is = omega (arith, is)

beyond_is : (a e : ℕ) (ls : List Leg) → min GREATEST (beyond a e ls) ≡ min (allowed a e ls).least (allowed a e ls).total
beyond_is a e [] = omega arith
beyond_is a e (l ∷ ls) =
    let rest = beyond_is l.change l.exit ls in
    elim (cases_Bool l.joined) [
      | inl on ↦ (
          let here = beyond_on a e l ls on in
          let joint : joint_slack a e l ≡ slack (passes e l) a = ap (λ b. cond b (slack (passes e l) a) 0) on in
          let all = allowed l.change l.exit ls in
          ap (λ x. min GREATEST x) here ∙ least_of (slack (passes e l) a) (leg_work a e l) (beyond l.change l.exit ls) all.least all.total rest
          ∙ sym (ap (λ s. min (min GREATEST (min s (leg_work a e l + all.least))) (min GREATEST (leg_work a e l + all.total))) joint))
      | inr off ↦ (
          let here = beyond_none a e l ls off in
          let joint : joint_slack a e l ≡ 0 = ap (λ b. cond b (slack (passes e l) a) 0) off in
          omega (arith, here, joint))
    ]

pub beyond_seen : (legs : List Leg) (near : Allowance) (later : List Allowance) (far : Allowance) → IsOutlook legs near later far →
    min (followed near far).least (followed near far).total ≡ legs_beyond legs
beyond_seen [] near later far h = ap (λ (t : Allowance). min t.least t.total) (seen 0 0 [] near later far h)
beyond_seen (l ∷ []) near later far h = ap (λ (t : Allowance). min t.least t.total) (seen 0 0 [] near later far h)
beyond_seen (l ∷ (n ∷ ls)) near later far h =
    ap (λ (t : Allowance). min t.least t.total) (seen n.change n.exit ls near later far h) ∙ sym (beyond_is n.change n.exit ls)
