-- Counts of the ticks in which an axis steps, on motions in which it has a share of the path steps.
use Rattle.std.proofs.Common.{◌≡◌, ℕ, zero, suc, ◌+◌, ◌-◌, ◌*◌, ◌<◌, ◌≤◌, ap, subst, arith, List, [], ◌∷◌, Bool, cond}
use Rattle.std.specs.Prelude.{take, drop, count_by}
use Rattle.std.proofs.lemmas.List.Sums.{sum_by-cons}
use Rattle.std.proofs.Math.Nat.{mul-le-mul_left, le_of_mul-le-mul_left}
use Rattle.ngc_fixed_length.specs.Limits.{MILLION}
use Rattle.ngc_planner.specs.Pulses.{up_to_whole}

-- The axis has the share e / q of the path steps of a motion. It has made so many steps there, and
-- gone is e times the millionths that were travelled: both agree within the slack, in halves of a step.
abbrev pub IsNotAhead : ℕ → ℕ → ℕ → ℕ → Type 0
IsNotAhead slack q made gone = 2 * (MILLION * (q * made)) ≤ MILLION * (slack * q) + 2 * gone

abbrev pub IsNotBehind : ℕ → ℕ → ℕ → ℕ → Type 0
IsNotBehind slack q made gone = 2 * gone ≤ MILLION * (slack * q) + 2 * (MILLION * (q * made)) + 2 * ((MILLION - 1) * q)

-- at most r millionths of a step in each tick that follows
abbrev pub AreFew : {X : Type 0} → (X → Bool) → ℕ → ℕ → ℕ → ℕ → ℕ → List X → Type 0
AreFew test r slack q made gone xs =
    (n : ℕ) → 2 * (MILLION * (q * (count_by test (take n xs) + made))) ≤ 2 * (q * (n * r)) + MILLION * (slack * q) + 2 * gone

abbrev pub passes : Bool → ℕ
passes b = cond b 1 0

pub counted : {X : Type 0} (test : X → Bool) (x : X) (xs : List X) → count_by test (x ∷ xs) ≡ passes (test x) + count_by test xs
counted test x xs = sum_by-cons (λ y. cond (test y) 1 0) x xs

-- ---- a tick

pub few_none : {X : Type 0} (test : X → Bool) (r slack q made gone : ℕ) → IsNotAhead slack q made gone → AreFew test r slack q made gone []
few_none test r slack q made gone start zero = omega (arith, start)
few_none test r slack q made gone start (suc n) = omega (arith, start)

-- a tick in which the axis makes its steps on the same motion, or none
pub few_same : {X : Type 0} (test : X → Bool) (r slack q made gone next after way : ℕ) (x : X) (xs : List X) → IsNotAhead slack q made gone →
    passes (test x) + made ≤ next → after ≡ gone + way → way ≤ r * q → AreFew test r slack q next after xs → AreFew test r slack q made gone (x ∷ xs)
few_same test r slack q made gone next after way x xs start step more slow few zero = omega (arith, start)
few_same test r slack q made gone next after way x xs start step more slow few (suc n) =
    let c = counted test x (take n xs) in
    let s = mul-le-mul_left q step in
    let f = few n in
    omega (arith, f, more, slow, s, ap (λ t. q * t) c)

pub few_by : {X : Type 0} (test : X → Bool) (r slack q made gone made2 gone2 : ℕ) (xs : List X) → made ≡ made2 → gone ≡ gone2 →
    AreFew test r slack q made gone xs → AreFew test r slack q made2 gone2 xs
few_by test r slack q made gone made2 gone2 xs m g few =
    subst (λ t. AreFew test r slack q t gone2 xs) m (subst (λ t. AreFew test r slack q made t xs) g few)

-- the travel of a tick over a joint, in parts of both motions
over_joint : (r q e q2 e2 over rest : ℕ) → 0 < over + rest → (over + rest) * e ≤ r * q → over * ((over + rest) * e2) ≤ over * (r * q2) →
    over * (e2 * q) + rest * (e * q2) ≤ q * (q2 * r)
over_joint r q e q2 e2 over rest some slow slower =
    let a = mul-le-mul_left (rest * q2) slow in
    let b = mul-le-mul_left q slower in
    le_of_mul-le-mul_left {k = over + rest} (omega (arith, a, b)) some

next_product : (r slack q e t n q2 e2 over rest c p made total : ℕ) → p + made ≤ total → q * total * MILLION ≡ (t + rest) * e →
    over * (e2 * q) + rest * (e * q2) ≤ q * (q2 * r) →
    2 * (MILLION * (q2 * c)) ≤ 2 * (q2 * (n * r)) + MILLION * (slack * q2) + 2 * (over * e2) →
    q2 * (2 * (MILLION * (q * (p + c + made)))) ≤ q2 * (2 * (q * (suc n * r)) + MILLION * (slack * q) + 2 * (t * e))
next_product r slack q e t n q2 e2 over rest c p made total step whole joint few =
    let s = mul-le-mul_left (q2 * q) step in
    let w = ap (λ x. q2 * x) whole in
    let f = mul-le-mul_left q few in
    omega (arith, s, w, f, joint)

-- a tick over a joint: the head's path ends, and the rest is travelled on the next motion
pub few_next : {X : Type 0} (test : X → Bool) (r slack q made e t total q2 e2 over rest : ℕ) (x : X) (xs : List X) → IsNotAhead slack q made (t * e) →
    passes (test x) + made ≤ total → q * total * MILLION ≡ (t + rest) * e → 0 < over + rest → 0 < q2 → (over + rest) * e ≤ r * q →
    over * ((over + rest) * e2) ≤ over * (r * q2) → AreFew test r slack q2 0 (over * e2) xs → AreFew test r slack q made (t * e) (x ∷ xs)
few_next test r slack q made e t total q2 e2 over rest x xs start step whole some next slow slower few zero = omega (arith, start)
few_next test r slack q made e t total q2 e2 over rest x xs start step whole some next slow slower few (suc n) =
    let c = counted test x (take n xs) in
    let f = few n in
    let product = next_product r slack q e t n q2 e2 over rest (count_by test (take n xs)) (passes (test x)) made total step whole
    (over_joint r q e q2 e2 over rest some slow slower) (omega (arith, f)) in
    let all = le_of_mul-le-mul_left {k = q2} product next in
    omega (arith, all, ap (λ t. q * t) c)

-- before anything is travelled it makes no difference which share the axis has
pub few_fresh : {X : Type 0} (test : X → Bool) (r slack q q2 : ℕ) (xs : List X) → 0 < q2 → AreFew test r slack q2 0 0 xs → AreFew test r slack q 0 0 xs
few_fresh test r slack q q2 xs some few n =
    let f = few n in
    let one = le_of_mul-le-mul_left {m = 2 * (MILLION * count_by test (take n xs))} {n = 2 * (n * r) + MILLION * slack} {k = q2} (omega (arith, f)) some in
    omega (arith, mul-le-mul_left q one)

-- ---- windows

abbrev pub AreBounded : {X : Type 0} → (X → Bool) → ℕ → ℕ → List X → Type 0
AreBounded test r slack xs = (i n : ℕ) → count_by test (take n (drop i xs)) ≤ up_to_whole (n * r) + slack

first_window : {X : Type 0} (test : X → Bool) (r slack q made gone : ℕ) (xs : List X) → 0 < q → IsNotBehind slack q made gone →
    AreFew test r slack q made gone xs → (n : ℕ) → count_by test (take n xs) ≤ up_to_whole (n * r) + slack
first_window test r slack q made gone xs some behind few n =
    let f = few n in
    let one = le_of_mul-le-mul_left {m = MILLION * count_by test (take n xs)} {n = n * r + MILLION * slack + (MILLION - 1)} {k = q}
    (omega (arith, f, behind)) some in
    omega (arith, one)

pub bounded_none : {X : Type 0} (test : X → Bool) (r slack : ℕ) → AreBounded test r slack []
bounded_none test r slack zero zero = omega arith
bounded_none test r slack zero (suc n) = omega arith
bounded_none test r slack (suc i) zero = omega arith
bounded_none test r slack (suc i) (suc n) = omega arith

pub bounded_next : {X : Type 0} (test : X → Bool) (r slack q made gone : ℕ) (x : X) (xs : List X) → 0 < q → IsNotBehind slack q made gone →
    AreFew test r slack q made gone (x ∷ xs) → AreBounded test r slack xs → AreBounded test r slack (x ∷ xs)
bounded_next test r slack q made gone x xs some behind few later zero n = first_window test r slack q made gone (x ∷ xs) some behind few n
bounded_next test r slack q made gone x xs some behind few later (suc i) n = later i n
