-- Windows over a list of rates, and over the counts at them.
use Rattle.std.proofs.Common.{◌≡◌, ℕ, zero, suc, ◌+◌, ◌*◌, ◌/◌, ◌<◌, ◌≤◌, ap, subst, sym, ◌∙◌, arith, refl, List, [], ◌∷◌, Bool, cond}
use Rattle.std.specs.Prelude.{length, take, drop, count_by, slice_index_or}
use Rattle.std.proofs.lemmas.List.{drop-drop, drop_more, length-drop}
use Rattle.std.proofs.lemmas.List.Sums.{sum_by-cons}
use Rattle.ngc_fixed_length.specs.Limits.{MILLION}
use Rattle.ngc_planner.specs.Pulses.{up_to_whole}

-- The rate v of a tick x, after a tick of rate r and after s millionths: it differs from r by at
-- most a. The test counts a tick in which one more million is full.
pub record IsPaced {X : Type 0} (test : X → Bool) (a s r v : ℕ) (x : X) : Type 0 where
  pub faster : v ≤ r + a
  pub slower : r ≤ v + a
  pub counts : cond (test x) 1 0 + s / MILLION ≡ (s + v) / MILLION

abbrev pub ArePaced : {X : Type 0} → (X → Bool) → ℕ → ℕ → ℕ → List ℕ → List X → Type 0
ArePaced test a s r [] [] = Unit {0}
ArePaced test a s r [] (x ∷ xs) = ⊥
ArePaced test a s r (v ∷ vs) [] = ⊥
ArePaced test a s r (v ∷ vs) (x ∷ xs) = IsPaced test a s r v x × ArePaced test a (s + v) v vs xs

-- ---- parts of the lists

same_length : {X : Type 0} (test : X → Bool) (a s r : ℕ) (vs : List ℕ) (xs : List X) → ArePaced test a s r vs xs → length vs ≡ length xs
same_length test a s r [] [] p = refl
same_length test a s r [] (x ∷ xs) p = absurd p
same_length test a s r (v ∷ vs) [] p = absurd p
same_length test a s r (v ∷ vs) (x ∷ xs) p = ap suc (same_length test a (s + v) v vs xs p.1)

taken : {X : Type 0} (test : X → Bool) (a s r n : ℕ) (vs : List ℕ) (xs : List X) → ArePaced test a s r vs xs → ArePaced test a s r (take n vs) (take n xs)
taken test a s r zero vs xs p = tt
taken test a s r (suc n) [] [] p = tt
taken test a s r (suc n) [] (x ∷ xs) p = absurd p
taken test a s r (suc n) (v ∷ vs) [] p = absurd p
taken test a s r (suc n) (v ∷ vs) (x ∷ xs) p = (p.0, taken test a (s + v) v n vs xs p.1)

dropped : {X : Type 0} (test : X → Bool) (a s r i : ℕ) (vs : List ℕ) (xs : List X) → ArePaced test a s r vs xs →
    (t : ℕ) × (q : ℕ) × ArePaced test a t q (drop i vs) (drop i xs)
dropped test a s r zero vs xs p = (s, r, p)
dropped test a s r (suc i) [] [] p = (s, r, tt)
dropped test a s r (suc i) [] (x ∷ xs) p = absurd p
dropped test a s r (suc i) (v ∷ vs) [] p = absurd p
dropped test a s r (suc i) (v ∷ vs) (x ∷ xs) p = dropped test a (s + v) v i vs xs p.1

-- ---- counts and sums

abbrev sum : List ℕ → ℕ
sum [] = 0
sum (v ∷ vs) = v + sum vs

sum_next : (v : ℕ) (vs : List ℕ) → sum (v ∷ vs) ≡ v + sum vs
sum_next v vs = refl

counted : {X : Type 0} (test : X → Bool) (a s r : ℕ) (vs : List ℕ) (xs : List X) → ArePaced test a s r vs xs →
    count_by test xs + s / MILLION ≡ (s + sum vs) / MILLION
counted test a s r [] [] p = omega arith
counted test a s r [] (x ∷ xs) p = absurd p
counted test a s r (v ∷ vs) [] p = absurd p
counted test a s r (v ∷ vs) (x ∷ xs) p =
    let c = p.0.counts in let i = counted test a (s + v) v vs xs p.1 in
    omega (arith, c, i, sum_next v vs, sum_by-cons (λ y. cond (test y) 1 0) x xs)

-- a rate n positions further
far : {X : Type 0} (test : X → Bool) (a s r n : ℕ) (vs : List ℕ) (xs : List X) → ArePaced test a s r vs xs → n < length vs →
    (slice_index_or vs n 0 ≤ r + suc n * a) × (r ≤ slice_index_or vs n 0 + suc n * a)
far test a s r n [] [] p l = absurd (omega (arith, l))
far test a s r n [] (x ∷ xs) p l = absurd p
far test a s r n (v ∷ vs) [] p l = absurd p
far test a s r zero (v ∷ vs) (x ∷ xs) p l = let f = p.0.faster in let g = p.0.slower in (omega (arith, f), omega (arith, g))
far test a s r (suc n) (v ∷ vs) (x ∷ xs) p l =
    let f = p.0.faster in let g = p.0.slower in let i = far test a (s + v) v n vs xs p.1 (omega (arith, l)) in (omega (arith, f, i.0), omega (arith, g, i.1))

from_first : {X : Type 0} (test : X → Bool) (a s v n : ℕ) (vs : List ℕ) (xs : List X) → ArePaced test a s v vs xs → n < suc (length vs) →
    (slice_index_or (v ∷ vs) n 0 ≤ v + n * a) × (v ≤ slice_index_or (v ∷ vs) n 0 + n * a)
from_first test a s v zero vs xs p l = (omega arith, omega arith)
from_first test a s v (suc n) vs xs p l = far test a s v n vs xs p (omega (arith, l))

drop_next : (v n : ℕ) (vs : List ℕ) → n < suc (length vs) → drop n (v ∷ vs) ≡ slice_index_or (v ∷ vs) n 0 ∷ drop n vs
drop_next v n vs l =
    let e : n + 1 ≡ suc n = omega arith in
    drop_more (v ∷ vs) n 0 l ∙ ap (λ k. slice_index_or (v ∷ vs) n 0 ∷ drop k (v ∷ vs)) e

-- two windows of k rates, n apart
abbrev AreNear : ℕ → ℕ → ℕ → Type 0
AreNear d x y = (x ≤ y + d) × (y ≤ x + d)

sums_near : {X : Type 0} (test : X → Bool) (a s r k n : ℕ) (vs : List ℕ) (xs : List X) → ArePaced test a s r vs xs → n + k ≤ length vs →
    AreNear (k * (n * a)) (sum (take k (drop n vs))) (sum (take k vs))
sums_near test a s r zero n vs xs p l = (omega arith, omega arith)
sums_near test a s r (suc k) n [] [] p l = absurd (omega (arith, l))
sums_near test a s r (suc k) n [] (x ∷ xs) p l = absurd p
sums_near test a s r (suc k) n (v ∷ vs) [] p l = absurd p
sums_near test a s r (suc k) n (v ∷ vs) (x ∷ xs) p l =
    let f = from_first test a (s + v) v n vs xs p.1 (omega (arith, l)) in
    let i = sums_near test a (s + v) v k n vs xs p.1 (omega (arith, l)) in
    let first = sum_next (slice_index_or (v ∷ vs) n 0) (take k (drop n vs)) in let whole = sum_next v (take k vs) in
    subst (λ ds. AreNear (suc k * (n * a)) (sum (take (suc k) ds)) (sum (take (suc k) (v ∷ vs)))) (sym (drop_next v n vs (omega (arith, l))))
    (omega (arith, f.0, i.0, first, whole), omega (arith, f.1, i.1, first, whole))

-- ---- windows

abbrev pub AreClose : ℕ → ℕ → ℕ → Type 0
AreClose d x y = (x ≤ y + up_to_whole d + 1) × (y ≤ x + up_to_whole d + 1)

first_two : {X : Type 0} (test : X → Bool) (a s r n : ℕ) (vs : List ℕ) (xs : List X) → ArePaced test a s r vs xs → n + n ≤ length xs →
    AreClose (n * n * a) (count_by test (take n (drop n xs))) (count_by test (take n xs))
first_two test a s r n vs xs p l =
    let e = same_length test a s r vs xs p in
    let d = dropped test a s r n vs xs p in
    let c = counted test a s r (take n vs) (take n xs) (taken test a s r n vs xs p) in
    let f = counted test a d.0 d.1 (take n (drop n vs)) (take n (drop n xs)) (taken test a d.0 d.1 n (drop n vs) (drop n xs) d.2) in
    let w = sums_near test a s r n n vs xs p (omega (arith, e, l)) in
    let q : n * n * a ≡ n * (n * a) = omega arith in
    (omega (arith, c, f, w.0, q), omega (arith, c, f, w.1, q))

-- two successive windows of n ticks have nearly the same number
pub two_windows : {X : Type 0} (test : X → Bool) (a s r : ℕ) (vs : List ℕ) (xs : List X) → ArePaced test a s r vs xs → (i n : ℕ) → i + n + n ≤ length xs →
    AreClose (n * n * a) (count_by test (take n (drop (i + n) xs))) (count_by test (take n (drop i xs)))
two_windows test a s r vs xs p i n l =
    let d = dropped test a s r i vs xs p in
    let e = length-drop i xs in
    subst (λ ys. AreClose (n * n * a) (count_by test (take n ys)) (count_by test (take n (drop i xs)))) (drop-drop n i xs)
    (first_two test a d.0 d.1 n (drop i vs) (drop i xs) d.2 (omega (arith, e, l)))
