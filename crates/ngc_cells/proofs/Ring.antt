-- Equations between sums and products of whole numbers, decided by computing: both sides are
-- multiplied out, and their products cancel.
use Rattle.std.proofs.Common.{◌≡◌, ℕ, zero, suc, ◌+◌, ◌*◌, ℤ, pos, negsuc, ◌+ℤ◌, ◌*ℤ◌, neg_ℤ, refl, sym, ◌∙◌, ap, ap₂, arith}
use Rattle.std.proofs.Common.{Bool, true, false, ◌&&◌, cond, List, [], ◌∷◌, ◌++◌, length, map, eqb, leb}
use Rattle.std.proofs.Math.IntN.{+ℤ_assoc, *ℤ_comm, zero-*ℤ}
use Rattle.std.proofs.lemmas.Bool.{false≢true}
use Rattle.std.proofs.lemmas.Int.{ints}
use borrow.Author.Differences.{up, down, product_is, same_in}
use borrow.Author.Tests.{eqb-true}

-- ---- the laws

difference : (a b : ℤ) → up (a +ℤ b) + (down a + down b) ≡ up a + up b + down (a +ℤ b)
difference a b = omega (arith, ints)

pub sum_times : (a b c : ℤ) → (a +ℤ b) *ℤ c ≡ (a *ℤ c) +ℤ (b *ℤ c)
sum_times a b c =
    let e = ap (λ n. n * up c) (difference a b) in
    let f = ap (λ n. n * down c) (difference a b) in
    omega (arith, ints, e, f)

pub times_assoc : (a b c : ℤ) → (a *ℤ b) *ℤ c ≡ a *ℤ (b *ℤ c)
times_assoc a b c =
    let p = product_is a b in
    let q = product_is b c in
    let r = product_is (a *ℤ b) c in
    let s = product_is a (b *ℤ c) in
    let r0 = r.0 ∙ ap₂ (λ m n. m * up c + n * down c) p.0 p.1 in
    let r1 = r.1 ∙ ap₂ (λ m n. m * down c + n * up c) p.0 p.1 in
    let s0 = s.0 ∙ ap₂ (λ m n. up a * m + down a * n) q.0 q.1 in
    let s1 = s.1 ∙ ap₂ (λ m n. up a * n + down a * m) q.0 q.1 in
    same_in ((a *ℤ b) *ℤ c) (a *ℤ (b *ℤ c)) (omega (arith, r0, r1, s0, s1))

twice : (n : ℕ) → neg_ℤ (neg_ℤ (pos n)) ≡ pos n
twice zero = refl
twice (suc n) = refl

pub neg_times : (a b : ℤ) → neg_ℤ a *ℤ b ≡ neg_ℤ (a *ℤ b)
neg_times (pos zero) (pos b) = let e : 0 * b ≡ 0 = omega arith in rw e refl
neg_times (pos zero) (negsuc b) = let e : 0 * suc b ≡ 0 = omega arith in rw e refl
neg_times (pos (suc a)) (pos b) = refl
neg_times (pos (suc a)) (negsuc b) = sym (twice (suc a * suc b))
neg_times (negsuc a) (pos b) = sym (twice (suc a * b))
neg_times (negsuc a) (negsuc b) = refl

pub times_neg : (a b : ℤ) → a *ℤ neg_ℤ b ≡ neg_ℤ (a *ℤ b)
times_neg a b = *ℤ_comm a (neg_ℤ b) ∙ neg_times b a ∙ ap neg_ℤ (*ℤ_comm b a)

-- ---- terms

pub data Term : Type 0 where
  V : ℕ → Term
  S : Term → Term → Term
  P : Term → Term → Term
  M : Term → Term

abbrev pub look : List ℤ → ℕ → ℤ
look [] n = pos 0
look (x ∷ xs) zero = x
look (x ∷ xs) (suc n) = look xs n

abbrev pub eval : List ℤ → Term → ℤ
eval vs (V n) = look vs n
eval vs (S a b) = eval vs a +ℤ eval vs b
eval vs (P a b) = eval vs a *ℤ eval vs b
eval vs (M a) = neg_ℤ (eval vs a)

-- ---- sums of signed products, each with its factors in order

pub data Mono : Type 0 where
  plus : List ℕ → Mono
  less : List ℕ → Mono

abbrev pub insert : ℕ → List ℕ → List ℕ
insert n [] = n ∷ []
insert n (m ∷ ms) = cond (leb n m) (n ∷ m ∷ ms) (m ∷ insert n ms)

abbrev pub merge : List ℕ → List ℕ → List ℕ
merge [] ms = ms
merge (n ∷ ns) ms = insert n (merge ns ms)

abbrev pub flip : Mono → Mono
flip (plus a) = less a
flip (less a) = plus a

abbrev pub times : Mono → Mono → Mono
times (plus a) (plus b) = plus (merge a b)
times (plus a) (less b) = less (merge a b)
times (less a) (plus b) = less (merge a b)
times (less a) (less b) = plus (merge a b)

abbrev pub products : List Mono → List Mono → List Mono
products [] ys = []
products (x ∷ xs) ys = map (times x) ys ++ products xs ys

abbrev pub terms : Term → List Mono
terms (V n) = plus (n ∷ []) ∷ []
terms (S a b) = terms a ++ terms b
terms (P a b) = products (terms a) (terms b)
terms (M a) = map flip (terms a)

abbrev pub same : List ℕ → List ℕ → Bool
same [] [] = true
same [] (n ∷ ns) = false
same (m ∷ ms) [] = false
same (m ∷ ms) (n ∷ ns) = eqb m n && same ms ns

abbrev pub opposite : Mono → Mono → Bool
opposite (plus a) (less b) = same a b
opposite (less a) (plus b) = same a b
opposite (plus a) (plus b) = false
opposite (less a) (less b) = false

abbrev pub has : Mono → List Mono → Bool
has m [] = false
has m (x ∷ xs) = cond (opposite m x) true (has m xs)

abbrev pub without : Mono → List Mono → List Mono
without m [] = []
without m (x ∷ xs) = cond (opposite m x) xs (x ∷ without m xs)

abbrev pub cancels : ℕ → List Mono → Bool
cancels n [] = true
cancels zero (m ∷ ms) = false
cancels (suc n) (m ∷ ms) = has m ms && cancels n (without m ms)

-- ---- their values

abbrev pub product : List ℤ → List ℕ → ℤ
product vs [] = pos 1
product vs (n ∷ ns) = look vs n *ℤ product vs ns

abbrev pub worth : List ℤ → Mono → ℤ
worth vs (plus a) = product vs a
worth vs (less a) = neg_ℤ (product vs a)

abbrev pub total : List ℤ → List Mono → ℤ
total vs [] = pos 0
total vs (m ∷ ms) = worth vs m +ℤ total vs ms

-- ---- soundness

swapped : (a b c : ℤ) → a *ℤ (b *ℤ c) ≡ b *ℤ (a *ℤ c)
swapped a b c = sym (times_assoc a b c) ∙ ap (λ x. x *ℤ c) (*ℤ_comm a b) ∙ times_assoc b a c

insert_is : (vs : List ℤ) (n : ℕ) (ms : List ℕ) → product vs (insert n ms) ≡ look vs n *ℤ product vs ms
insert_is vs n [] = refl
insert_is vs n (m ∷ ms) =
    elim (leb n m) as (λ t. product vs (cond t (n ∷ m ∷ ms) (m ∷ insert n ms)) ≡ look vs n *ℤ product vs (m ∷ ms)) [
      | true ↦ refl
      | false ↦ ap (λ x. look vs m *ℤ x) (insert_is vs n ms) ∙ swapped (look vs m) (look vs n) (product vs ms)
    ]

one_times : (x : ℤ) → pos 1 *ℤ x ≡ x
one_times x = omega (arith, ints)

merge_is : (vs : List ℤ) (ns ms : List ℕ) → product vs (merge ns ms) ≡ product vs ns *ℤ product vs ms
merge_is vs [] ms = sym (one_times (product vs ms))
merge_is vs (n ∷ ns) ms =
    insert_is vs n (merge ns ms) ∙ ap (λ x. look vs n *ℤ x) (merge_is vs ns ms) ∙ sym (times_assoc (look vs n) (product vs ns) (product vs ms))

again : (a : ℤ) → neg_ℤ (neg_ℤ a) ≡ a
again a = omega (arith, ints)

negs : (a b : ℤ) → neg_ℤ a *ℤ neg_ℤ b ≡ a *ℤ b
negs a b = neg_times a (neg_ℤ b) ∙ ap neg_ℤ (times_neg a b) ∙ again (a *ℤ b)

times_is : (vs : List ℤ) (x y : Mono) → worth vs (times x y) ≡ worth vs x *ℤ worth vs y
times_is vs (plus a) (plus b) = merge_is vs a b
times_is vs (plus a) (less b) = ap neg_ℤ (merge_is vs a b) ∙ sym (times_neg (product vs a) (product vs b))
times_is vs (less a) (plus b) = ap neg_ℤ (merge_is vs a b) ∙ sym (neg_times (product vs a) (product vs b))
times_is vs (less a) (less b) = merge_is vs a b ∙ sym (negs (product vs a) (product vs b))

flip_is : (vs : List ℤ) (x : Mono) → worth vs (flip x) ≡ neg_ℤ (worth vs x)
flip_is vs (plus a) = refl
flip_is vs (less a) = omega (arith, ints)

append_is : (vs : List ℤ) (xs ys : List Mono) → total vs (xs ++ ys) ≡ total vs xs +ℤ total vs ys
append_is vs [] ys = omega (arith, ints)
append_is vs (x ∷ xs) ys = ap (λ t. worth vs x +ℤ t) (append_is vs xs ys) ∙ sym (+ℤ_assoc (worth vs x) (total vs xs) (total vs ys))

sum_neg : (a b : ℤ) → neg_ℤ a +ℤ neg_ℤ b ≡ neg_ℤ (a +ℤ b)
sum_neg a b = omega (arith, ints)

flips_is : (vs : List ℤ) (xs : List Mono) → total vs (map flip xs) ≡ neg_ℤ (total vs xs)
flips_is vs [] = refl
flips_is vs (x ∷ xs) = ap₂ (λ s t. s +ℤ t) (flip_is vs x) (flips_is vs xs) ∙ sum_neg (worth vs x) (total vs xs)

times_sum : (a b c : ℤ) → a *ℤ (b +ℤ c) ≡ (a *ℤ b) +ℤ (a *ℤ c)
times_sum a b c = *ℤ_comm a (b +ℤ c) ∙ sum_times b c a ∙ ap₂ (λ s t. s +ℤ t) (*ℤ_comm b a) (*ℤ_comm c a)

times_all_is : (vs : List ℤ) (x : Mono) (ys : List Mono) → total vs (map (times x) ys) ≡ worth vs x *ℤ total vs ys
times_all_is vs x [] = omega (arith, ints)
times_all_is vs x (y ∷ ys) =
    ap₂ (λ s t. s +ℤ t) (times_is vs x y) (times_all_is vs x ys) ∙ sym (times_sum (worth vs x) (worth vs y) (total vs ys))

products_is : (vs : List ℤ) (xs ys : List Mono) → total vs (products xs ys) ≡ total vs xs *ℤ total vs ys
products_is vs [] ys = sym (zero-*ℤ (total vs ys))
products_is vs (x ∷ xs) ys =
    append_is vs (map (times x) ys) (products xs ys)
    ∙ ap₂ (λ s t. s +ℤ t) (times_all_is vs x ys) (products_is vs xs ys)
    ∙ sym (sum_times (worth vs x) (total vs xs) (total vs ys))

terms_is : (vs : List ℤ) (t : Term) → total vs (terms t) ≡ eval vs t
terms_is vs (V n) = omega (arith, ints)
terms_is vs (S a b) = append_is vs (terms a) (terms b) ∙ ap₂ (λ s t. s +ℤ t) (terms_is vs a) (terms_is vs b)
terms_is vs (P a b) = products_is vs (terms a) (terms b) ∙ ap₂ (λ s t. s *ℤ t) (terms_is vs a) (terms_is vs b)
terms_is vs (M a) = flips_is vs (terms a) ∙ ap neg_ℤ (terms_is vs a)

both : (a b : Bool) → (a && b) ≡ true → (a ≡ true) × (b ≡ true)
both true b h = (refl, h)
both false b h = absurd (false≢true h)

same_is : (a b : List ℕ) → same a b ≡ true → a ≡ b
same_is [] [] h = refl
same_is [] (n ∷ ns) h = absurd (false≢true h)
same_is (m ∷ ms) [] h = absurd (false≢true h)
same_is (m ∷ ms) (n ∷ ns) h = let p = both (eqb m n) (same ms ns) h in ap₂ (λ x xs. x ∷ xs) (eqb-true m n p.0) (same_is ms ns p.1)

gone : (x : ℤ) → x +ℤ neg_ℤ x ≡ pos 0
gone x = omega (arith, ints)

gone_back : (x : ℤ) → neg_ℤ x +ℤ x ≡ pos 0
gone_back x = omega (arith, ints)

opposite_is : (vs : List ℤ) (x y : Mono) → opposite x y ≡ true → worth vs x +ℤ worth vs y ≡ pos 0
opposite_is vs (plus a) (less b) h = ap (λ (l : List ℕ). product vs a +ℤ neg_ℤ (product vs l)) (sym (same_is a b h)) ∙ gone (product vs a)
opposite_is vs (less a) (plus b) h = ap (λ (l : List ℕ). neg_ℤ (product vs a) +ℤ product vs l) (sym (same_is a b h)) ∙ gone_back (product vs a)
opposite_is vs (plus a) (plus b) h = absurd (false≢true h)
opposite_is vs (less a) (less b) h = absurd (false≢true h)

pair_gone : (x y t : ℤ) → x +ℤ y ≡ pos 0 → x +ℤ (y +ℤ t) ≡ t
pair_gone x y t h = omega (arith, ints, h)

pair_passed : (x y t r : ℤ) → x +ℤ t ≡ r → x +ℤ (y +ℤ t) ≡ y +ℤ r
pair_passed x y t r h = omega (arith, ints, h)

without_is : (vs : List ℤ) (m : Mono) (xs : List Mono) → has m xs ≡ true → worth vs m +ℤ total vs xs ≡ total vs (without m xs)
without_is vs m [] h = absurd (false≢true h)
without_is vs m (x ∷ xs) h =
    elim (opposite m x) as (λ t. opposite m x ≡ t → cond t true (has m xs) ≡ true → worth vs m +ℤ (worth vs x +ℤ total vs xs) ≡ total vs (cond t xs (x ∷ without m xs))) [
      | true ↦ (λ e g. pair_gone (worth vs m) (worth vs x) (total vs xs) (opposite_is vs m x e))
      | false ↦ (λ e g. pair_passed (worth vs m) (worth vs x) (total vs xs) (total vs (without m xs)) (without_is vs m xs g))
    ] refl h

cancels_is : (vs : List ℤ) (n : ℕ) (xs : List Mono) → cancels n xs ≡ true → total vs xs ≡ pos 0
cancels_is vs n [] h = refl
cancels_is vs zero (x ∷ xs) h = absurd (false≢true h)
cancels_is vs (suc n) (x ∷ xs) h =
    let p = both (has x xs) (cancels n (without x xs)) h in
    without_is vs x xs p.0 ∙ cancels_is vs n (without x xs) p.1

alike : (a b : ℤ) → a +ℤ neg_ℤ b ≡ pos 0 → a ≡ b
alike a b h = omega (arith, ints, h)

pub ring : (vs : List ℤ) (a b : Term) → cancels (length (terms (S a (M b)))) (terms (S a (M b))) ≡ true → eval vs a ≡ eval vs b
ring vs a b h = alike (eval vs a) (eval vs b) (sym (terms_is vs (S a (M b))) ∙ cancels_is vs (length (terms (S a (M b)))) (terms (S a (M b))) h)
