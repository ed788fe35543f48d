-- One more setting.
use Rattle.std.proofs.Common.{◌≡◌, ℕ, ℤ, suc, ◌+◌, ◌<◌, ◌≤◌, ◌&&◌, Bool, true, false, List, [], ◌∷◌, ◌++◌, length, drop, set, get_or, nat_lt, Option, Some, None, bytes_eq, true≢false, refl, ap, sym, ◌∙◌, arith}
use Rattle.std.specs.Prelude.{if◌then◌else◌, ◌==◌}
use Rattle.std.proofs.Math.Seq.{drop-cons}
use Rattle.std.proofs.lemmas.List.{get_or-set_other, get_or_push, get_or_append_left}
use Rattle.std.proofs.lemmas.Grind.{get_or-set_at}
use Rattle.std.proofs.lemmas.Bool.{eqb-true}
use Rattle.std.proofs.lemmas.Bool.Decides.{nat_tests}
use Rattle.std.proofs.lemmas.Slice.Eq.{bytes_eq-Decides}
use Rattle.ngc_dialect_parameters.specs.declared.statement.Statement.{Statement}
use Rattle.ngc_dialect_parameters.specs.Settings.{after, after_all}

-- the statement at an index of a list
here : (ss : List Statement) (i : ℕ) (x : Statement) → i < length ss → x ≡ get_or ss i x → drop i ss ≡ x ∷ drop (i + 1) ss
here ss i x h e =
    let one : i + 1 ≡ suc i = omega arith in
    drop-cons ss i x h ∙ ap (λ (y : Statement). y ∷ drop (suc i) ss) (sym e) ∙ ap (λ (n : ℕ). x ∷ drop n ss) (sym one)

pub statement_done : (ss : List Statement) (i : ℕ) (x : Statement) (n : ℕ) (v w : Option ℤ) → i < length ss → x ≡ get_or ss i x → w ≡ after x n v →
    after_all (drop (i + 1) ss) n w ≡ after_all (drop i ss) n v
statement_done ss i x n v w h e f =
    ap (λ (o : Option ℤ). after_all (drop (i + 1) ss) n o) f
    ∙ ap (λ (l : List Statement). after_all l n v) (sym (here ss i x h e))

below : (n m : ℕ) → n < m → nat_lt n m ≡ true
below n m h = grind (arith, nat_tests)

not_below : (n m : ℕ) → m ≤ n → nat_lt n m ≡ false
not_below n m h = grind (arith, nat_tests)

-- the list of values after a write
pub written : (vs : List (Option ℤ)) (i n : ℕ) (x : Option ℤ) → i < length vs → length vs ≡ 6000 →
    get_or (set vs i x) n None ≡ (if (n == i) && nat_lt i 6000 then x else get_or vs n None)
written vs i n x h e = by (n == i) refl where
  low : nat_lt i 6000 ≡ true
  low = below i 6000 (omega (arith, h, e))

  by : (b : Bool) → (n == i) ≡ b → get_or (set vs i x) n None ≡ (if b && nat_lt i 6000 then x else get_or vs n None)
  by true f = get_or-set_at vs i n x None (eqb-true n i f) h ∙ ap (λ (b : Bool). if b then x else get_or vs n None) (sym low)
  by false f = get_or-set_other vs i n x None (λ same. differs n i f same) where
    differs : (n i : ℕ) → (n == i) ≡ false → n ≡ i → ⊥
    differs n i e f = grind (arith, nat_tests)

-- a write beyond the list
pub unwritten : (i n : ℕ) (x y : Option ℤ) → 6000 ≤ i → (if (n == i) && nat_lt i 6000 then x else y) ≡ y
unwritten i n x y h = by (n == i) where
  by : (b : Bool) → (if b && nat_lt i 6000 then x else y) ≡ y
  by true = ap (λ (b : Bool). if b then x else y) (not_below i 6000 h)
  by false = refl

-- A name is set among those that pass a test, or among the others.

pub one_set : (test : List ℕ → Bool) (f g h : List ℕ → Option ℤ) (name : List ℕ) (v : ℤ) → test name ≡ true →
    ((o : List ℕ) → h o ≡ (if bytes_eq o name then Some v else f o)) → (o : List ℕ) →
    (if test o then h o else g o) ≡ (if bytes_eq o name then Some v else (if test o then f o else g o))
one_set test f g h name v e k o = by (test o) refl (bytes_eq o name) refl where
  by : (b : Bool) → test o ≡ b → (c : Bool) → bytes_eq o name ≡ c → (if b then h o else g o) ≡ (if c then Some v else (if b then f o else g o))
  by true t c d = k o ∙ ap (λ (x : Bool). if x then Some v else f o) d
  by false t true d = absurd (true≢false (sym e ∙ ap test (sym ((bytes_eq-Decides o name).0 d)) ∙ t))
  by false t false d = refl

pub other_set : (test : List ℕ → Bool) (f g h : List ℕ → Option ℤ) (name : List ℕ) (v : ℤ) → test name ≡ false →
    ((o : List ℕ) → h o ≡ (if bytes_eq o name then Some v else g o)) → (o : List ℕ) →
    (if test o then f o else h o) ≡ (if bytes_eq o name then Some v else (if test o then f o else g o))
other_set test f g h name v e k o = by (test o) refl (bytes_eq o name) refl where
  by : (b : Bool) → test o ≡ b → (c : Bool) → bytes_eq o name ≡ c → (if b then f o else h o) ≡ (if c then Some v else (if b then f o else g o))
  by false t c d = k o ∙ ap (λ (x : Bool). if x then Some v else g o) d
  by true t true d = absurd (true≢false (sym t ∙ ap test ((bytes_eq-Decides o name).0 d) ∙ e))
  by true t false d = refl

-- one more value of parameters in order
pub one_more : (xs : List (Option ℤ)) (x : Option ℤ) (i : ℕ) (f : ℕ → Option ℤ) → length xs ≡ i → x ≡ f i →
    ((n : ℕ) → n < i → get_or xs n None ≡ f n) → (n : ℕ) → n < i + 1 → get_or (xs ++ (x ∷ [])) n None ≡ f n
one_more xs x i f e g h n l = by (nat_lt n i) refl where
  less : (n i : ℕ) → nat_lt n i ≡ true → n < i
  less n i e = grind (arith, nat_tests)

  last : (n i : ℕ) → n < i + 1 → nat_lt n i ≡ false → n ≡ i
  last n i h e = grind (arith, nat_tests)

  by : (b : Bool) → nat_lt n i ≡ b → get_or (xs ++ (x ∷ [])) n None ≡ f n
  by false t =
      let same = last n i l t in
      ap (λ (k : ℕ). get_or (xs ++ (x ∷ [])) k None) same ∙ (get_or_push xs x None i e ∙ (g ∙ ap f (sym same)))
  by true t =
      let low = less n i t in
      let within : n < length xs = omega (arith, e, low) in
      get_or_append_left xs (x ∷ []) None n within ∙ h n low
