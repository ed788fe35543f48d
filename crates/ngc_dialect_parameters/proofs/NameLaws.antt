-- A name that is set in a table of names.
use Rattle.std.proofs.Common.{◌≡◌, ℕ, ℤ, Bool, true, false, cond, List, [], ◌∷◌, Option, Some, None, Vec, bytes_eq, Ordering, Less, Equal, Greater, nat_cmp, is_eq, true≢false, refl, ap, sym, ◌∙◌}
use Rattle.std.specs.Prelude.{if◌then◌else◌}
use Rattle.std.specs.Cmp.Lexicographic.{slice_cmp}
use Rattle.std.specs.Map.{lookup}
use Rattle.std.specs.BTreeMap.{insert_entry}
use Rattle.std.specs.Ordering.{match_ordering}
use Rattle.std.proofs.lemmas.Map.Text.{is_eq-slice_cmp}
use Rattle.std.proofs.lemmas.Map.Lookups.{exact_bytes}
use Rattle.std.proofs.lemmas.Slice.Eq.{bytes_eq-Decides}

abbrev Entries : Type 0 → Type 0
Entries A = List (Vec ℕ A × ℤ)

abbrev is_name : {A : Type 0} → List ℕ → Vec ℕ A → Bool
is_name q key = is_eq (slice_cmp nat_cmp q key.items)

abbrev order : {A : Type 0} → Vec ℕ A → Vec ℕ A → Ordering
order x y = slice_cmp nat_cmp x.items y.items

same : (x y : List ℕ) → bytes_eq x y ≡ true → x ≡ y
same x y e = (bytes_eq-Decides x y).0 e

equal : (x y : List ℕ) → x ≡ y → bytes_eq x y ≡ true
equal x y e = (bytes_eq-Decides x y).1 e

-- a name is not both of two that differ
apart : (q x y : List ℕ) → slice_cmp nat_cmp x y ≡ Greater → bytes_eq q y ≡ true → bytes_eq q x ≡ false
apart q x y h e = by (bytes_eq q x) refl where
  by : (b : Bool) → bytes_eq q x ≡ b → b ≡ false
  by false f = refl
  by true f = absurd (true≢false (sym (equal x y (sym (same q x f) ∙ same q y e)) ∙ sym (is_eq-slice_cmp x y) ∙ ap is_eq h))

pub set_entry : {A : Type 0} (es : Entries A) (key : Vec ℕ A) (v : ℤ) (q : List ℕ) →
    lookup (is_name q) (insert_entry order es key v) ≡ cond (bytes_eq q key.items) (Some v) (lookup (is_name q) es)
set_entry [] key v q = ap (λ (b : Bool). cond b (Some v) None) (is_eq-slice_cmp q key.items)
set_entry {A} (e ∷ es) key v q = by (order key e.0) refl (set_entry es key v q) where
  goal : Ordering → Type 0
  goal o = lookup (is_name q) (match_ordering o ((key, v) ∷ e ∷ es) ((e.0, v) ∷ es) (e ∷ insert_entry order es key v))
      ≡ cond (bytes_eq q key.items) (Some v) (cond (is_name q e.0) (Some e.1) (lookup (is_name q) es))

  equal_case : (b : Bool) → cond b (Some v) (lookup (is_name q) es) ≡ cond b (Some v) (cond b (Some e.1) (lookup (is_name q) es))
  equal_case true = refl
  equal_case false = refl

  greater_case : (b c : Bool) → (b ≡ true → c ≡ false) →
      cond b (Some e.1) (cond c (Some v) (lookup (is_name q) es)) ≡ cond c (Some v) (cond b (Some e.1) (lookup (is_name q) es))
  greater_case true true f = absurd (true≢false (f refl))
  greater_case true false f = refl
  greater_case false c f = refl

  by : (o : Ordering) → order key e.0 ≡ o → lookup (is_name q) (insert_entry order es key v) ≡ cond (bytes_eq q key.items) (Some v) (lookup (is_name q) es) → goal o
  by Less h k = ap (λ (b : Bool). cond b (Some v) (cond (is_name q e.0) (Some e.1) (lookup (is_name q) es))) (is_eq-slice_cmp q key.items)
  by Equal h k =
      let one : is_name q e.0 ≡ bytes_eq q key.items = is_eq-slice_cmp q e.0.items ∙ ap (λ (x : List ℕ). bytes_eq q x) (sym (exact_bytes key.items e.0.items h)) in
      ap (λ (b : Bool). cond b (Some v) (lookup (is_name q) es)) one
      ∙ equal_case (bytes_eq q key.items)
      ∙ ap (λ (b : Bool). cond (bytes_eq q key.items) (Some v) (cond b (Some e.1) (lookup (is_name q) es))) (sym one)
  by Greater h k =
      ap (λ (o : Option ℤ). cond (is_name q e.0) (Some e.1) o) k
      ∙ greater_case (is_name q e.0) (bytes_eq q key.items) (λ f. apart q key.items e.0.items h (sym (is_eq-slice_cmp q e.0.items) ∙ f))

pub name_set : {A : Type 0} (old new : Entries A) (key : Vec ℕ A) (name : List ℕ) (v : ℤ) → key.items ≡ name → new ≡ insert_entry order old key v →
    (other : List ℕ) → lookup (is_name other) new ≡ (if bytes_eq other name then Some v else lookup (is_name other) old)
name_set {A} old new key name v e f other =
    ap (λ (es : Entries A). lookup (is_name other) es) f ∙ (set_entry old key v other
    ∙ ap (λ (n : List ℕ). if bytes_eq other n then Some v else lookup (is_name other) old) e)
