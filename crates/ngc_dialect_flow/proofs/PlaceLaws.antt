-- A place that is added to a table of places.
use Rattle.std.proofs.Common.{◌≡◌, ℕ, Bool, true, false, cond, List, [], ◌∷◌, Option, Some, None, Vec, bytes_eq, Ordering, Less, Equal, Greater, nat_cmp, is_eq, is_some, true≢false, refl, ap, sym, ◌∙◌}
use Rattle.std.specs.Prelude.{if◌then◌else◌}
use Rattle.std.specs.Cmp.Lexicographic.{slice_cmp}
use Rattle.std.specs.Map.{lookup}
use Rattle.std.specs.BTreeMap.{insert_entry}
use Rattle.std.specs.Ordering.{match_ordering}
use Rattle.std.proofs.lemmas.Map.Text.{is_eq-slice_cmp}
use Rattle.std.proofs.lemmas.Map.Lookups.{exact_bytes}
use Rattle.std.proofs.lemmas.Slice.Eq.{bytes_eq-Decides}
use Rattle.ngc_dialect_flow.specs.declared.table.Place.{Place}
use Rattle.ngc_dialect_flow.specs.Places.{placed}

abbrev Entries : Type 0 → Type 0
Entries A = List (Vec ℕ A × Place)

abbrev has_key : {A : Type 0} → List ℕ → Vec ℕ A → Bool
has_key q key = is_eq (slice_cmp nat_cmp q key.items)

abbrev order : {A : Type 0} → Vec ℕ A → Vec ℕ A → Ordering
order x y = slice_cmp nat_cmp x.items y.items

same : (x y : List ℕ) → bytes_eq x y ≡ true → x ≡ y
same x y e = (bytes_eq-Decides x y).0 e

equal : (x y : List ℕ) → x ≡ y → bytes_eq x y ≡ true
equal x y e = (bytes_eq-Decides x y).1 e

-- a text is not equal to both of two that differ
apart : (q x y : List ℕ) → slice_cmp nat_cmp x y ≡ Greater → bytes_eq q y ≡ true → bytes_eq q x ≡ false
apart q x y h e = by (bytes_eq q x) refl where
  by : (b : Bool) → bytes_eq q x ≡ b → b ≡ false
  by false f = refl
  by true f = absurd (true≢false (sym (equal x y (sym (same q x f) ∙ same q y e)) ∙ sym (is_eq-slice_cmp x y) ∙ ap is_eq h))

pub set_entry : {A : Type 0} (es : Entries A) (key : Vec ℕ A) (v : Place) (q : List ℕ) →
    lookup (has_key q) (insert_entry order es key v) ≡ cond (bytes_eq q key.items) (Some v) (lookup (has_key q) es)
set_entry [] key v q = ap (λ (b : Bool). cond b (Some v) None) (is_eq-slice_cmp q key.items)
set_entry {A} (e ∷ es) key v q = by (order key e.0) refl (set_entry es key v q) where
  goal : Ordering → Type 0
  goal o = lookup (has_key q) (match_ordering o ((key, v) ∷ e ∷ es) ((e.0, v) ∷ es) (e ∷ insert_entry order es key v))
      ≡ cond (bytes_eq q key.items) (Some v) (cond (has_key q e.0) (Some e.1) (lookup (has_key q) es))

  equal_case : (b : Bool) → cond b (Some v) (lookup (has_key q) es) ≡ cond b (Some v) (cond b (Some e.1) (lookup (has_key q) es))
  equal_case true = refl
  equal_case false = refl

  greater_case : (b c : Bool) → (b ≡ true → c ≡ false) →
      cond b (Some e.1) (cond c (Some v) (lookup (has_key q) es)) ≡ cond c (Some v) (cond b (Some e.1) (lookup (has_key q) es))
  greater_case true true f = absurd (true≢false (f refl))
  greater_case true false f = refl
  greater_case false c f = refl

  by : (o : Ordering) → order key e.0 ≡ o → lookup (has_key q) (insert_entry order es key v) ≡ cond (bytes_eq q key.items) (Some v) (lookup (has_key q) es) → goal o
  by Less h k = ap (λ (b : Bool). cond b (Some v) (cond (has_key q e.0) (Some e.1) (lookup (has_key q) es))) (is_eq-slice_cmp q key.items)
  by Equal h k =
      let one : has_key q e.0 ≡ bytes_eq q key.items = is_eq-slice_cmp q e.0.items ∙ ap (λ (x : List ℕ). bytes_eq q x) (sym (exact_bytes key.items e.0.items h)) in
      ap (λ (b : Bool). cond b (Some v) (lookup (has_key q) es)) one
      ∙ equal_case (bytes_eq q key.items)
      ∙ ap (λ (b : Bool). cond (bytes_eq q key.items) (Some v) (cond b (Some e.1) (lookup (has_key q) es))) (sym one)
  by Greater h k =
      ap (λ (o : Option Place). cond (has_key q e.0) (Some e.1) o) k
      ∙ greater_case (has_key q e.0) (bytes_eq q key.items) (λ f. apart q key.items e.0.items h (sym (is_eq-slice_cmp q e.0.items) ∙ f))

-- a key that is found again is found at the same place
again : {A : Type 0} (old : Entries A) (key q : List ℕ) (n : ℕ) (b : Bool) → b ≡ is_some (lookup (has_key key) old) → (t : Bool) → bytes_eq q key ≡ t →
    cond t (Some (record { line = n; again = b })) (lookup (has_key q) old) ≡ cond t (Some (record { line = n; again = is_some (lookup (has_key q) old) })) (lookup (has_key q) old)
again old key q n b e false h = refl
again old key q n b e true h =
    ap (λ (x : Bool). Some (record { line = n; again = x })) (e ∙ ap (λ (k : List ℕ). is_some (lookup (has_key k) old)) (sym (same q key h)))

-- the places after a key of line n is added
pub place_added : {A : Type 0} (old new : Entries A) (key : Vec ℕ A) (text : List ℕ) (n : ℕ) (b : Bool) → key.items ≡ text → b ≡ is_some (lookup (has_key text) old) →
    new ≡ insert_entry order old key (record { line = n; again = b }) →
    (q : List ℕ) → lookup (has_key q) new ≡ placed n (Some text) q (lookup (has_key q) old)
place_added {A} old new key text n b e f h q =
    ap (λ (es : Entries A). lookup (has_key q) es) h
    ∙ (set_entry old key (record { line = n; again = b }) q
    ∙ (ap (λ (k : List ℕ). if bytes_eq q k then Some (record { line = n; again = b }) else lookup (has_key q) old) e
    ∙ again old text q n b f (bytes_eq q text) refl))
