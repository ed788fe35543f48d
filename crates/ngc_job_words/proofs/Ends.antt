-- The folder of a name, byte by byte from its end.
use Rattle.std.proofs.Common.{arith, ◌≡◌, ◌<◌, ◌≤◌, ◌-◌, rules, ℕ, zero, suc, List, [], ◌∷◌, ◌++◌, length, take, get_or, Bool, true, false, ◌||◌, cond, ap, sym, ◌∙◌, refl}
use Rattle.std.proofs.lemmas.List.Folds.{list_any-append}
use Rattle.std.proofs.Math.Seq.{take-suc}
use Rattle.std.proofs.lemmas.Str.{IsCharBoundary-after_ascii, IsCharBoundary-start}
use Rattle.std.specs.List.{list_any}
use native.Mathlib.Numerals.{unary_clauses}
use Rattle.std.specs.Str.{IsCharBoundary, IsUtf8}
use Rattle.ngc_job_words.specs.Folders.{folder_of, is_separator}

or-false : (b : Bool) → (b || false) ≡ b
or-false true = refl
or-false false = refl

or-true : (b : Bool) → (b || true) ≡ true
or-true true = refl
or-true false = refl

any-other : (name : List ℕ) (b : ℕ) → is_separator b ≡ false
    → list_any is_separator (name ++ b ∷ []) ≡ list_any is_separator name
any-other name b h =
    list_any-append is_separator name (b ∷ [])
    ∙ ap (λ s. list_any is_separator name || (s || false)) h
    ∙ or-false (list_any is_separator name)

any-separator : (name : List ℕ) (b : ℕ) → is_separator b ≡ true
    → list_any is_separator (name ++ b ∷ []) ≡ true
any-separator name b h =
    list_any-append is_separator name (b ∷ [])
    ∙ ap (λ s. list_any is_separator name || (s || false)) h
    ∙ or-true (list_any is_separator name)

other : (name : List ℕ) (b : ℕ) → is_separator b ≡ false → folder_of (name ++ b ∷ []) ≡ folder_of name
other [] b h = ap (λ s. cond (s || false) (b ∷ []) []) h
other (x ∷ name) b h =
    ap (λ a. cond (is_separator x || a) (x ∷ folder_of (name ++ b ∷ [])) []) (any-other name b h)
    ∙ ap (λ f. cond (is_separator x || list_any is_separator name) (x ∷ f) []) (other name b h)

separator : (name : List ℕ) (b : ℕ) → is_separator b ≡ true → folder_of (name ++ b ∷ []) ≡ name ++ b ∷ []
separator [] b h = ap (λ s. cond (s || false) (b ∷ []) []) h
separator (x ∷ name) b h =
    ap (λ a. cond (is_separator x || a) (x ∷ folder_of (name ++ b ∷ [])) []) (any-separator name b h)
    ∙ ap (λ o. cond o (x ∷ folder_of (name ++ b ∷ [])) []) (or-true (is_separator x))
    ∙ ap (λ f. x ∷ f) (separator name b h)

-- a last byte that is no separator doesn't count
pub shorter : (name : List ℕ) (n : ℕ) → n < length name → is_separator (get_or name n 0) ≡ false
    → folder_of (take (suc n) name) ≡ folder_of (take n name)
shorter name n less h = ap folder_of (take-suc name n 0 less) ∙ other (take n name) (get_or name n 0) h

-- a name that ends with a separator is a folder
pub whole : (name : List ℕ) (n : ℕ) → n < length name → is_separator (get_or name n 0) ≡ true
    → folder_of (take (suc n) name) ≡ take (suc n) name
whole name n less h =
    ap folder_of (take-suc name n 0 less) ∙ separator (take n name) (get_or name n 0) h
    ∙ sym (take-suc name n 0 less)

suc_of : (n : ℕ) → 0 < n → suc (n - 1) ≡ n
suc_of n h = omega (arith, h)

-- ---- the search from the end of a name

pub step : (name : List ℕ) (end : ℕ) → end ≤ length name → folder_of name ≡ folder_of (take end name) → 0 < end
    → is_separator (get_or name (end - 1) 0) ≡ false
    → (end - 1 ≤ length name) × (folder_of name ≡ folder_of (take (end - 1) name))
step name end within folder some other =
    let same : suc (end - 1) ≡ end = suc_of end some in
    let less : end - 1 < length name = omega (arith, within, some) in
    (omega (arith, within), folder ∙ ap (λ n. folder_of (take n name)) (sym same) ∙ shorter name (end - 1) less other)

is_small : (b : ℕ) → is_separator b ≡ true → b < 128
is_small b h = search rules

-- a name may be cut where the search ends: at its beginning, or after a separator
pub cut : (name : List ℕ) (end : ℕ) → IsUtf8 name → end ≤ length name
    → (0 < end → is_separator (get_or name (end - 1) 0) ≡ true) → IsCharBoundary name end
cut name zero utf8 within stopped = IsCharBoundary-start name utf8
cut name (suc n) utf8 within stopped =
    let sep : is_separator (get_or name n 0) ≡ true = simp unary_clauses at stopped (omega arith) in
    simp unary_clauses at IsCharBoundary-after_ascii name n utf8 (omega (arith, within)) (is_small (get_or name n 0) sep)

-- and what is before it is the folder
pub ended : (name : List ℕ) (end : ℕ) → end ≤ length name → folder_of name ≡ folder_of (take end name)
    → (0 < end → is_separator (get_or name (end - 1) 0) ≡ true) → take end name ≡ folder_of name
ended name zero within folder stopped = sym folder
ended name (suc n) within folder stopped =
    sym (folder ∙ whole name n (omega (arith, within)) (simp unary_clauses at stopped (omega arith)))
