-- What holds of the line that is found.
use Rattle.std.proofs.Common.{◌≡◌, ℕ, ◌+◌, ◌-◌, List, [], ◌∷◌, Option, Some, None, IfSome, Bool, true, false, cond, refl, sym, subst, inl, inr}
use Rattle.std.specs.Prelude.{◌==◌, ◌&&◌, option_map}
use Rattle.ngc_file_lines.specs.Lines.{lines_of, begins, gives, is_header}
use Rattle.ngc_file_lines.specs.Search.{after, line_from, key_line, numbered, IsOfKey}
use Rattle.ngc_file_lines.specs.declared.search.FileLine.{FileLine}
use Rattle.ngc_file_lines.specs.declared.search.Seek.TheVariants as seeks

kept_by : (P : ℕ × List ℕ → Type 0) (head zero opens one is_key : Bool) (ahead : ℕ) (here : ℕ × List ℕ) (table : Option (ℕ × List ℕ))
    (next : ℕ → Option (ℕ × List ℕ) → Option (ℕ × List ℕ)) → (is_key ≡ true → P here) → (opens ≡ true → P here) → IfSome table P
    → ((a : ℕ) (t : Option (ℕ × List ℕ)) → IfSome t P → IfSome (next a t) P)
    → IfSome (after (cond head (cond zero seeks.Ended (cond opens (cond one seeks.Entered (seeks.Ahead (ahead - 1))) (seeks.Ahead ahead))) (cond (zero && is_key) seeks.Found (seeks.Ahead ahead))) here table next) P
kept_by P true true opens one is_key ahead here table next k o t n = t
kept_by P true false true true is_key ahead here table next k o t n = n 0 (Some here) (o refl)
kept_by P true false true false is_key ahead here table next k o t n = n (ahead - 1) table t
kept_by P true false false one is_key ahead here table next k o t n = n ahead table t
kept_by P false true opens one true ahead here table next k o t n = k refl
kept_by P false true opens one false ahead here table next k o t n = n ahead table t
kept_by P false false opens one is_key ahead here table next k o t n = n ahead table t

line_from-kept : (header key : List ℕ) (table : Option (ℕ × List ℕ)) (ahead number : ℕ) (lines : List (List ℕ)) → IfSome table (λ p. IsOfKey header key p.1)
    → IfSome (line_from header key table ahead number lines) (λ p. IsOfKey header key p.1)
line_from-kept header key table ahead number [] h = h
line_from-kept header key table ahead number (line ∷ lines) h =
    kept_by (λ p. IsOfKey header key p.1) (is_header line) (ahead == 0) (begins header line) (ahead == 1) (gives key line) ahead (number, line) table _ (λ e. inl e) (λ e. inr e) h
    (λ a t k. line_from-kept header key t a (number + 1) lines k)

pub of_key : (header : List ℕ) (n : ℕ) (key bytes : List ℕ) (found : Option FileLine) → option_map numbered found ≡ key_line header n key bytes
    → IfSome found (λ l. IsOfKey header key l.text.now)
of_key header n key bytes None e = tt
of_key header n key bytes (Some l) e =
    subst (λ o. IfSome o (λ p. IsOfKey header key p.1)) (sym e) (line_from-kept header key None n 1 (lines_of bytes) tt)
