-- The line with a number, found one by one.
use Rattle.std.proofs.Common.{◌≡◌, ℕ, zero, suc, ◌==◌, List, [], ◌∷◌, take, Option, Some, None, Bool, true, false, ap, sym, ◌∙◌, refl}
use Rattle.std.proofs.lemmas.Bool.{eq-eqb, ne_eqb}
use Rattle.std.specs.List.{slice_get}
use Rattle.std.specs.Option.{option_map}
use Rattle.ngc_line_reader.specs.Program.{Line}
use Rattle.ngc_report.specs.Quotes.{line_with}

-- the facts about the line at index `i`
pub record At (lines : List Line) (i number : ℕ) : Type 0 where
  pub line : Line
  pub is : slice_get lines i ≡ Some line
  pub has : line.number ≡ number

pub at : (lines : List Line) (i number : ℕ) → option_map (λ l. l.number) (slice_get lines i) ≡ Some number → At lines i number
at lines i number told = by (slice_get lines i) refl told where
  by : (found : Option Line) → slice_get lines i ≡ found → option_map (λ l. l.number) found ≡ Some number → At lines i number
  by None is told = cc
  by (Some l) is told = record { line = l; is = is; has = cc told }

-- it is another
pub passed : (number : ℕ) (lines : List Line) (i : ℕ) (l : Line) → line_with number (take i lines) ≡ None → slice_get lines i ≡ Some l → (l.number ≡ number → ⊥)
    → line_with number (take (suc i) lines) ≡ None
passed number [] i l none is other = refl
passed number (x ∷ xs) zero l none is other =
    let same : x ≡ l = cc is in
    let no : (x.number == number) ≡ false = ne_eqb x.number number (λ e. other (ap (λ (y : Line). y.number) (sym same) ∙ e)) in
    rw no refl
passed number (x ∷ xs) (suc i) l none is other = by (x.number == number) refl (λ before. passed number xs i l before is other) where
  by : (b : Bool) → (x.number == number) ≡ b → (line_with number (take i xs) ≡ None → line_with number (take (suc i) xs) ≡ None)
      → line_with number (take (suc (suc i)) (x ∷ xs)) ≡ None
  by true h later = let bad : Some x ≡ None = rw h at none in cc bad
  by false h later = rw h (later (rw h at none))

-- it is the one
pub found : (number : ℕ) (lines : List Line) (i : ℕ) (l : Line) → line_with number (take i lines) ≡ None → slice_get lines i ≡ Some l → l.number ≡ number
    → line_with number lines ≡ Some l
found number [] i l none is the_one = cc is
found number (x ∷ xs) zero l none is the_one =
    let same : x ≡ l = cc is in
    let yes : (x.number == number) ≡ true = eq-eqb x.number number (ap (λ (y : Line). y.number) same ∙ the_one) in
    rw yes (ap Some same)
found number (x ∷ xs) (suc i) l none is the_one = by (x.number == number) refl (λ before. found number xs i l before is the_one) where
  by : (b : Bool) → (x.number == number) ≡ b → (line_with number (take i xs) ≡ None → line_with number xs ≡ Some l) → line_with number (x ∷ xs) ≡ Some l
  by true h later = let bad : Some x ≡ None = rw h at none in cc bad
  by false h later = rw h (later (rw h at none))
