-- The number of leading digits.
use Rattle.std.proofs.Common.{◌≡◌, ℕ, List, [], ◌∷◌, ap, refl}
use Rattle.std.specs.Char.{is_ascii_digit}
use Rattle.std.proofs.lemmas.List.Folds.{length-prefix_len}
use Rattle.std.proofs.lemmas.List.Sums.{fold_more, prefix_len-drop_yes, prefix_len-drop_no, take_while-cons}
use Rattle.ngc_line_reader.specs.Grammar.{IsDigits}
use Rattle.ngc_line_reader.specs.Scan.{digits_at}

pub ruleset counted = length-prefix_len

pub ruleset digits_counted = (length-prefix_len, prefix_len-drop_yes, prefix_len-drop_no, fold_more)

-- if all are digits, all are leading digits
pub digits_at-all : (ds : List ℕ) → IsDigits ds → digits_at ds ≡ ds
digits_at-all [] h = refl
digits_at-all (d ∷ ds) h = rw (take_while-cons is_ascii_digit d ds, h.0) (ap (λ (t : List ℕ). d ∷ t) (digits_at-all ds h.1))
