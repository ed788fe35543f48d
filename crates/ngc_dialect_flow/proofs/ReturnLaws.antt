-- The names are set, and then the call ends.
use Rattle.std.proofs.Common.{◌≡◌, ℤ, Option, is_some, Result, Ok, codes, ap, sym, ◌∙◌}
use Rattle.ngc_line_reader.specs.Scan.{◌>>=◌}
use Rattle.ngc_dialect_numbers.specs.Numbers.{truth}
use Rattle.ngc_dialect_parameters.specs.declared.fault.StoreFault.{StoreFault}
use Rattle.ngc_dialect_parameters.specs.Stored.{Stored}
use Rattle.ngc_dialect_parameters.specs.Storing.{with_name, left}
use Rattle.ngc_dialect_flow.specs.Returning.{returned}
use Rattle.ngc_dialect_flow.specs.Words.{or_zero}

pub returned_as : (value : Option ℤ) (k l m n : Stored) (z b : ℤ) → z ≡ or_zero value → b ≡ truth (is_some value)
    → with_name (codes "_VALUE") z k ≡ Ok l → with_name (codes "_VALUE_RETURNED") b l ≡ Ok m → n ≡ left m → returned value k ≡ Ok n
returned_as value k l m n z b is told first second last =
    let one : with_name (codes "_VALUE") (or_zero value) k ≡ Ok l = ap (λ (x : ℤ). with_name (codes "_VALUE") x k) (sym is) ∙ first in
    let two : with_name (codes "_VALUE_RETURNED") (truth (is_some value)) l ≡ Ok m = ap (λ (x : ℤ). with_name (codes "_VALUE_RETURNED") x l) (sym told) ∙ second in
    ap (λ (r : Result Stored StoreFault). r >>= λ x. with_name (codes "_VALUE_RETURNED") (truth (is_some value)) x >>= λ y. Ok (left y)) one
    ∙ ap (λ (r : Result Stored StoreFault). r >>= λ y. Ok (left y)) two ∙ ap (λ (x : Stored). Ok x) (sym last)
