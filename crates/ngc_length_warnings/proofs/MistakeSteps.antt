-- The mistakes over commands, one command further.
use Rattle.std.proofs.Common.{◌≡◌, ℕ, ◌+◌, List, [], ◌∷◌, ◌++◌, length, Option, Some, None, ap, refl, arith}
use Rattle.ngc_length_warnings.specs.Slips.{found_in, counted, slips_among, with_later}
use Rattle.ngc_length_warnings.specs.declared.slip.Found.{Found}
use Rattle.ngc_length_warnings.specs.declared.slip.Slip.{Slip}
use Rattle.ngc_length_warnings.specs.declared.slip.Slips.{Slips}

-- one is counted, and then the later ones
pub one_more : (found : Option Slips) (line : ℕ) (slip : Option Slip) (fs : List Found) →
    with_later (counted found line slip) fs ≡ with_later found (found_in line slip ++ fs)
one_more None line None fs = refl
one_more (Some s) line None fs = refl
one_more None line (Some slip) fs =
    ap (λ (n : ℕ). Some (record { first = record { line = line; slip = slip }; count = n })) (omega arith)
one_more (Some s) line (Some slip) fs = ap (λ (n : ℕ). Some (record s { count = n })) (omega arith)

pub none_later : (found : Option Slips) → with_later found [] ≡ found
none_later None = refl
none_later (Some s) = ap (λ (n : ℕ). Some (record s { count = n })) (omega arith)
