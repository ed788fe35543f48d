-- The breaches over commands, one command further.
use Rattle.std.proofs.Common.{◌≡◌, ℕ, ◌+◌, List, [], ◌∷◌, ◌++◌, length, Option, Some, None, ap, refl, arith}
use Rattle.ngc_limit_warnings.specs.Breaches.{found_in, counted, breaches_among, with_later}
use Rattle.ngc_limit_warnings.specs.declared.breach.Breach.{Breach}
use Rattle.ngc_limit_warnings.specs.declared.breach.Breaches.{Breaches}
use Rattle.ngc_limit_warnings.specs.declared.breach.Found.{Found}

-- one is counted, and then the later ones
pub one_more : (found : Option Breaches) (line : ℕ) (breach : Option Breach) (fs : List Found) →
    with_later (counted found line breach) fs ≡ with_later found (found_in line breach ++ fs)
one_more None line None fs = refl
one_more (Some s) line None fs = refl
one_more None line (Some breach) fs =
    ap (λ (n : ℕ). Some (record { first = record { line = line; breach = breach }; count = n })) (omega arith)
one_more (Some s) line (Some breach) fs = ap (λ (n : ℕ). Some (record s { count = n })) (omega arith)

pub none_later : (found : Option Breaches) → with_later found [] ≡ found
none_later None = refl
none_later (Some s) = ap (λ (n : ℕ). Some (record s { count = n })) (omega arith)
