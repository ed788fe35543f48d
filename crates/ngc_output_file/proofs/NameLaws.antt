-- Names that are not that of the output, and files that stay as they are.
use Rattle.std.proofs.Common.{◌≡◌, ℕ, Bool, true, false, List, ◌∷◌, Some, ◌∙◌, ⊎_elim}
use Rattle.std.specs.Prelude.{Option, option_map}
use Rattle.std.specs.Borrow.{Bor}
use Rattle.std.proofs.lemmas.Bool.{both_ways}
use Rattle.ngc_output_file.specs.Names.{HasName}
use Rattle.ngc_output_file.specs.Outputs.{KeepsAll, OutputBytes}

-- a name is among those after one that it isn't
pub after : (name : List ℕ) (other : Option (Bor (List ℕ))) (rest : List (Option (Bor (List ℕ)))) (is : Bool)
    → (option_map (λ n. n.now) other ≡ Some name → is ≡ true) → is ≡ false → HasName name (other ∷ rest) → HasName name rest
after name other rest is named none has = ⊎_elim (λ e. absurd (both_ways is none (named e))) (λ h. h) has

pub keeps_on : (a b c : OutputBytes) → KeepsAll a b → KeepsAll b c → KeepsAll a c
keeps_on a b c first second = λ name. second name ∙ first name
