-- The text of a source, if the source contains these bytes.
use Rattle.std.proofs.Common.{◌≡◌, ℕ, List, Option, Some, Ok, IfSome, subst}
use Rattle.ngc_line_reader.specs.ProgramText.{ProgramText, program_of}

pub is_text : (known : Option (List ℕ)) (bytes : List ℕ) (p : ProgramText) → known ≡ Some bytes → IfSome known (λ bs. program_of bs ≡ Ok p) →
    program_of bytes ≡ Ok p
is_text known bytes p is said = subst (λ (k : Option (List ℕ)). IfSome k (λ bs. program_of bs ≡ Ok p)) is said
