-- Words whose value is a number: a number's part, and the word's after it.
use Rattle.std.specs.Prelude.{◌≡◌, ℕ, List, [], ◌∷◌, Result, Ok}
use Rattle.ngc_line_reader.specs.Scan.{◌>>=◌}
use Rattle.ngc_dialect_reader.specs.declared.part.Part.{Part}
use Rattle.ngc_dialect_reader.specs.declared.part.PartKind.TheVariants as kinds
use Rattle.ngc_dialect_reader.specs.declared.part.Literal.{Literal}
use Rattle.ngc_dialect_parameters.specs.declared.fault.Cause.{Cause}
use Rattle.ngc_dialect_parameters.specs.Evaluation.{Sums, literal, word}

-- parts that begin with a number and the word that takes it
abbrev pub BeginWord : Literal → ℕ → List Part → Type 0
BeginWord number letter [] = ⊥
BeginWord number letter (p ∷ []) = ⊥
BeginWord number letter (p ∷ (q ∷ parts)) = (p.kind ≡ kinds.Number number) × (q.kind ≡ kinds.Word letter)

-- what the two do
abbrev pub number_said : Literal → ℕ → Sums → Result Sums Cause
number_said number letter s = literal number s >>= λ t. Ok (word letter t)
