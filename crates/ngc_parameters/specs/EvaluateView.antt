-- The arguments and results of the functions on tokens, as the definitions on symbols see them.
use Rattle.std.specs.Prelude.{◌≡◌, ℤ, pos, List, Option, Some, None, Result, Ok, Err}
use Rattle.std.specs.Prelude.{slice_index_or}
use Rattle.std.specs.Borrow.{Bor}
use Rattle.ngc_line_reader.specs.declared.token.Operator.{Operator}
use Rattle.ngc_line_reader.specs.declared.token.Symbol.{Symbol}
use Rattle.ngc_line_reader.specs.declared.token.Token.{Token}
use Rattle.ngc_line_reader.specs.Tokens.{symbols}
use Rattle.ngc_parameters.specs.declared.fault.EvalFault.{EvalFault}
use Rattle.ngc_parameters.specs.Meaning.{◌>>=◌, Parameters, Before, nothing, left}
use Rattle.ngc_parameters.specs.Evaluate.{Found}

-- the contents of a slice
abbrev pub held : List ℤ → Parameters
held values k = slice_index_or values k (pos 0)

abbrev pub before_of : Option (ℤ × Operator) → Before
before_of None = nothing
before_of (Some x) = left x.0 x.1

abbrev pub ValueResultIs : Result (ℤ × Bor (List Token)) EvalFault → Found → Type 0
ValueResultIs (Ok x) found = found ≡ Ok (x.0, symbols x.1.now)
ValueResultIs (Err e) found = found ≡ Err e

-- a value, with the remaining symbols
abbrev pub with_rest : List Symbol → Result ℤ EvalFault → Found
with_rest r value = value >>= λ z. Ok (z, r)
