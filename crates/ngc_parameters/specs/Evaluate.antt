-- Values over symbols, from left to right, for contracts of private functions: Meaning defines the
-- values of trees. steps bounds the number of symbols, room the nesting.
use Rattle.std.specs.Prelude.{ℕ, zero, suc, ◌-◌, ◌==◌, ℤ, List, [], ◌∷◌, Result, Ok, Err}
use Rattle.std.specs.Prelude.{if◌then◌else◌}
use Rattle.ngc_line_reader.specs.declared.token.Operator.TheVariants.{Add, Subtract, Multiply}
use Rattle.ngc_line_reader.specs.declared.token.Operator.TheVariants.{Divide}
use Rattle.ngc_line_reader.specs.declared.token.Symbol.{Symbol}
use Rattle.ngc_line_reader.specs.declared.token.Symbol.TheVariants as mark
use Rattle.ngc_parameters.specs.declared.fault.EvalFault.{EvalFault}
use Rattle.ngc_parameters.specs.declared.fault.EvalFault.TheVariants.{TooDeep}
use Rattle.ngc_parameters.specs.Meaning.{◌>>=◌, Parameters, index_of, apply, Before, nothing, left}
use Rattle.ngc_parameters.specs.Meaning.{joined}

-- a value, and the remaining symbols
abbrev pub Found : Type 0
Found = Result (ℤ × List Symbol) EvalFault

-- the value of a parameter's index
abbrev pub parameter_value : Parameters → Found → Found
parameter_value parameters found = found >>= λ x. index_of x.0 >>= λ k. Ok (parameters k, x.1)

unfoldable mutual
  pub symbol_value : ℕ → ℕ → Parameters → List Symbol → Found
  symbol_value zero room parameters s = Err TooDeep
  symbol_value (suc steps) room parameters [] = Err TooDeep
  symbol_value (suc steps) room parameters (mark.Number z ∷ s) = Ok (z, s)
  symbol_value (suc steps) room parameters (mark.Parameter ∷ s) =
      if room == 0 then Err TooDeep else parameter_value parameters
      (symbol_value steps (room - 1) parameters s)
  symbol_value (suc steps) room parameters (mark.Open ∷ s) =
      if room == 0 then Err TooDeep
      else (symbol_value steps (room - 1) parameters s >>= λ x.
      symbols_with steps (room - 1) parameters nothing x.0 x.1)
  symbol_value (suc steps) room parameters (mark.Close ∷ s) = Err TooDeep
  symbol_value (suc steps) room parameters (mark.Operator o ∷ s) = Err TooDeep

  pub symbols_with : ℕ → ℕ → Parameters → Before → ℤ → List Symbol → Found
  symbols_with zero room parameters before term s = Err TooDeep
  symbols_with (suc steps) room parameters before term [] = Err TooDeep
  symbols_with (suc steps) room parameters before term (mark.Close ∷ s) =
      joined before term >>= λ z. Ok (z, s)
  symbols_with (suc steps) room parameters before term (mark.Operator Add ∷ s) =
      joined before term >>= λ t. symbol_value steps room parameters s >>= λ x.
      symbols_with steps room parameters (left t Add) x.0 x.1
  symbols_with (suc steps) room parameters before term (mark.Operator Subtract ∷ s) =
      joined before term >>= λ t. symbol_value steps room parameters s >>= λ x.
      symbols_with steps room parameters (left t Subtract) x.0 x.1
  symbols_with (suc steps) room parameters before term (mark.Operator Multiply ∷ s) =
      symbol_value steps room parameters s >>= λ x. apply Multiply term x.0 >>= λ t.
      symbols_with steps room parameters before t x.1
  symbols_with (suc steps) room parameters before term (mark.Operator Divide ∷ s) =
      symbol_value steps room parameters s >>= λ x. apply Divide term x.0 >>= λ t.
      symbols_with steps room parameters before t x.1
  symbols_with (suc steps) room parameters before term (mark.Number z ∷ s) = Err TooDeep
  symbols_with (suc steps) room parameters before term (mark.Parameter ∷ s) = Err TooDeep
  symbols_with (suc steps) room parameters before term (mark.Open ∷ s) = Err TooDeep
