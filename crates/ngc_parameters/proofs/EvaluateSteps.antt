-- One step of the functions on tokens.
use Rattle.std.proofs.Common.{◌≡◌, ℕ, zero, suc, ◌-◌, ◌<◌, false, ℤ, List, [], ◌∷◌, Ok, Err, refl, arith}
use Rattle.std.specs.Prelude.{if◌then◌else◌, ◌==◌}
use Rattle.std.proofs.lemmas.Bool.Decides.{nat_tests}
use Rattle.ngc_line_reader.specs.declared.token.Operator.{Operator}
use Rattle.ngc_line_reader.specs.declared.token.Operator.TheVariants.{Add, Subtract, Multiply, Divide}
use Rattle.ngc_line_reader.specs.declared.token.Symbol.{Symbol}
use Rattle.ngc_line_reader.specs.declared.token.Symbol.TheVariants as mark
use Rattle.ngc_parameters.specs.declared.fault.EvalFault.{EvalFault}
use Rattle.ngc_parameters.specs.declared.fault.EvalFault.TheVariants.{TooDeep}
use Rattle.ngc_parameters.specs.Meaning.{◌>>=◌, Parameters, apply, Before, nothing, left, joined}
use Rattle.ngc_parameters.specs.Evaluate.{Found, parameter_value, symbol_value, symbols_with}

-- a value's first token, and the following ones
abbrev pub by_first : ℕ → ℕ → Parameters → List Symbol → Found
by_first steps room p [] = Err TooDeep
by_first steps room p (mark.Number z ∷ s) = Ok (z, s)
by_first steps room p (mark.Parameter ∷ s) = if room == 0 then Err TooDeep else parameter_value p (symbol_value steps (room - 1) p s)
by_first steps room p (mark.Open ∷ s) =
    if room == 0 then Err TooDeep else (symbol_value steps (room - 1) p s >>= λ x. symbols_with steps (room - 1) p nothing x.0 x.1)
by_first steps room p (mark.Close ∷ s) = Err TooDeep
by_first steps room p (mark.Operator o ∷ s) = Err TooDeep

abbrev pub by_operator : ℕ → ℕ → Parameters → Before → ℤ → Operator → List Symbol → Found
by_operator steps room p before term Add s = joined before term >>= λ t. symbol_value steps room p s >>= λ x. symbols_with steps room p (left t Add) x.0 x.1
by_operator steps room p before term Subtract s =
    joined before term >>= λ t. symbol_value steps room p s >>= λ x. symbols_with steps room p (left t Subtract) x.0 x.1
by_operator steps room p before term Multiply s = symbol_value steps room p s >>= λ x. apply Multiply term x.0 >>= λ t. symbols_with steps room p before t x.1
by_operator steps room p before term Divide s = symbol_value steps room p s >>= λ x. apply Divide term x.0 >>= λ t. symbols_with steps room p before t x.1

abbrev pub by_next : ℕ → ℕ → Parameters → Before → ℤ → List Symbol → Found
by_next steps room p before term [] = Err TooDeep
by_next steps room p before term (mark.Close ∷ s) = joined before term >>= λ z. Ok (z, s)
by_next steps room p before term (mark.Operator o ∷ s) = by_operator steps room p before term o s
by_next steps room p before term (mark.Number z ∷ s) = Err TooDeep
by_next steps room p before term (mark.Parameter ∷ s) = Err TooDeep
by_next steps room p before term (mark.Open ∷ s) = Err TooDeep

opened : (steps room : ℕ) (p : Parameters) (s : List Symbol) → symbol_value (suc steps) room p s ≡ by_first steps room p s
unfolding symbol_value
opened steps room p [] = refl
opened steps room p (mark.Number z ∷ s) = refl
opened steps room p (mark.Parameter ∷ s) = refl
opened steps room p (mark.Open ∷ s) = refl
opened steps room p (mark.Close ∷ s) = refl
opened steps room p (mark.Operator o ∷ s) = refl

pub value_step : (steps room : ℕ) (p : Parameters) (s : List Symbol) → 0 < steps → symbol_value steps room p s ≡ by_first (steps - 1) room p s
value_step zero room p s h = absurd (omega arith)
value_step (suc steps) room p s h = let e : suc steps - 1 ≡ steps = omega arith in rw e (opened steps room p s)

with_opened : (steps room : ℕ) (p : Parameters) (before : Before) (term : ℤ) (s : List Symbol) →
    symbols_with (suc steps) room p before term s ≡ by_next steps room p before term s
unfolding symbols_with
with_opened steps room p before term [] = refl
with_opened steps room p before term (mark.Number z ∷ s) = refl
with_opened steps room p before term (mark.Parameter ∷ s) = refl
with_opened steps room p before term (mark.Open ∷ s) = refl
with_opened steps room p before term (mark.Close ∷ s) = refl
with_opened steps room p before term (mark.Operator Add ∷ s) = refl
with_opened steps room p before term (mark.Operator Subtract ∷ s) = refl
with_opened steps room p before term (mark.Operator Multiply ∷ s) = refl
with_opened steps room p before term (mark.Operator Divide ∷ s) = refl

pub with_step : (steps room : ℕ) (p : Parameters) (before : Before) (term : ℤ) (s : List Symbol) → 0 < steps →
    symbols_with steps room p before term s ≡ by_next (steps - 1) room p before term s
with_step zero room p before term s h = absurd (omega arith)
with_step (suc steps) room p before term s h = let e : suc steps - 1 ≡ steps = omega arith in rw e (with_opened steps room p before term s)

-- a fault inside is the fault
pub inner_err : (steps room : ℕ) (p : Parameters) (rest : List Symbol) (e : EvalFault) → 0 < steps → 0 < room →
    symbol_value (steps - 1) (room - 1) p rest ≡ Err e
    → (symbol_value steps room p (mark.Parameter ∷ rest) ≡ Err e) × (symbol_value steps room p (mark.Open ∷ rest) ≡ Err e)
inner_err steps zero p rest e h k f = absurd (omega arith)
inner_err steps (suc room) p rest e h k f =
    let n : (suc room == 0) ≡ false = grind (arith, nat_tests) in
    (rw (value_step steps (suc room) p (mark.Parameter ∷ rest) h, n, f) refl, rw (value_step steps (suc room) p (mark.Open ∷ rest) h, n, f) refl)
