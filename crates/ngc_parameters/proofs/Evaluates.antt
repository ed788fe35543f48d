-- The symbols of a real value have its value.
use Rattle.std.proofs.Common.{◌≡◌, ℕ, zero, suc, ◌-◌, ◌<◌, ℤ, ap, false, List, ◌++◌, length, Result, Ok, Err, refl, append_assoc, length-append, arith}
use Rattle.std.specs.Prelude.{◌==◌}
use Rattle.ngc_fixed_length.specs.Limits.{limited, IsValue}
use Rattle.ngc_line_reader.specs.declared.token.Operator.TheVariants.{Add, Subtract, Multiply, Divide}
use Rattle.ngc_line_reader.specs.declared.token.Symbol.{Symbol}
use Rattle.ngc_parameters.specs.declared.fault.EvalFault.{EvalFault}
use Rattle.ngc_line_reader.specs.Grammar.{Real, number, parameter, bracket, Rest, close, next}
use Rattle.ngc_line_reader.specs.Numbers.{numeral_value}
use Rattle.ngc_line_reader.specs.Tokens.{symbols_of, rest_symbols, IsWithinLimit, IsRestWithinLimit}
use Rattle.ngc_parameters.specs.Meaning.{◌>>=◌, from_number, Parameters, index_of, apply, Before, nothing, left, joined, value_within, value_with}
use Rattle.ngc_parameters.specs.EvaluateView.{with_rest}
use Rattle.ngc_parameters.specs.Evaluate.{Found, parameter_value, symbol_value, symbols_with}
use Rattle.std.proofs.lemmas.Bool.{le-leb}
use Rattle.std.proofs.lemmas.Bool.Decides.{nat_tests}

pub within : (z : ℤ) → IsValue z → from_number (limited z) ≡ Ok z
within z h = let e = le-leb _ _ h in rw e refl

indexed : (p : Parameters) (r : List Symbol) (value : Result ℤ EvalFault) →
    parameter_value p (with_rest r value) ≡ with_rest r (value >>= λ i. index_of i >>= λ k. Ok (p k))
indexed p r (Err e) = refl
indexed p r (Ok i) = found (index_of i) where
  found : (k : Result ℕ EvalFault) → (k >>= λ n. Ok (p n, r)) ≡ with_rest r (k >>= λ n. Ok (p n))
  found (Ok n) = refl
  found (Err e) = refl

-- reading continues after a value
on : (r s : List Symbol) (value : Result ℤ EvalFault) (go : ℤ → List Symbol → Found) (all : ℤ → Result ℤ EvalFault) → ((z : ℤ) → go z s ≡ with_rest r (all z))
    → (with_rest s value >>= λ x. go x.0 x.1) ≡ with_rest r (value >>= all)
on r s (Ok z) go all h = h z
on r s (Err e) go all h = refl

-- the same after another value
afterwards : (r : List Symbol) (value : Result ℤ EvalFault) (go : ℤ → Found) (all : ℤ → Result ℤ EvalFault) → ((z : ℤ) → go z ≡ with_rest r (all z)) →
    (value >>= go) ≡ with_rest r (value >>= all)
afterwards r (Ok z) go all h = h z
afterwards r (Err e) go all h = refl

not_zero : (n : ℕ) → (suc n == 0) ≡ false
not_zero n = grind (arith, nat_tests)

mutual
  unfolding symbol_value value_within

  pub evaluates : (v : Real) (r : List Symbol) (steps room : ℕ) (p : Parameters) → IsWithinLimit v → length (symbols_of v ++ r) < steps →
      symbol_value steps room p (symbols_of v ++ r) ≡ with_rest r (value_within room p v)
  evaluates (number n) r (suc steps) room p limit fits = rw (within (numeral_value n) limit) refl
  evaluates (parameter v) r (suc steps) zero p limit fits = refl
  evaluates (parameter v) r (suc steps) (suc room) p limit fits =
      let e : suc room - 1 ≡ room = omega arith in
      rw (not_zero room, e, evaluates v r steps room p limit (omega (arith, fits))) (indexed p r (value_within room p v))
  evaluates (bracket v rest) r (suc steps) zero p limit fits = refl
  evaluates (bracket v rest) r (suc steps) (suc room) p limit fits =
      let e : suc room - 1 ≡ room = omega arith in
      let regrouped : (symbols_of v ++ rest_symbols rest) ++ r ≡ symbols_of v ++ (rest_symbols rest ++ r) = append_assoc (symbols_of v) (rest_symbols rest) r in
      let longer = ap length regrouped in
      let more = length-append (symbols_of v) (rest_symbols rest ++ r) in
      rw (not_zero room, e, regrouped, evaluates v (rest_symbols rest ++ r) steps room p limit.0 (omega (arith, fits, longer)))
      (on r (rest_symbols rest ++ r) (value_within room p v) (λ z s. symbols_with steps room p nothing z s) (λ z. value_with room p nothing z rest)
      (λ z. evaluates_with rest r steps room p nothing z limit.1 (omega (arith, fits, longer, more))))
  evaluates v r zero room p limit fits = absurd (omega (arith, fits))

  pub evaluates_with : (rest : Rest) (r : List Symbol) (steps room : ℕ) (p : Parameters) (before : Before) (term : ℤ) → IsRestWithinLimit rest →
      length (rest_symbols rest ++ r) < steps
      → symbols_with steps room p before term (rest_symbols rest ++ r) ≡ with_rest r (value_with room p before term rest)
  evaluates_with close r (suc steps) room p before term limit fits = refl
  evaluates_with (next Add v rest) r (suc steps) room p before term limit fits =
      let regrouped : (symbols_of v ++ rest_symbols rest) ++ r ≡ symbols_of v ++ (rest_symbols rest ++ r) = append_assoc (symbols_of v) (rest_symbols rest) r in
      let longer = ap length regrouped in
      let more = length-append (symbols_of v) (rest_symbols rest ++ r) in
      rw (regrouped, evaluates v (rest_symbols rest ++ r) steps room p limit.0 (omega (arith, fits, longer)))
      (afterwards r (joined before term) (λ t. with_rest (rest_symbols rest ++ r) (value_within room p v) >>= λ x. symbols_with steps room p (left t Add) x.0 x.1)
      (λ t. value_within room p v >>= λ z. value_with room p (left t Add) z rest)
      (λ t. on r (rest_symbols rest ++ r) (value_within room p v) (λ z s. symbols_with steps room p (left t Add) z s)
      (λ z. value_with room p (left t Add) z rest)
      (λ z. evaluates_with rest r steps room p (left t Add) z limit.1 (omega (arith, fits, longer, more)))))
  evaluates_with (next Subtract v rest) r (suc steps) room p before term limit fits =
      let regrouped : (symbols_of v ++ rest_symbols rest) ++ r ≡ symbols_of v ++ (rest_symbols rest ++ r) = append_assoc (symbols_of v) (rest_symbols rest) r in
      let longer = ap length regrouped in
      let more = length-append (symbols_of v) (rest_symbols rest ++ r) in
      rw (regrouped, evaluates v (rest_symbols rest ++ r) steps room p limit.0 (omega (arith, fits, longer)))
      (afterwards r (joined before term)
      (λ t. with_rest (rest_symbols rest ++ r) (value_within room p v) >>= λ x. symbols_with steps room p (left t Subtract) x.0 x.1)
      (λ t. value_within room p v >>= λ z. value_with room p (left t Subtract) z rest)
      (λ t. on r (rest_symbols rest ++ r) (value_within room p v) (λ z s. symbols_with steps room p (left t Subtract) z s)
      (λ z. value_with room p (left t Subtract) z rest)
      (λ z. evaluates_with rest r steps room p (left t Subtract) z limit.1 (omega (arith, fits, longer, more)))))
  evaluates_with (next Multiply v rest) r (suc steps) room p before term limit fits =
      let regrouped : (symbols_of v ++ rest_symbols rest) ++ r ≡ symbols_of v ++ (rest_symbols rest ++ r) = append_assoc (symbols_of v) (rest_symbols rest) r in
      let longer = ap length regrouped in
      let more = length-append (symbols_of v) (rest_symbols rest ++ r) in
      rw (regrouped, evaluates v (rest_symbols rest ++ r) steps room p limit.0 (omega (arith, fits, longer)))
      (on r (rest_symbols rest ++ r) (value_within room p v) (λ z s. apply Multiply term z >>= λ t. symbols_with steps room p before t s)
      (λ z. apply Multiply term z >>= λ t. value_with room p before t rest)
      (λ z. afterwards r (apply Multiply term z) (λ t. symbols_with steps room p before t (rest_symbols rest ++ r)) (λ t. value_with room p before t rest)
      (λ t. evaluates_with rest r steps room p before t limit.1 (omega (arith, fits, longer, more)))))
  evaluates_with (next Divide v rest) r (suc steps) room p before term limit fits =
      let regrouped : (symbols_of v ++ rest_symbols rest) ++ r ≡ symbols_of v ++ (rest_symbols rest ++ r) = append_assoc (symbols_of v) (rest_symbols rest) r in
      let longer = ap length regrouped in
      let more = length-append (symbols_of v) (rest_symbols rest ++ r) in
      rw (regrouped, evaluates v (rest_symbols rest ++ r) steps room p limit.0 (omega (arith, fits, longer)))
      (on r (rest_symbols rest ++ r) (value_within room p v) (λ z s. apply Divide term z >>= λ t. symbols_with steps room p before t s)
      (λ z. apply Divide term z >>= λ t. value_with room p before t rest)
      (λ z. afterwards r (apply Divide term z) (λ t. symbols_with steps room p before t (rest_symbols rest ++ r)) (λ t. value_with room p before t rest)
      (λ t. evaluates_with rest r steps room p before t limit.1 (omega (arith, fits, longer, more)))))
  evaluates_with rest r zero room p before term limit fits = absurd (omega (arith, fits))
