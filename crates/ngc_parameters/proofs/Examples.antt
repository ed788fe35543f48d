-- Worked examples, evaluated.
use Rattle.std.proofs.Common.{◌≡◌, ℕ, zero, suc, ℤ, pos, negsuc, List, [], ◌∷◌, Some, None, Result, Ok, Err, refl, eqb, cond}
use Rattle.std.specs.Prelude.{codes}
use Rattle.ngc_fixed_length.specs.declared.fault.NumberFault.TheVariants.{DivisionByZero, TooLarge}
use Rattle.ngc_line_reader.specs.declared.token.Operator.TheVariants.{Add, Subtract, Multiply, Divide}
use Rattle.ngc_parameters.specs.declared.fault.EvalFault.{EvalFault}
use Rattle.ngc_parameters.specs.declared.fault.EvalFault.TheVariants.{Number, IndexNotWhole, IndexOutOfRange, TooDeep}
use Rattle.ngc_line_reader.specs.Grammar.{bare, minus, Real, number, parameter, bracket, close, next}
use Rattle.ngc_line_reader.specs.Numbers.{numeral_value}
use Rattle.ngc_parameters.specs.Meaning.{Parameters, value_of, value_within, after_settings}

abbrev whole : List ℕ → Real
whole ds = number (record { sign = bare; whole = ds; decimals = None })

abbrev decimal : List ℕ → List ℕ → Real
decimal ds es = number (record { sign = bare; whole = ds; decimals = Some es })

abbrev zeros : Parameters
zeros k = pos 0

abbrev some : Parameters
some k = cond (eqb k 1) (pos 2000000) (cond (eqb k 2) (pos 7000000) (pos 0))

abbrev holds : Parameters → Real → Result ℤ EvalFault
holds p v = value_of p v

-- [2+3*4-10/4]
abbrev sum_of_products : Real
sum_of_products = bracket (whole (codes "2"))
    (next Add (whole (codes "3")) (next Multiply (whole (codes "4")) (next Subtract (whole (codes "10")) (next Divide (whole (codes "4")) close))))

-- values
bracket_value : value_of zeros sum_of_products ≡ Ok (pos 11500000)
unfolding value_within
bracket_value = refl

third : value_of zeros (bracket (whole (codes "1")) (next Divide (whole (codes "3")) close)) ≡ Ok (pos 333333)
unfolding value_within
third = refl

third_times_three : value_of zeros (bracket (whole (codes "1")) (next Divide (whole (codes "3")) (next Multiply (whole (codes "3")) close))) ≡ Ok (pos 999999)
unfolding value_within
third_times_three = refl

by_zero : value_of zeros (bracket (whole (codes "1")) (next Divide (whole (codes "0")) close)) ≡ Err (Number DivisionByZero)
unfolding value_within
by_zero = refl

half_a_millionth : value_of zeros (decimal (codes "0") (codes "0000005")) ≡ Ok (pos 1)
unfolding value_within
half_a_millionth = refl

minus_half_a_millionth : numeral_value (record { sign = minus; whole = []; decimals = Some (codes "0000005") }) ≡ negsuc 0
minus_half_a_millionth = refl

too_large : value_of zeros (whole (codes "1000000001")) ≡ Err (Number TooLarge)
unfolding value_within
too_large = refl

indirect : value_of some (parameter (parameter (whole (codes "1")))) ≡ Ok (pos 7000000)
unfolding value_within
indirect = refl

not_whole : value_of some (parameter (decimal (codes "1") (codes "5"))) ≡ Err IndexNotWhole
unfolding value_within
not_whole = refl

index_zero : value_of some (parameter (whole (codes "0"))) ≡ Err IndexOutOfRange
unfolding value_within
index_zero = refl

index_past : value_of some (parameter (whole (codes "5161"))) ≡ Err IndexOutOfRange
unfolding value_within
index_past = refl

abbrev hashes : ℕ → Real → Real
hashes zero v = v
hashes (suc n) v = parameter (hashes n v)

abbrev ones : Parameters
ones k = pos 1000000

sixteen : value_of ones (hashes 16 (whole (codes "1"))) ≡ Ok (pos 1000000)
unfolding value_within
sixteen = refl

seventeen : value_of ones (hashes 17 (whole (codes "1"))) ≡ Err TooDeep
unfolding value_within
seventeen = refl

-- the last setting of a parameter counts
last_counts : after_settings ((5, pos 1) ∷ ((5, pos 2) ∷ [])) zeros 5 ≡ pos 2
last_counts = refl
