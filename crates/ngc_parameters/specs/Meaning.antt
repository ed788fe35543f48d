-- The value of a real value, from the current parameters (NISTIR 6556, 3.3.2.1 to 3.3.2.3, and
-- 3.3.3 for settings): * and / bind tighter than + and -, equal ones go from left to right, and all
-- values of a line are computed before its settings are made. Our own: values are whole millionths,
-- rounded to the nearest; an index is exactly whole; brackets and # nest at most 16 deep; of
-- several faults the first from left to right counts.
use Rattle.std.specs.Prelude.{ℕ, zero, suc, ◌/◌, ◌%◌, ◌==◌, nat_le, ◌&&◌, ℤ, pos, negsuc}
use Rattle.std.specs.Prelude.{unsigned_abs, List, [], ◌∷◌, Result, Ok, Err, if◌then◌else◌}
use Rattle.ngc_fixed_length.specs.declared.fault.NumberFault.{NumberFault}
use Rattle.ngc_fixed_length.specs.Limits.{MILLION, limited, sum, difference, product, quotient}
use Rattle.ngc_line_reader.specs.declared.token.Operator.{Operator}
use Rattle.ngc_line_reader.specs.declared.token.Operator.TheVariants.{Add, Subtract, Multiply}
use Rattle.ngc_line_reader.specs.declared.token.Operator.TheVariants.{Divide}
use Rattle.ngc_line_reader.specs.declared.letter.Letter.{Letter}
use Rattle.ngc_parameters.specs.declared.fault.EvalFault.{EvalFault}
use Rattle.ngc_parameters.specs.declared.fault.EvalFault.TheVariants.{Number, IndexNotWhole}
use Rattle.ngc_parameters.specs.declared.fault.EvalFault.TheVariants.{IndexOutOfRange, TooDeep}
use Rattle.ngc_line_reader.specs.Grammar.{Real, number, parameter, bracket, Rest, close, next, Item}
use Rattle.ngc_line_reader.specs.Grammar.{word, setting, comment}
use Rattle.ngc_line_reader.specs.Numbers.{numeral_value}

infixl 10 ◌>>=◌
abbrev pub ◌>>=◌ : {A B : Type 0} → Result A EvalFault → (A → Result B EvalFault) →
    Result B EvalFault
(Ok x) >>= f = f x
(Err e) >>= f = Err e

abbrev pub from_number : Result ℤ NumberFault → Result ℤ EvalFault
from_number (Ok x) = Ok x
from_number (Err e) = Err (Number e)

-- the values of the parameters, in millionths
abbrev pub Parameters : Type 0
Parameters = ℕ → ℤ

-- an index: a value that is a whole number from 1 to 5160
abbrev pub index_in_range : ℤ → Result ℕ EvalFault
index_in_range (pos n) = if nat_le 1 (n / MILLION) && nat_le (n / MILLION) 5160
    then Ok (n / MILLION) else Err IndexOutOfRange
index_in_range (negsuc n) = Err IndexOutOfRange

abbrev pub index_of : ℤ → Result ℕ EvalFault
index_of z = if unsigned_abs z % MILLION == 0 then index_in_range z else Err IndexNotWhole

abbrev pub apply : Operator → ℤ → ℤ → Result ℤ EvalFault
apply Add x y = from_number (sum x y)
apply Subtract x y = from_number (difference x y)
apply Multiply x y = from_number (product x y)
apply Divide x y = from_number (quotient x y)

-- the text in brackets before the term that is read: nothing, or a sum and the sign after it
pub data Before : Type 0 where
  nothing : Before
  left : ℤ → Operator → Before

-- the sum with a term
abbrev pub joined : Before → ℤ → Result ℤ EvalFault
joined nothing term = Ok term
joined (left total operator) term = apply operator total term

-- In brackets and after # the nesting grows by one, and room is the remaining depth. * and / apply
-- to the term at once; + and - end it. So + and - bind less, and equal ones go from left to right.
unfoldable mutual
  pub value_within : ℕ → Parameters → Real → Result ℤ EvalFault
  value_within room parameters (number n) = from_number (limited (numeral_value n))
  value_within zero parameters (parameter index) = Err TooDeep
  value_within (suc room) parameters (parameter index) = do
    i ← value_within room parameters index
    k ← index_of i
    Ok (parameters k)
  value_within zero parameters (bracket first rest) = Err TooDeep
  value_within (suc room) parameters (bracket first rest) = do
    term ← value_within room parameters first
    value_with room parameters nothing term rest

  pub value_with : ℕ → Parameters → Before → ℤ → Rest → Result ℤ EvalFault
  value_with room parameters before term close = joined before term
  value_with room parameters before term (next Add value rest) = do
    total ← joined before term
    x ← value_within room parameters value
    value_with room parameters (left total Add) x rest
  value_with room parameters before term (next Subtract value rest) = do
    total ← joined before term
    x ← value_within room parameters value
    value_with room parameters (left total Subtract) x rest
  value_with room parameters before term (next Multiply value rest) = do
    x ← value_within room parameters value
    t ← apply Multiply term x
    value_with room parameters before t rest
  value_with room parameters before term (next Divide value rest) = do
    x ← value_within room parameters value
    t ← apply Divide term x
    value_with room parameters before t rest

-- the value of a real value
abbrev pub value_of : Parameters → Real → Result ℤ EvalFault
value_of parameters value = value_within 16 parameters value

-- the words' letters and values, and the settings' indices and values, in order
abbrev pub words_of : Parameters → List Item → Result (List (Letter × ℤ)) EvalFault
words_of parameters [] = Ok []
words_of parameters (word letter value ∷ items) = do
  x ← value_of parameters value
  xs ← words_of parameters items
  Ok ((letter, x) ∷ xs)
words_of parameters (setting index value ∷ items) = words_of parameters items
words_of parameters (comment bytes ∷ items) = words_of parameters items

abbrev pub settings_of : Parameters → List Item → Result (List (ℕ × ℤ)) EvalFault
settings_of parameters [] = Ok []
settings_of parameters (word letter value ∷ items) = settings_of parameters items
settings_of parameters (setting index value ∷ items) = do
  i ← value_of parameters index
  k ← index_of i
  x ← value_of parameters value
  xs ← settings_of parameters items
  Ok ((k, x) ∷ xs)
settings_of parameters (comment bytes ∷ items) = settings_of parameters items

-- the parameters after settings, made from left to right, so that the last setting of a parameter
-- counts
abbrev pub after_settings : List (ℕ × ℤ) → Parameters → Parameters
after_settings [] parameters k = parameters k
after_settings ((i, x) ∷ settings) parameters k =
    after_settings settings (λ j. if j == i then x else parameters j) k
