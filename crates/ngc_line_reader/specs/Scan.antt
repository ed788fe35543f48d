-- Reading a real value from left to right, with the first fault that it has (our own: the manual
-- names no faults). The definitions on lines use Grammar; these define only which fault is
-- returned, and what was read before it.
use Rattle.std.specs.Prelude.{ℕ, zero, suc, ◌≡◌, ◌==◌, ◌&&◌, ◌||◌, nat_le, not, ℤ, List, [], ◌∷◌}
use Rattle.std.specs.Prelude.{◌++◌, length, drop, Option, Some, None, Bool, false, Result, Ok, Err}
use Rattle.std.specs.Prelude.{if◌then◌else◌}
use Rattle.std.specs.Char.{is_ascii_digit}
use Rattle.std.specs.List.{take_while, prefix_len}
use Rattle.ngc_fixed_length.specs.declared.fault.NumberFault.{NumberFault}
use Rattle.ngc_fixed_length.specs.Limits.{limited}
use Rattle.ngc_line_reader.specs.declared.token.Operator.{Operator}
use Rattle.ngc_line_reader.specs.declared.token.Operator.TheVariants as operators
use Rattle.ngc_line_reader.specs.declared.token.Token.{Token}
use Rattle.ngc_line_reader.specs.declared.token.Symbol.TheVariants as mark
use Rattle.ngc_line_reader.specs.declared.fault.FaultKind.{FaultKind}
use Rattle.ngc_line_reader.specs.declared.fault.FaultKind.TheVariants.{TooLarge, BadNumber, Bracket}
use Rattle.ngc_line_reader.specs.declared.fault.ItemRefusal.{ItemRefusal}
use Rattle.ngc_line_reader.specs.declared.fault.ItemRefusal.TheVariants.{OfItem, AtByte}
use Rattle.ngc_line_reader.specs.Grammar.{Sign, bare, plus, minus, digits_of}
use Rattle.ngc_line_reader.specs.Numbers.{written_value}
use Rattle.ngc_line_reader.specs.Tokens.{token_at}

infixl 10 ◌>>=◌
abbrev pub ◌>>=◌ : {A B E : Type 0} → Result A E → (A → Result B E) → Result B E
(Ok x) >>= f = f x
(Err e) >>= f = Err e

-- A function's result, seen by view, is that of the reading.
abbrev pub Gives : {X Y E : Type 0} → (X → Y) → Result X E → Result Y E → Type 0
Gives view (Ok x) read = read ≡ Ok (view x)
Gives view (Err e) read = read ≡ Err e

abbrev pub begins : ℕ → List ℕ → Bool
begins b [] = false
begins b (c ∷ s) = c == b

-- the characters that are allowed somewhere outside comments: digits, letters and # % ( ) * + - . /
-- ; = [ ]
abbrev pub is_known : ℕ → Bool
is_known c = (nat_le 65 c && nat_le c 91) || (nat_le 45 c && nat_le c 57)
    || (nat_le 40 c && nat_le c 43) || (c == 35) || (c == 37) || (c == 59) || (c == 61) || (c == 93)

abbrev pub begins_unknown : List ℕ → Bool
begins_unknown [] = false
begins_unknown (c ∷ s) = not (is_known c)

-- an item that can't continue at s: for its own fault, or for an unknown character there
abbrev pub refusal : FaultKind → List ℕ → ItemRefusal
refusal kind s = if begins_unknown s then AtByte (length s) else OfItem kind

abbrev pub sign_at : List ℕ → Sign
sign_at s = if begins 43 s then plus else (if begins 45 s then minus else bare)

abbrev pub after_sign : List ℕ → List ℕ
after_sign s = if begins 43 s then drop 1 s else (if begins 45 s then drop 1 s else s)

abbrev pub digits_at : List ℕ → List ℕ
digits_at s = take_while is_ascii_digit s

abbrev pub after_digits : List ℕ → List ℕ
after_digits s = drop (prefix_len is_ascii_digit s) s

-- the digits after a point, if there is one
abbrev pub decimals_at : List ℕ → Option (List ℕ)
decimals_at s = if begins 46 s then Some (digits_at (drop 1 s)) else None

abbrev pub after_decimals : List ℕ → List ℕ
after_decimals s = if begins 46 s then after_digits (drop 1 s) else s

abbrev pub value_fits : Result ℤ NumberFault → Result ℤ ItemRefusal
value_fits (Ok z) = Ok z
value_fits (Err e) = Err (OfItem TooLarge)

-- the digits of a number
abbrev pub whole_at : List ℕ → List ℕ
whole_at s = digits_at (after_sign s)

abbrev pub fraction_at : List ℕ → List ℕ
fraction_at s = digits_of (decimals_at (after_digits (after_sign s)))

abbrev pub after_number : List ℕ → List ℕ
after_number s = after_decimals (after_digits (after_sign s))

-- a number's value, and the rest
unfoldable pub number_at : List ℕ → Result (ℤ × List ℕ) ItemRefusal
number_at s =
    if (length (whole_at s) == 0) && (length (fraction_at s) == 0)
    then Err (refusal BadNumber (after_number s)) else (
    if begins 46 (after_number s) then Err (OfItem BadNumber) else
    (value_fits (limited (written_value (begins 45 s) (whole_at s) (fraction_at s))) >>= λ z.
    Ok (z, after_number s)))

abbrev pub number_token : (ℕ → ℕ) → List Token → List ℕ → Result (List Token × List ℕ) ItemRefusal
number_token place found s =
    number_at s >>= λ x. Ok (found ++ (token_at place (mark.Number x.0) s ∷ []), x.1)

unfoldable pub operator_at : List ℕ → Result Operator ItemRefusal
operator_at s = if begins 43 s then Ok operators.Add
    else (if begins 45 s then Ok operators.Subtract
    else (if begins 42 s then Ok operators.Multiply
    else (if begins 47 s then Ok operators.Divide else Err (refusal Bracket s))))

-- a real value's tokens, after those so far, and the rest; room is greater than the number of bytes
unfoldable mutual
  pub real_at : (ℕ → ℕ) → ℕ → List Token → List ℕ → Result (List Token × List ℕ) ItemRefusal
  real_at place zero found s = Err (OfItem Bracket)
  real_at place (suc room) found s =
      if begins 35 s then real_at place room (found ++ (token_at place mark.Parameter s ∷ []))
      (drop 1 s) else (
      if begins 91 s
      then (real_at place room (found ++ (token_at place mark.Open s ∷ [])) (drop 1 s) >>= λ x.
      rest_at place room x.0 x.1) else
      number_token place found s)

  pub rest_at : (ℕ → ℕ) → ℕ → List Token → List ℕ → Result (List Token × List ℕ) ItemRefusal
  rest_at place zero found s = Err (OfItem Bracket)
  rest_at place (suc room) found s =
      if begins 93 s then Ok (found ++ (token_at place mark.Close s ∷ []), drop 1 s) else (
      operator_at s >>= λ o. real_at place room (found ++ (token_at place (mark.Operator o) s ∷ []))
      (drop 1 s) >>= λ x. rest_at place room x.0 x.1)
