-- A real value as the list of its symbols, in the order in which they are written, and as tokens,
-- which are symbols with their columns.
use Rattle.std.specs.Prelude.{ℕ, List, [], ◌∷◌, ◌++◌, length, map}
use Rattle.ngc_fixed_length.specs.Limits.{IsValue}
use Rattle.ngc_line_reader.specs.declared.token.Symbol.{Symbol}
use Rattle.ngc_line_reader.specs.declared.token.Symbol.TheVariants as mark
use Rattle.ngc_line_reader.specs.declared.token.Token.{Token}
use Rattle.ngc_line_reader.specs.Grammar.{Real, number, parameter, bracket, Rest, close, next}
use Rattle.ngc_line_reader.specs.Grammar.{real_text, rest_text}
use Rattle.ngc_line_reader.specs.Numbers.{numeral_value}

abbrev mutual
  pub symbols_of : Real → List Symbol
  symbols_of (number n) = mark.Number (numeral_value n) ∷ []
  symbols_of (parameter index) = mark.Parameter ∷ symbols_of index
  symbols_of (bracket first rest) = mark.Open ∷ (symbols_of first ++ rest_symbols rest)

  pub rest_symbols : Rest → List Symbol
  rest_symbols close = mark.Close ∷ []
  rest_symbols (next operator value rest) =
      mark.Operator operator ∷ (symbols_of value ++ rest_symbols rest)

-- tokens without their columns
abbrev pub symbols : List Token → List Symbol
symbols tokens = map (λ t. t.symbol) tokens

-- a symbol at the front of a text; place maps the number of bytes from a byte on to the byte's
-- column
abbrev pub token_at : (ℕ → ℕ) → Symbol → List ℕ → Token
token_at place symbol text = record { symbol = symbol; column = place (length text) }

-- the tokens of a real value with the text end after it
abbrev mutual
  pub tokens_of : (ℕ → ℕ) → Real → List ℕ → List Token
  tokens_of place (number n) end =
      token_at place (mark.Number (numeral_value n)) (real_text (number n) ++ end) ∷ []
  tokens_of place (parameter index) end =
      token_at place mark.Parameter (real_text (parameter index) ++ end) ∷ tokens_of place index end
  tokens_of place (bracket first rest) end =
      token_at place mark.Open (real_text (bracket first rest) ++ end)
      ∷ (tokens_of place first (rest_text rest ++ end) ++ rest_tokens place rest end)

  pub rest_tokens : (ℕ → ℕ) → Rest → List ℕ → List Token
  rest_tokens place close end = token_at place mark.Close (rest_text close ++ end) ∷ []
  rest_tokens place (next operator value rest) end =
      token_at place (mark.Operator operator) (rest_text (next operator value rest) ++ end)
      ∷ (tokens_of place value (rest_text rest ++ end) ++ rest_tokens place rest end)

-- each number written in it is a value: at most 10^9 in size (our own)
abbrev mutual
  pub IsWithinLimit : Real → Type 0
  IsWithinLimit (number n) = IsValue (numeral_value n)
  IsWithinLimit (parameter index) = IsWithinLimit index
  IsWithinLimit (bracket first rest) = IsWithinLimit first × IsRestWithinLimit rest

  pub IsRestWithinLimit : Rest → Type 0
  IsRestWithinLimit close = Unit {0}
  IsRestWithinLimit (next operator value rest) = IsWithinLimit value × IsRestWithinLimit rest
