-- Tokens without their columns.
use Rattle.std.proofs.Common.{◌≡◌, ℕ, List, [], ◌∷◌, ◌++◌, length, refl, ap, sym, ◌∙◌, arith}
use Rattle.ngc_line_reader.specs.declared.token.Symbol.{Symbol}
use Rattle.ngc_line_reader.specs.declared.token.Token.{Token}
use Rattle.ngc_line_reader.specs.declared.token.Symbol.TheVariants as mark
use Rattle.ngc_line_reader.specs.Grammar.{Real, number, parameter, bracket, Rest, close, next, rest_text}
use Rattle.ngc_line_reader.specs.Tokens.{symbols_of, rest_symbols, symbols, tokens_of, rest_tokens}

pub symbols-append : (xs ys : List Token) → symbols (xs ++ ys) ≡ symbols xs ++ symbols ys
symbols-append [] ys = refl
symbols-append (x ∷ xs) ys = ap (λ (ss : List Symbol). x.symbol ∷ ss) (symbols-append xs ys)

pub length-symbols : (xs : List Token) → length (symbols xs) ≡ length xs
length-symbols [] = refl
length-symbols (x ∷ xs) = omega (arith, length-symbols xs)

both : (xs ys : List Token) (vs ws : List Symbol) → symbols xs ≡ vs → symbols ys ≡ ws → symbols (xs ++ ys) ≡ vs ++ ws
both xs ys vs ws e f = symbols-append xs ys ∙ ap (λ (ss : List Symbol). ss ++ symbols ys) e ∙ ap (λ (ss : List Symbol). vs ++ ss) f

mutual
  pub symbols-tokens_of : (place : ℕ → ℕ) (v : Real) (end : List ℕ) → symbols (tokens_of place v end) ≡ symbols_of v
  symbols-tokens_of place (number n) end = refl
  symbols-tokens_of place (parameter v) end = ap (λ (ss : List Symbol). mark.Parameter ∷ ss) (symbols-tokens_of place v end)
  symbols-tokens_of place (bracket v rest) end =
      ap (λ (ss : List Symbol). mark.Open ∷ ss)
      (both (tokens_of place v (rest_text rest ++ end)) (rest_tokens place rest end) (symbols_of v) (rest_symbols rest)
      (symbols-tokens_of place v (rest_text rest ++ end)) (symbols-rest_tokens place rest end))

  pub symbols-rest_tokens : (place : ℕ → ℕ) (rest : Rest) (end : List ℕ) → symbols (rest_tokens place rest end) ≡ rest_symbols rest
  symbols-rest_tokens place close end = refl
  symbols-rest_tokens place (next o v rest) end =
      ap (λ (ss : List Symbol). mark.Operator o ∷ ss)
      (both (tokens_of place v (rest_text rest ++ end)) (rest_tokens place rest end) (symbols_of v) (rest_symbols rest)
      (symbols-tokens_of place v (rest_text rest ++ end)) (symbols-rest_tokens place rest end))

pub length-tokens_of : (place : ℕ → ℕ) (v : Real) (end : List ℕ) → length (tokens_of place v end) ≡ length (symbols_of v)
length-tokens_of place v end = sym (length-symbols (tokens_of place v end)) ∙ ap length (symbols-tokens_of place v end)
