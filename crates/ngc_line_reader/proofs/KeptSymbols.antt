-- Symbols that are stored as their kinds and their numbers.
use Rattle.std.proofs.Common.{◌≡◌, ℤ, List, [], ◌∷◌, ◌++◌, map, ap, refl, sym, ◌∙◌, append_assoc, length, ◌≤◌, arith, length-append}
use Rattle.std.proofs.lemmas.List.{append-nil}
use Rattle.ngc_line_reader.specs.declared.token.Token.{Token}
use Rattle.ngc_line_reader.specs.declared.token.Symbol.{Symbol}
use Rattle.ngc_line_reader.specs.declared.token.Symbol.TheVariants as marks
use Rattle.ngc_line_reader.specs.declared.program.parts.Kind.{Kind}
use Rattle.ngc_line_reader.specs.Tokens.{symbols}
use Rattle.ngc_line_reader.specs.Symbols.{kind_of, number_of, numbers_of, first_symbol, symbols_from}

-- the kinds of tokens, in order
abbrev pub kinds_after : List Kind → List Token → List Kind
kinds_after found [] = found
kinds_after found (t ∷ ts) = kinds_after (found ++ (kind_of t.symbol ∷ [])) ts

pub all_kinds : (found : List Kind) (ts : List Token) → kinds_after found ts ≡ found ++ map kind_of (symbols ts)
all_kinds found [] = sym (append-nil found)
all_kinds found (t ∷ ts) = all_kinds (found ++ (kind_of t.symbol ∷ [])) ts ∙ append_assoc found (kind_of t.symbol ∷ []) (map kind_of (symbols ts))

-- a symbol's number after those found
abbrev pub with_number : List ℤ → Symbol → List ℤ
with_number found (marks.Number x) = found ++ (x ∷ [])
with_number found marks.Parameter = found
with_number found marks.Open = found
with_number found marks.Close = found
with_number found (marks.Operator o) = found

-- the numbers of tokens, in order
abbrev pub numbers_after : List ℤ → List Token → List ℤ
numbers_after found [] = found
numbers_after found (t ∷ ts) = numbers_after (with_number found t.symbol) ts

with_is : (found : List ℤ) (s : Symbol) → with_number found s ≡ found ++ number_of s
with_is found (marks.Number x) = refl
with_is found marks.Parameter = sym (append-nil found)
with_is found marks.Open = sym (append-nil found)
with_is found marks.Close = sym (append-nil found)
with_is found (marks.Operator o) = sym (append-nil found)

pub all_numbers : (found : List ℤ) (ts : List Token) → numbers_after found ts ≡ found ++ numbers_of (symbols ts)
all_numbers found [] = sym (append-nil found)
all_numbers found (t ∷ ts) =
    ap (λ (xs : List ℤ). numbers_after xs ts) (with_is found t.symbol)
    ∙ all_numbers (found ++ number_of t.symbol) ts
    ∙ append_assoc found (number_of t.symbol) (numbers_of (symbols ts))

-- the symbols of kinds and numbers, in order
abbrev pub loaded_after : List Symbol → List Kind → List ℤ → List Symbol
loaded_after found [] xs = found
loaded_after found (k ∷ ks) xs = loaded_after (found ++ ((first_symbol k xs).0 ∷ [])) ks (first_symbol k xs).1

pub all_loaded : (found : List Symbol) (ks : List Kind) (xs : List ℤ) → loaded_after found ks xs ≡ found ++ symbols_from ks xs
all_loaded found [] xs = sym (append-nil found)
all_loaded found (k ∷ ks) xs =
    all_loaded (found ++ ((first_symbol k xs).0 ∷ [])) ks (first_symbol k xs).1
    ∙ append_assoc found ((first_symbol k xs).0 ∷ []) (symbols_from ks (first_symbol k xs).1)

-- the loaded symbols are the stored ones
pub loads_back : (ss : List Symbol) → symbols_from (map kind_of ss) (numbers_of ss) ≡ ss
loads_back [] = refl
loads_back (marks.Number x ∷ ss) = ap (λ (l : List Symbol). marks.Number x ∷ l) (loads_back ss)
loads_back (marks.Parameter ∷ ss) = ap (λ (l : List Symbol). marks.Parameter ∷ l) (loads_back ss)
loads_back (marks.Open ∷ ss) = ap (λ (l : List Symbol). marks.Open ∷ l) (loads_back ss)
loads_back (marks.Close ∷ ss) = ap (λ (l : List Symbol). marks.Close ∷ l) (loads_back ss)
loads_back (marks.Operator o ∷ ss) = ap (λ (l : List Symbol). marks.Operator o ∷ l) (loads_back ss)

few_number : (s : Symbol) → length (number_of s) ≤ 1
few_number (marks.Number x) = omega arith
few_number marks.Parameter = omega arith
few_number marks.Open = omega arith
few_number marks.Close = omega arith
few_number (marks.Operator o) = omega arith

-- there are no more numbers than tokens
pub few_numbers : (ts : List Token) → length (numbers_of (symbols ts)) ≤ length ts
few_numbers [] = omega arith
few_numbers (t ∷ ts) = omega (arith, few_number t.symbol, few_numbers ts, length-append (number_of t.symbol) (numbers_of (symbols ts)))

pub symbols-push : (ts : List Token) (t : Token) → symbols (ts ++ (t ∷ [])) ≡ symbols ts ++ (t.symbol ∷ [])
symbols-push [] t = refl
symbols-push (x ∷ ts) t = ap (λ l. x.symbol ∷ l) (symbols-push ts t)

pub ruleset pushed_symbols = symbols-push
