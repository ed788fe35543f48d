-- The storage of symbols: their kinds, and their numbers separately. Our own.
use Rattle.std.specs.Prelude.{ℤ, List, [], ◌∷◌, ◌++◌}
use Rattle.ngc_line_reader.specs.declared.token.Symbol.{Symbol}
use Rattle.ngc_line_reader.specs.declared.token.Symbol.TheVariants as symbols
use Rattle.ngc_line_reader.specs.declared.program.parts.Kind.{Kind}
use Rattle.ngc_line_reader.specs.declared.program.parts.Kind.TheVariants as kinds

abbrev pub kind_of : Symbol → Kind
kind_of (symbols.Number x) = kinds.Number
kind_of symbols.Parameter = kinds.Parameter
kind_of symbols.Open = kinds.Open
kind_of symbols.Close = kinds.Close
kind_of (symbols.Operator o) = kinds.Operator o

abbrev pub number_of : Symbol → List ℤ
number_of (symbols.Number x) = x ∷ []
number_of symbols.Parameter = []
number_of symbols.Open = []
number_of symbols.Close = []
number_of (symbols.Operator o) = []

abbrev pub numbers_of : List Symbol → List ℤ
numbers_of [] = []
numbers_of (s ∷ ss) = number_of s ++ numbers_of ss

-- the symbol of a kind, and the remaining numbers
abbrev pub first_symbol : Kind → List ℤ → Symbol × List ℤ
first_symbol kinds.Number [] = (symbols.Close, [])
first_symbol kinds.Number (x ∷ xs) = (symbols.Number x, xs)
first_symbol kinds.Parameter xs = (symbols.Parameter, xs)
first_symbol kinds.Open xs = (symbols.Open, xs)
first_symbol kinds.Close xs = (symbols.Close, xs)
first_symbol (kinds.Operator o) xs = (symbols.Operator o, xs)

-- the symbols of these kinds and numbers
abbrev pub symbols_from : List Kind → List ℤ → List Symbol
symbols_from [] xs = []
symbols_from (k ∷ ks) xs = (first_symbol k xs).0 ∷ symbols_from ks (first_symbol k xs).1
