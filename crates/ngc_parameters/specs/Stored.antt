-- The values of a line's words and settings, from its tokens.
use Rattle.std.specs.Prelude.{ℕ, ◌≡◌, ◌+◌, ℤ, List, [], ◌∷◌, ◌++◌, length, drop, map, min, Result}
use Rattle.std.specs.Prelude.{Ok, Err}
use Rattle.ngc_line_reader.specs.declared.token.Token.{Token}
use Rattle.ngc_line_reader.specs.declared.line.RawWord.{RawWord}
use Rattle.ngc_line_reader.specs.declared.line.RawSetting.{RawSetting}
use Rattle.ngc_line_reader.specs.ScanLine.{Parts}
use Rattle.ngc_line_reader.specs.declared.letter.Letter.{Letter}
use Rattle.ngc_line_reader.specs.Tokens.{symbols}
use Rattle.ngc_line_reader.specs.Grammar.{Item}
use Rattle.ngc_line_reader.specs.Words.{pairs_of}
use Rattle.ngc_parameters.specs.declared.fault.EvalFault.{EvalFault}
use Rattle.ngc_parameters.specs.declared.change.Change.{Change}
use Rattle.ngc_parameters.specs.declared.store.Changes.{Changes}
use Rattle.ngc_parameters.specs.declared.store.LineValues.{LineValues}
use Rattle.ngc_parameters.specs.declared.parameters.Store.{Store}
use Rattle.ngc_parameters.specs.Meaning.{◌>>=◌, Parameters, index_of, words_of, settings_of}
use Rattle.ngc_parameters.specs.Evaluate.{symbol_value}
use Rattle.ngc_parameters.specs.EvaluateView.{held}

-- the values of the parameters
abbrev pub parameters_of : {A : Type 0} → Store A → Parameters
parameters_of s = held s.values.items

abbrev pub change_pair : Change → ℕ × ℤ
change_pair c = (c.index, c.value)

abbrev pub change_pairs : List Change → List (ℕ × ℤ)
change_pairs cs = map change_pair cs

-- the settings' indices and values, in order
abbrev pub changes_of : Changes → List (ℕ × ℤ)
changes_of changes = change_pairs changes.settings.items

-- the tokens from an index on
abbrev pub tokens_from : List Token → ℕ → List Token
tokens_from tokens first = drop (min first (length tokens)) tokens

-- the value whose tokens begin at an index
abbrev pub value_from : Parameters → List Token → ℕ → Result ℤ EvalFault
value_from p tokens first = symbol_value (length (tokens_from tokens first) + 1) 16 p
    (symbols (tokens_from tokens first)) >>= λ x. Ok x.0

abbrev pub words_after : Parameters → List Token → List (Letter × ℤ) → List RawWord →
    Result (List (Letter × ℤ)) EvalFault
words_after p tokens found [] = Ok found
words_after p tokens found (w ∷ ws) =
    value_from p tokens w.first >>= λ x. words_after p tokens (found ++ ((w.letter, x) ∷ [])) ws

abbrev pub words_on : Parameters → List Token → List RawWord → Result (List (Letter × ℤ)) EvalFault
words_on p tokens ws = words_after p tokens [] ws

abbrev pub change_from : Parameters → List Token → ℕ → ℕ → Result (ℕ × ℤ) EvalFault
change_from p tokens index value = value_from p tokens index >>= λ i. index_of i >>= λ k.
    value_from p tokens value >>= λ x. Ok (k, x)

abbrev pub settings_after : Parameters → List Token → List (ℕ × ℤ) → List RawSetting →
    Result (List (ℕ × ℤ)) EvalFault
settings_after p tokens found [] = Ok found
settings_after p tokens found (s ∷ ss) =
    change_from p tokens s.index s.value >>= λ c. settings_after p tokens (found ++ (c ∷ [])) ss

abbrev pub settings_on : Parameters → List Token → List RawSetting → Result (List (ℕ × ℤ)) EvalFault
settings_on p tokens ss = settings_after p tokens [] ss

-- the values of a line's tokens
abbrev pub values_on : Parameters → Parts → Result (List (Letter × ℤ) × List (ℕ × ℤ)) EvalFault
values_on p line = words_on p line.tokens line.words >>= λ ws.
    settings_on p line.tokens line.settings >>= λ ss. Ok (ws, ss)

-- words' letters and values, and settings' indices and values; all values are computed from the
-- same parameters
abbrev pub line_values : Parameters → List Item →
    Result (List (Letter × ℤ) × List (ℕ × ℤ)) EvalFault
line_values p items = words_of p items >>= λ ws. settings_of p items >>= λ ss. Ok (ws, ss)

abbrev pub IsSame : Result Change EvalFault → Result (ℕ × ℤ) EvalFault → Type 0
IsSame (Ok c) found = found ≡ Ok (change_pair c)
IsSame (Err e) found = found ≡ Err e

-- a line's values: its words' letters and values, and its settings' indices and values
abbrev pub values_in : LineValues → List (Letter × ℤ) × List (ℕ × ℤ)
values_in values = (pairs_of values.words.items, changes_of values.changes)
