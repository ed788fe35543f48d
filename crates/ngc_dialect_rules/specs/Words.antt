-- The words of a line: codes, letters and values (our own, after LinuxCNC's documentation, "Format
-- of a line").
use Rattle.std.specs.Prelude.{ℕ, ◌+◌, ◌/◌, ◌%◌, ◌==◌, nat_lt, nat_le, ℤ, pos, unsigned_abs, Bool}
use Rattle.std.specs.Prelude.{not, ◌&&◌, ◌||◌}
use Rattle.std.specs.Prelude.{List, [], ◌∷◌, Option, Some, None, Result, Ok, Err, option_map, find}
use Rattle.std.specs.Prelude.{is_some, if◌then◌else◌}
use Rattle.std.specs.List.{list_any}
use Rattle.ngc_fixed_length.specs.Limits.{MILLION}
use Rattle.ngc_fixed_length.specs.Rounding.{nearest}
use Rattle.ngc_fixed_length.specs.Signed.{is_negative, is_zero}
use Rattle.ngc_dialect_names.specs.declared.dialect.Dialect.{Dialect}
use Rattle.ngc_dialect_parameters.specs.declared.statement.Word.{Word}
use Rattle.ngc_dialect_rules.specs.declared.code.Code.{Code}
use Rattle.ngc_dialect_rules.specs.declared.code.Code.TheVariants.{G, M}
use Rattle.ngc_dialect_rules.specs.declared.codes.TheConstants as codes
use Rattle.ngc_dialect_rules.specs.declared.fault.Cause.TheVariants as causes
use Rattle.ngc_dialect_rules.specs.declared.fault.Fault.{Fault}
use Rattle.ngc_dialect_rules.specs.declared.fault.LeftOut.TheVariants as things
use Rattle.ngc_dialect_rules.specs.Bytes as bytes
use Rattle.ngc_dialect_rules.specs.Faults.{◌>>=◌, about_letter}
use Rattle.ngc_dialect_rules.specs.Tables.{known_code, joined, has, is_fanuc}

-- A number of tenths, if a value is within 0.0001 of one (LinuxCNC's documentation, "G-codes").
-- Values are in units of 10^-12; added is a value from 0 up, and
-- 0.0001.
abbrev pub near_tenths : ℕ → Option ℕ
near_tenths added =
    if nat_le (added % 100000000000) 200000000 && nat_lt (added / 100000000000) 10000
    then Some (added / 100000000000)
    else None

unfoldable pub tenths : ℤ → Option ℕ
tenths v = if is_negative v then None else near_tenths (unsigned_abs v + 100000000)

-- G and M
abbrev pub is_code_letter : ℕ → Bool
is_code_letter letter = (letter == bytes.G) || (letter == bytes.M)

-- the code of a word's tenths: an M code is whole
abbrev pub code_at : ℕ → Option ℕ → Option Code
code_at letter None = None
code_at letter (Some t) =
    if letter == bytes.G then Some (G t) else (if t % 10 == 0 then Some (M (t / 10)) else None)

-- a value that isn't a code is reported by its letter
abbrev pub known_or : Dialect → ℕ → Option Code → Result Code Fault
known_or d letter None = Err (about_letter causes.UnknownCode letter)
known_or d letter (Some code) = known_code d code

abbrev pub with_code_word : Dialect → Word → List Code → Result (List Code) Fault
with_code_word d w line = do
  code ← known_or d w.letter (code_at w.letter (tenths w.value))
  joined code line

-- the codes of a line with that of one more word
unfoldable pub with_word : Dialect → Word → List Code → Result (List Code) Fault
with_word d w line = if is_code_letter w.letter then with_code_word d w line else Ok line

-- the codes of a line, or the first refusal from the left
abbrev pub codes_of : Dialect → List Word → List Code → Result (List Code) Fault
codes_of d [] line = Ok line
codes_of d (w ∷ ws) line = with_word d w line >>= λ more. codes_of d ws more

-- ---- the other letters

abbrev pub is_letter : ℕ → Word → Bool
is_letter letter w = w.letter == letter

-- the word of a letter
unfoldable pub word_of : ℕ → List Word → Option Word
word_of letter words = find (λ w. is_letter letter w) words

-- the value of a letter
unfoldable pub value_of : ℕ → List Word → Option ℤ
value_of letter words = option_map (λ (w : Word). w.value) (word_of letter words)

abbrev pub has_letter : ℕ → List Word → Bool
has_letter letter words = is_some (value_of letter words)

-- whether a word's letter is on the line again; G and M may be
abbrev pub repeats : Word → List Word → Bool
repeats w after = not (is_code_letter w.letter) && list_any (λ v. is_letter w.letter v) after

-- a letter that is on the line twice
abbrev pub repeated : List Word → Option ℕ
repeated [] = None
repeated (w ∷ after) = if repeats w after then Some w.letter else repeated after

-- A, B, C, U, V, W
abbrev pub is_other_axis : ℕ → Bool
is_other_axis letter =
    (letter == bytes.A) || (letter == bytes.B) || (letter == bytes.C) || (letter == bytes.U)
    || (letter == bytes.V) || (letter == bytes.W)

abbrev pub is_polar : ℕ → Bool
is_polar letter = (letter == bytes.AT) || (letter == bytes.CARET)

-- Fanuc's dwell may have its time in U
abbrev pub is_dwell_time : Dialect → List Code → ℕ → Bool
is_dwell_time d line letter = is_fanuc d && has codes.DWELL line && (letter == bytes.U)

-- another axis than X, Y and Z that isn't at 0
abbrev pub is_refused_axis : Dialect → List Code → Word → Bool
is_refused_axis d line w =
    is_other_axis w.letter && not (is_zero w.value) && not (is_dwell_time d line w.letter)

-- what can't be executed: polar words, and other axes than X, Y and Z
abbrev pub refused_word : Dialect → List Code → List Word → Option Fault
refused_word d line [] = None
refused_word d line (w ∷ ws) =
    if is_polar w.letter then Some (about_letter (causes.LeftOut things.Polar) w.letter) else (
    if is_refused_axis d line w then Some (about_letter (causes.LeftOut things.MoreAxes) w.letter)
    else refused_word d line ws)

-- ---- values in millionths

abbrev pub millionths_of : ℤ → ℤ
millionths_of v = nearest v (pos MILLION)

abbrev pub rounded : ℕ → List Word → Option ℤ
rounded letter words = option_map millionths_of (value_of letter words)

abbrev pub not_negative : ℕ → Option ℤ → Result (Option ℤ) Fault
not_negative letter None = Ok None
not_negative letter (Some v) =
    if is_negative v then Err (about_letter causes.Negative letter) else Ok (Some v)

-- a value from 0 up
unfoldable pub amount : ℕ → List Word → Result (Option ℤ) Fault
amount letter words = not_negative letter (rounded letter words)

abbrev pub is_whole : ℤ → Bool
is_whole v = unsigned_abs v % MILLION == 0

abbrev pub whole : ℕ → Option ℤ → Result (Option ℤ) Fault
whole letter None = Ok None
whole letter (Some v) =
    if is_whole v then Ok (Some v) else Err (about_letter causes.NotWhole letter)

-- a whole value from 0 up
unfoldable pub count : ℕ → List Word → Result (Option ℤ) Fault
count letter words = do
  v ← amount letter words
  whole letter v
