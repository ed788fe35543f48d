-- The words that restore saved modes (LinuxCNC's documentation, "M72"). That F is restored to a tenth and
-- S to a whole number, that M9 follows only if no coolant was on, and that G43 then names no tool, is
-- from a comparison with its interpreter; the words there are one line, after one for the units.
use Rattle.std.specs.Prelude.{ℕ, ◌*◌, ℤ, pos, ◌*ℤ◌, ◌&&◌, ◌||◌, not, Bool, List, [], ◌∷◌, Option, Some, None}
use Rattle.std.specs.Prelude.{Result, Ok, Err, true, if◌then◌else◌}
use Rattle.std.specs.Ordering.{int_eq}
use Rattle.ngc_fixed_length.specs.Rounding.{nearest}
use Rattle.ngc_dialect_numbers.specs.declared.fault.NoValue.{NoValue}
use Rattle.ngc_dialect_numbers.specs.Numbers.{limited}
use Rattle.ngc_dialect_parameters.specs.declared.statement.Word.{Word}
use Rattle.ngc_dialect_rules.specs.declared.code.Code.{Code}
use Rattle.ngc_dialect_rules.specs.declared.code.Code.TheVariants.{G, M}
use Rattle.ngc_dialect_rules.specs.Bytes as bytes
use Rattle.ngc_dialect_rules.specs.Codes.{is_code}
use Rattle.ngc_dialect_saved.specs.declared.modes.SavedModes.{SavedModes}

-- a word with a value in tenths
abbrev pub word : ℕ → ℕ → Word
word letter tenths = record { letter = letter; value = pos (tenths * 100000000000); point = true }

abbrev pub code_word : Code → Word
code_word (G tenths) = word bytes.G tenths
code_word (M number) = word bytes.M (number * 10)

-- the word of a saved code, unless it is in force
abbrev pub changed : Code → Code → Option Word
changed saved now = if is_code saved now then None else Some (code_word saved)

abbrev pub or_zero : Result ℤ NoValue → ℤ
or_zero (Ok x) = x
or_zero (Err e) = pos 0

-- a value to the nearest multiple of a unit, both in millionths, as a number
abbrev pub rounded : ℤ → ℕ → ℤ
rounded value unit = or_zero (limited (nearest value (pos unit) *ℤ pos (unit * 1000000)))

abbrev pub is_same : ℤ → ℤ → Bool
is_same a b = int_eq a b

-- F of a feed per minute, to a tenth
abbrev pub feed_word : SavedModes → SavedModes → Option Word
feed_word saved now =
    if is_code (G 930) saved.feed_mode || is_same saved.feed now.feed then None
    else Some (record { letter = bytes.F; value = rounded saved.feed 100000; point = true })

-- S to a whole number
abbrev pub speed_word : SavedModes → SavedModes → Option Word
speed_word saved now =
    if is_same saved.speed now.speed then None
    else Some (record { letter = bytes.S; value = rounded saved.speed 1000000; point = true })

-- the code of a coolant that was on and isn't
abbrev pub coolant_word : Bool → Bool → Code → Option Word
coolant_word saved now code = if saved && not now then Some (code_word code) else None

-- M9, if no coolant was on and one is
abbrev pub coolant_end : SavedModes → SavedModes → Option Word
coolant_end saved now =
    if not (saved.mist || saved.flood) && (now.mist || now.flood) then Some (code_word (M 9)) else None

-- The words that make saved modes those in force, in order: units first, then the feed mode, since F
-- counts in them.
abbrev pub restoring : SavedModes → SavedModes → List (Option Word)
restoring saved now =
    changed saved.units now.units ∷ changed saved.feed_mode now.feed_mode ∷ feed_word saved now
    ∷ speed_word saved now ∷ changed saved.spindle now.spindle
    ∷ coolant_word saved.mist now.mist (M 7) ∷ coolant_word saved.flood now.flood (M 8)
    ∷ coolant_end saved now ∷ changed saved.overrides now.overrides
    ∷ changed saved.plane now.plane ∷ changed saved.length now.length
    ∷ changed saved.system now.system ∷ changed saved.path now.path
    ∷ changed saved.distance now.distance ∷ changed saved.centres now.centres
    ∷ changed saved.retract now.retract ∷ changed saved.offset now.offset ∷ []
