-- Lengths of a line's words, and how they are written again. A length is rounded once, to the
-- nanometre (our own).
use Rattle.std.specs.Prelude.{ℕ, ℤ, pos, ◌+ℤ◌, ◌*ℤ◌, Bool, true, ◌&&◌}
use Rattle.std.specs.Prelude.{Option, Some, None, Result, Ok, Err, List}
use Rattle.std.specs.Prelude.{is_some, if◌then◌else◌}
use Rattle.ngc_fixed_length.specs.Length.{nanometres_in}
use Rattle.ngc_fixed_length.specs.Limits.{LENGTH_LIMIT, nanometres_of}
use Rattle.ngc_fixed_length.specs.NumberFault.{within}
use Rattle.ngc_fixed_length.specs.Rounding.{nearest}
use Rattle.ngc_fixed_length.specs.Signed.{same}
use Rattle.ngc_fixed_length.specs.declared.fault.NumberFault.{NumberFault}
use Rattle.ngc_fixed_length.specs.declared.units.Units.{Units}
use Rattle.ngc_fixed_length.specs.declared.units.Units.TheVariants.{Millimetres, Inches}
use Rattle.ngc_offsets.specs.declared.given.AxisLengths.{AxisLengths}
use Rattle.ngc_dialect_parameters.specs.declared.statement.Word.{Word}
use Rattle.ngc_dialect_rules.specs.declared.fault.Cause.TheVariants as causes
use Rattle.ngc_dialect_rules.specs.declared.fault.Fault.{Fault}
use Rattle.ngc_dialect_rules.specs.Faults.{◌>>=◌, about_letter}
use Rattle.ngc_dialect_rules.specs.Words.{value_of}
use Rattle.ngc_dialect_rules.specs.Bytes as bytes

-- a length of a letter, or a refusal over 100 metres
abbrev pub or_too_large : ℕ → Result ℤ NumberFault → Result ℤ Fault
or_too_large letter (Ok l) = Ok l
or_too_large letter (Err e) = Err (about_letter causes.LengthTooLarge letter)

abbrev pub limited : ℕ → ℤ → Result ℤ Fault
limited letter l = or_too_large letter (within LENGTH_LIMIT l)

-- a value in units of 10^-12, in nanometres
unfoldable pub length_in : Units → ℕ → ℤ → Result ℤ Fault
length_in units letter v = limited letter (nearest (v *ℤ nanometres_in units) (pos 1000000000000))

abbrev pub worded_length : Units → ℕ → Option ℤ → Result (Option ℤ) Fault
worded_length units letter None = Ok None
worded_length units letter (Some v) = do
  l ← length_in units letter v
  Ok (Some l)

-- the length of a letter's word, if it is on the line
unfoldable pub word_length : Units → ℕ → List Word → Result (Option ℤ) Fault
word_length units letter words = worded_length units letter (value_of letter words)

-- the lengths of X, Y and Z
unfoldable pub axis_lengths : Units → List Word → Result AxisLengths Fault
axis_lengths units words = do
  x ← word_length units bytes.X words
  y ← word_length units bytes.Y words
  z ← word_length units bytes.Z words
  Ok (record { x = x; y = y; z = z })

-- the sum of lengths, if it is one
abbrev pub moved_length : ℕ → ℤ → Option ℤ → Result (Option ℤ) Fault
moved_length letter by None = Ok None
moved_length letter by (Some l) = do
  sum ← limited letter (l +ℤ by)
  Ok (Some sum)

-- ---- written again

-- a length in millionths of the unit; inches have steps of 25.4 nm, and not every length is one
abbrev pub in_inches : ℤ → ℤ
in_inches l = nearest (l *ℤ pos 10) (pos 254)

abbrev pub are_inches : ℤ → ℤ → Bool
are_inches m l = same (nanometres_of Inches m) l

unfoldable pub written_in : Units → ℤ → Option ℤ
written_in Millimetres l = Some l
written_in Inches l = if are_inches (in_inches l) l then Some (in_inches l) else None

abbrev pub is_exact_length : Units → Option ℤ → Bool
is_exact_length units None = true
is_exact_length units (Some l) = is_some (written_in units l)

-- whether the unit in force can write the lengths
unfoldable pub is_exact : Units → AxisLengths → Bool
is_exact units axes =
    is_exact_length units axes.x && is_exact_length units axes.y && is_exact_length units axes.z
