-- What the flow takes from the values of a line.
use Rattle.std.specs.Prelude.{ℕ, ◌*◌, ◌==◌, ◌&&◌, nat_lt, ℤ, pos, List, [], ◌∷◌, filter, length, slice_get, Bool, false}
use Rattle.std.specs.Prelude.{Option, Some, None, Result, Ok, Err, if◌then◌else◌}
use Rattle.std.specs.List.{list_any}
use Rattle.std.specs.Ordering.{int_eq}
use Rattle.ngc_dialect_numbers.specs.Numbers.{ONE}
use Rattle.ngc_dialect_numbers.specs.Comparisons.{is_true}
use Rattle.ngc_dialect_reader.specs.declared.line.DialectLine.{DialectLine}
use Rattle.ngc_dialect_parameters.specs.declared.values.LineValues.{LineValues}
use Rattle.ngc_dialect_parameters.specs.declared.statement.Statement.{Statement}
use Rattle.ngc_dialect_parameters.specs.declared.statement.Statement.TheVariants as statements
use Rattle.ngc_dialect_flow.specs.declared.fault.Cause.{Cause}
use Rattle.ngc_dialect_flow.specs.declared.fault.Cause.TheVariants as causes
use Rattle.ngc_dialect_flow.specs.declared.mark.Label.{Label}
use Rattle.ngc_dialect_flow.specs.declared.mark.Label.TheVariants as labels
use Rattle.ngc_dialect_flow.specs.Marks.{whole_of, number_label}

-- a line's text, and what it says with its values
pub record Values : Type 0 where
  pub text : List ℕ
  pub statements : List Statement
  pub arguments : List (Option ℤ)

abbrev pub values_of : DialectLine → LineValues → Values
values_of line v = record { text = line.text.items; statements = v.statements.items; arguments = v.arguments.items }

-- the argument of what an O word does; None if there is none
abbrev pub argument_in : Option (Option ℤ) → Option ℤ
argument_in None = None
argument_in (Some value) = value

abbrev pub argument : Values → Option ℤ
argument v = argument_in (slice_get v.arguments 0)

abbrev pub or_zero : Option ℤ → ℤ
or_zero None = pos 0
or_zero (Some z) = z

-- whether the condition of IF, ELSEIF or WHILE holds
abbrev pub holds : Values → Bool
holds v = is_true (or_zero (argument v))

abbrev pub label_in : List Statement → Option Label
label_in [] = None
label_in (statements.Label z ∷ rest) = number_label (whole_of z)
label_in (statements.LabelNamed name ∷ rest) = Some (labels.Name name)
label_in (_ ∷ rest) = label_in rest

-- the value of the first word with a letter
abbrev pub word_in : ℕ → List Statement → Option ℤ
word_in letter [] = None
word_in letter (statements.Word w ∷ rest) = if w.letter == letter then Some w.value else word_in letter rest
word_in letter (_ ∷ rest) = word_in letter rest

abbrev pub is_word : ℕ → Statement → Bool
is_word letter (statements.Word w) = w.letter == letter
is_word letter _ = false

-- the value of the only word with a letter, if there is one
abbrev pub only_word : ℕ → List Statement → Result (Option ℤ) Cause
only_word letter all =
    if nat_lt 1 (length (filter (is_word letter) all)) then Err causes.WordTwice
    else Ok (word_in letter all)

-- whether a statement is the code with this letter and number
abbrev pub is_code : ℕ → ℕ → Statement → Bool
is_code letter number (statements.Word w) = (w.letter == letter) && int_eq w.value (pos (number * ONE))
is_code letter number _ = false

abbrev pub has_m : ℕ → Values → Bool
has_m number v = list_any (is_code 77 number) v.statements

-- the line to which a line goes
abbrev pub jump_in : List Statement → Option ℤ
jump_in [] = None
jump_in (statements.GoTo z ∷ rest) = Some z
jump_in (_ ∷ rest) = jump_in rest

-- whether the condition of Fanuc's WHILE holds
abbrev pub loop_holds : List Statement → Bool
loop_holds [] = false
loop_holds (statements.Loop holds number ∷ rest) = holds
loop_holds (_ ∷ rest) = loop_holds rest

abbrev pub needed_whole : Option ℕ → Result ℕ Cause
needed_whole None = Err causes.NotWhole
needed_whole (Some n) = Ok n

-- the whole number of a word that must be there
abbrev pub needed : Option ℤ → Result ℕ Cause
needed None = Err causes.WordMissing
needed (Some z) = needed_whole (whole_of z)
