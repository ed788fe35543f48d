-- A line: in order, a block delete, a line number, and then a percent sign, a command, an O word, a
-- statement of Fanuc's, or items.
use Rattle.std.specs.Prelude.{ℕ, ◌==◌, ◌&&◌, ◌||◌, ◌-◌, nat_le, not, List, [], ◌∷◌, ◌++◌, length, drop, take}
use Rattle.std.specs.Prelude.{slice_index, Option, Some, None, Bool, true, false, Result, Ok, Err}
use Rattle.std.specs.Prelude.{if◌then◌else◌, nat_eq}
use Rattle.std.specs.Char.{is_ascii_digit}
use Rattle.std.specs.Prelude.{codes}
use Rattle.std.specs.List.{starts_with}
use Rattle.ngc_line_reader.specs.Scan.{begins, ◌>>=◌}
use Rattle.ngc_dialect_names.specs.declared.dialect.Dialect.{Dialect}
use Rattle.ngc_dialect_reader.specs.declared.switches.Switches.{Switches}
use Rattle.ngc_dialect_reader.specs.declared.fault.Cause.TheVariants as causes
use Rattle.ngc_dialect_reader.specs.declared.fault.Refusal.{Refusal}
use Rattle.ngc_dialect_reader.specs.declared.fault.LineFault.{LineFault}
use Rattle.ngc_dialect_reader.specs.declared.part.Part.{Part}
use Rattle.ngc_dialect_reader.specs.declared.part.PartKind.TheVariants as kinds
use Rattle.ngc_dialect_reader.specs.declared.part.Name.{Name}
use Rattle.ngc_dialect_reader.specs.Number.{refusal, number_at}
use Rattle.ngc_dialect_reader.specs.Steps.{Answer, Reader, add, added, ended}
use Rattle.ngc_dialect_reader.specs.Item.{items}
use Rattle.ngc_dialect_reader.specs.Flow.{o_word_at, macro_at}
use Rattle.ngc_dialect_reader.specs.Text.{text, fault_in, column_in}
use Rattle.ngc_dialect_reader.specs.Table.{switches_of}

-- the level of a block delete after '/': a digit from 1 to 9, in some dialects
abbrev pub level_at : Switches → List ℕ → Option ℕ
level_at d [] = None
level_at d (b ∷ s) = if d.levels && (nat_le 49 b && nat_le b 57) then Some (b - 48) else None

-- a block delete; its level is 1 if it has none
abbrev pub deleted : Option ℕ → Reader
deleted None found s = added (kinds.Delete 1) s found (drop 1 s)
deleted (Some level) found s = added (kinds.Delete level) s found (drop 2 s)

unfoldable pub delete_at : Switches → Reader
delete_at d found s =
    if not (begins 47 s) then Ok (found, s) else deleted (level_at d (drop 1 s)) found s

abbrev pub begins_digit : List ℕ → Bool
begins_digit [] = false
begins_digit (b ∷ s) = is_ascii_digit b

-- N and a number without a sign
unfoldable pub line_number_at : Reader
line_number_at found s =
    if not (begins 78 s) then Ok (found, s) else (
    if not (begins_digit (drop 1 s)) then Err (refusal causes.WordWithoutValue (length s)) else (
    number_at (drop 1 s) >>= λ x.
    add (kinds.Number x.0) (drop 1 s) found >>= λ parts. added kinds.LineNumber s parts x.1))

unfoldable pub statement_at : Switches → Reader
statement_at d found s =
    if begins 37 s then (added kinds.Percent s found (drop 1 s) >>= λ x. ended x.0 x.1) else (
    if d.commands && starts_with nat_eq s (codes "$H")
    then (added kinds.Home s found (drop 2 s) >>= λ x. ended x.0 x.1) else (
    if begins 79 s || (d.macros && begins 58 s) then o_word_at d found s else (
    if d.macros then macro_at d found s else items d found s)))

unfoldable pub text_at : Switches → List ℕ → Answer
text_at d s =
    delete_at d [] s >>= λ x. line_number_at x.0 x.1 >>= λ y. statement_at d y.0 y.1

-- the parts of a text, or the fault with its column in the line
abbrev pub located : List ℕ → Answer → Result (List Part) LineFault
located line (Ok x) = Ok x.0
located line (Err r) = Err (record { cause = r.cause; column = column_in line r.left })

abbrev pub located_fault : Switches → List ℕ → Option LineFault → Result (List Part) LineFault
located_fault d line (Some fault) = Err fault
located_fault d line None = located line (text_at d (text line))

-- The parts of a line, without its line feed, or the first fault.
abbrev pub line_of : Dialect → List ℕ → Result (List Part) LineFault
line_of dialect line =
    if not (nat_le (length line) 256)
    then Err (record { cause = causes.LineTooLong; column = 257 })
    else located_fault (switches_of dialect) line
    (fault_in (switches_of dialect).closed_comments line)

-- the bytes of a name in a text
abbrev pub name_of : List ℕ → Name → List ℕ
name_of text name = take name.size (drop (length text - name.left) text)
