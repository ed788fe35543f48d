-- What the text of a line shows of the flow, without values.
use Rattle.std.specs.Prelude.{ℕ, ◌/◌, ◌%◌, ◌==◌, ◌||◌, not, ℤ, pos, int_lt, unsigned_abs, List, [], ◌∷◌}
use Rattle.std.specs.Prelude.{Option, Some, None, option_and_then, Result, Ok, Err, if◌then◌else◌}
use Rattle.ngc_dialect_names.specs.declared.dialect.Dialect.{Dialect}
use Rattle.ngc_dialect_reader.specs.declared.fault.LineFault.{LineFault}
use Rattle.ngc_dialect_reader.specs.declared.part.Part.{Part}
use Rattle.ngc_dialect_reader.specs.declared.part.PartKind.{PartKind}
use Rattle.ngc_dialect_reader.specs.declared.part.PartKind.TheVariants as parts
use Rattle.ngc_dialect_reader.specs.Line.{line_of}
use Rattle.ngc_dialect_reader.specs.Text.{text}
use Rattle.ngc_dialect_numbers.specs.Numbers.{ONE}
use Rattle.ngc_dialect_flow.specs.declared.mark.Mark.{Mark}
use Rattle.ngc_dialect_flow.specs.declared.mark.LineKind.{LineKind}
use Rattle.ngc_dialect_flow.specs.declared.mark.LineKind.TheVariants as kinds
use Rattle.ngc_dialect_flow.specs.declared.mark.Label.{Label}
use Rattle.ngc_dialect_flow.specs.declared.mark.Label.TheVariants as labels

-- the whole number that a value is, from 0 up
abbrev pub whole_of : ℤ → Option ℕ
whole_of z =
    if int_lt z (pos 0) || not (unsigned_abs z % ONE == 0) then None else Some (unsigned_abs z / ONE)

abbrev pub marked_as : LineKind → Option Label → Mark → Mark
marked_as kind label m = record { kind = kind; label = label; number = m.number; last = None }

-- the whole number that the last part writes
abbrev pub last_whole : Mark → Option ℕ
last_whole m = option_and_then whole_of m.last

abbrev pub number_label : Option ℕ → Option Label
number_label None = None
number_label (Some n) = Some (labels.Number n)

-- What a line shows after one more part. A label or number that is computed isn't known.
abbrev pub noticed : PartKind → Mark → Mark
noticed (parts.Number l) m = record { kind = m.kind; label = m.label; number = m.number; last = Some l.value }
noticed parts.LineNumber m = record { kind = m.kind; label = m.label; number = last_whole m; last = None }
noticed parts.Percent m = marked_as kinds.Percent None m
noticed parts.Label m = marked_as kinds.Program (number_label (last_whole m)) m
noticed (parts.LabelNamed name) m = marked_as kinds.Program (Some (labels.Name name)) m
noticed (parts.Flow keyword count) m = marked_as (kinds.Word keyword) m.label m
noticed parts.Loop m = marked_as kinds.Loop (number_label (last_whole m)) m
noticed parts.EndLoop m = marked_as kinds.EndLoop (number_label (last_whole m)) m
noticed _ m = marked_as m.kind m.label m

abbrev pub marked : List Part → Mark → Mark
marked [] m = m
marked (p ∷ ps) m = marked ps (noticed p.kind m)

abbrev pub unmarked : LineKind → Mark
unmarked kind = record { kind = kind; label = None; number = None; last = None }

abbrev pub mark_of : List Part → Mark
mark_of [] = unmarked kinds.Blank
mark_of (p ∷ ps) = marked (p ∷ ps) (unmarked kinds.Plain)

-- a line of a program: what it shows, and its text
pub record Line : Type 0 where
  pub mark : Mark
  pub text : List ℕ

-- A line that can't be read shows nothing: it is refused once it is executed.
abbrev pub line_with : List ℕ → Result (List Part) LineFault → Line
line_with text (Ok ps) = record { mark = mark_of ps; text = text }
line_with text (Err fault) = record { mark = unmarked kinds.Plain; text = [] }

abbrev pub line_in : Dialect → List ℕ → Line
line_in d bytes = line_with (text bytes) (line_of d bytes)
