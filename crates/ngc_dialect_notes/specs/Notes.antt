-- Notes that are collected while a program is executed. Our own.
use Rattle.std.specs.Prelude.{ℕ, ◌+◌, ◌==◌, min, Bool, false, ◌||◌, List, [], ◌∷◌, replicate}
use Rattle.std.specs.Prelude.{Option, Some, None, if◌then◌else◌}
use Rattle.ngc_dialect_rules.specs.declared.code.Code.{Code}
use Rattle.ngc_dialect_rules.specs.Tables.{has}
use Rattle.ngc_dialect_rules.specs.declared.codes.TheConstants as codes
use Rattle.ngc_dialect_notes.specs.declared.kind.Kind.{Kind}
use Rattle.ngc_dialect_notes.specs.declared.notes.Note.{Note}
use Rattle.ngc_dialect_notes.specs.declared.notes.Notes.{Notes}
use Rattle.ngc_dialect_notes.specs.declared.notes.Said.{Said}
use Rattle.ngc_dialect_notes.specs.KindNumbers.{number_of}

-- ---- a kind is counted

-- counts stay at the greatest number of 32 bits
abbrev pub MOST : ℕ
MOST = 4294967295

abbrev pub first_note : ℕ → Kind → Note
first_note line kind = record { kind = kind; line = line; count = 1 }

abbrev pub again : Note → Note
again n = record n { count = min (n.count + 1) MOST }

abbrev pub is_of : Kind → Note → Bool
is_of kind n = number_of n.kind == number_of kind

-- The notes are in the order in which their kinds occurred first. There are as many places as kinds.
abbrev pub counted_in : ℕ → Kind → List (Option Note) → List (Option Note)
counted_in line kind [] = []
counted_in line kind (None ∷ rest) = Some (first_note line kind) ∷ rest
counted_in line kind (Some n ∷ rest) =
    if is_of kind n then Some (again n) ∷ rest else Some n ∷ counted_in line kind rest

abbrev pub counted : ℕ → Kind → Notes → Notes
counted line kind n = record n { places = counted_in line kind n.places }

abbrev pub note_if : Bool → ℕ → Kind → Notes → Notes
note_if holds line kind n = if holds then counted line kind n else n

-- what is noted of a line, in order
unfoldable pub all_noted : ℕ → List (Bool × Kind) → Notes → Notes
all_noted line [] n = n
all_noted line (x ∷ xs) n = all_noted line xs (note_if x.0 line x.1 n)

-- ---- what the program has said so far

abbrev pub nothing_said : Said
nothing_said = record { motion = false; retract = false; centres = false }

abbrev pub said_with : List Code → Said → Said
said_with line s = record {
  motion = s.motion || has codes.MOTIONS line;
  retract = s.retract || has codes.RETRACTS line;
  centres = s.centres || has codes.CENTRES line;
}

abbrev pub hearing : List Code → Notes → Notes
hearing line n = record n { said = said_with line n.said }

abbrev pub no_notes : Notes
no_notes = record { places = replicate 52 None; said = nothing_said }
