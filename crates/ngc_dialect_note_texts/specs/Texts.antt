-- How notes are written, in words and as facts of a JSON document. Our own.
use Rattle.std.specs.Prelude.{ℕ, List, [], ◌++◌, codes, decimal, flat_map, Option, Some, None}
use Rattle.ngc_report.specs.declared.form.Form.{Form}
use Rattle.ngc_report.specs.declared.form.Form.TheVariants.{Words, Json}
use Rattle.ngc_dialect_notes.specs.Kinds.{class_of}
use Rattle.ngc_dialect_notes.specs.declared.notes.Note.{Note}
use Rattle.ngc_dialect_notes.specs.declared.notes.Notes.{Notes}
use Rattle.ngc_dialect_note_texts.specs.Words.{class_text, kind_text, remark_text}

unfoldable pub note_words : Note → List ℕ
note_words n =
    codes "note (" ++ class_text (class_of n.kind) ++ codes "): " ++ kind_text n.kind
    ++ codes ": " ++ decimal n.count ++ codes ", the first in line " ++ decimal n.line
    ++ codes ": " ++ remark_text n.kind ++ codes ".\n"

unfoldable pub note_fact : Note → List ℕ
note_fact n =
    codes ",\n{\"fact\":\"note\",\"class\":\"" ++ class_text (class_of n.kind)
    ++ codes "\",\"text\":\"" ++ kind_text n.kind ++ codes "\",\"count\":" ++ decimal n.count
    ++ codes ",\"line\":" ++ decimal n.line ++ codes "}"

abbrev pub note_text : Form → Option Note → List ℕ
note_text form None = []
note_text Words (Some n) = note_words n
note_text Json (Some n) = note_fact n

-- the notes in the order in which their kinds occurred first
abbrev pub notes_text : Form → Notes → List ℕ
notes_text form n = flat_map (note_text form) n.places
