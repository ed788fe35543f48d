-- The report of a program that can't be read. Our own.
use Rattle.std.specs.Prelude.{◌≡◌, ◌⊎◌, ℕ, List, [], ◌++◌, codes, Option, IsSome, Bool, true, false}
use Rattle.std.specs.Io.KnownBytes.{Appends, Keeps}
use Rattle.ngc_text.specs.Written.{AppendsPrefix}
use Rattle.ngc_line_reader.specs.Program.{lines_of}
use Rattle.ngc_line_reader.specs.ProgramText.{program_of}
use Rattle.ngc_line_reader.specs.ProgramView.{FaultIs}
use Rattle.ngc_line_reader.specs.ReadFaults.{number_of as read_number}
use Rattle.ngc_line_reader.specs.declared.program.fault.ReadFault.{ReadFault}
use Rattle.ngc_line_reader.specs.declared.program.fault.ReadFault.TheVariants as reads
use Rattle.ngc_report.specs.Forms.{opening}
use Rattle.ngc_report.specs.Quotes.{bytes_with, marked}
use Rattle.ngc_report.specs.declared.form.Form.{Form}
use Rattle.ngc_report.specs.declared.form.Form.TheVariants.{Words, Json}
use Rattle.ngc_program_report.specs.Texts.{ending}
use Rattle.ngc_inputs.specs.declared.fault.AnswerFault.{AnswerFault}
use Rattle.ngc_inputs.specs.declared.fault.AnswerFault.TheVariants as answers

abbrev pub unreadable_line : Form → List ℕ
unreadable_line Words = codes "The program can't be read.\n"
unreadable_line Json = codes ",\n{\"fact\":\"unreadable\"}"

-- the line at fault with a mark below its column, or nothing if there is no line
abbrev pub marked_fault : Form → ReadFault → List ℕ → List ℕ
marked_fault form (reads.Line number e) bytes =
    marked form number e.column (bytes_with number (lines_of bytes))
marked_fault form _ bytes = []

-- the report of a program whose text has this fault
abbrev pub unreadable_text : Form → ReadFault → List ℕ → List ℕ
unreadable_text form fault bytes = opening form
    ++ (unreadable_line form ++ (marked_fault form fault bytes ++ ending form (read_number fault)))

-- lack of memory or a device's failure isn't a fault of the text
abbrev pub is_of_text : ReadFault → Bool
is_of_text reads.Memory = false
is_of_text reads.Device = false
is_of_text _ = true

-- The program has this fault, which is reported for a named file only, since standard input isn't
-- read again. If the sink failed, a prefix of the report is written. If the file isn't read again,
-- as when it is too long or memory runs out, nothing is written.
abbrev pub ReportsUnreadableFile : Form → Option (List ℕ) → List ℕ → Option (List ℕ) → Option (List ℕ) →
    AnswerFault → Type 0
ReportsUnreadableFile form name bytes old new (answers.Read fault) =
    FaultIs fault (program_of bytes)
    × (Keeps old new ⊎
    (IsSome name × (is_of_text fault ≡ true) ×
    Appends old new (unreadable_text form fault bytes)))
ReportsUnreadableFile form name bytes old new (answers.Write e) =
    (fault : ReadFault) × IsSome name × (is_of_text fault ≡ true) ×
    FaultIs fault (program_of bytes) ×
    AppendsPrefix old new (unreadable_text form fault bytes)
ReportsUnreadableFile form name bytes old new _ = ⊥
