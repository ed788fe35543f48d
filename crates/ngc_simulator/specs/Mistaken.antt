-- The report of a machine file or a tool table that is refused. Our own.
use Rattle.std.specs.Prelude.{◌≡◌, ◌≢◌, ◌⊎◌, ℕ, ◌==◌, nat_lt, List, [], ◌∷◌, ◌++◌, flat_map, codes, Option, Some, Result, Ok, Err, IfSome}
use Rattle.std.specs.Prelude.{IsSomeAnd, if◌then◌else◌}
use Rattle.std.specs.Io.KnownBytes.{Appends, Keeps}
use Rattle.ngc_text.specs.Written.{AppendsPrefix}
use Rattle.ngc_machine_files.specs.Faults.{number_of as file_number}
use Rattle.ngc_machine_files.specs.declared.fault.FileFault.{FileFault}
use Rattle.ngc_machine_files.specs.declared.fault.FileFault.TheVariants.{Memory}
use Rattle.ngc_refused_files.specs.Stops.{Stop, StopsWhere}
use Rattle.ngc_report.specs.Forms.{opening}
use Rattle.ngc_report.specs.Quotes.{escaped}
use Rattle.ngc_report.specs.declared.form.Form.{Form}
use Rattle.ngc_report.specs.declared.form.Form.TheVariants.{Words, Json}
use Rattle.ngc_machine_mistakes.specs.Mistakes.{mistake_text}
use Rattle.ngc_tool_mistakes.specs.Mistakes.{mistake_text as tools_mistake_text}
use Rattle.ngc_inputs.specs.declared.fault.AnswerFault.{AnswerFault}
use Rattle.ngc_inputs.specs.declared.fault.AnswerFault.TheVariants as answers
use Rattle.ngc_inputs.specs.declared.setup.Shop.{Shop}
use Rattle.ngc_program_report.specs.Texts.{ending}
use Rattle.ngc_inputs.specs.Setups.{FileBytes}
use Rattle.ngc_inputs.specs.Unread.{Kind, OfMachine, OfTools}
use Rattle.ngc_inputs.specs.Shops.{PlacedResultIs, ShopResultIs, RefusesPlaced, RefusesShop}
use Rattle.ngc_margins.specs.declared.changes.Changes.{Changes}
use Rattle.ngc_simulator.specs.declared.mistaken_files.RefusedFile.{RefusedFile}
use Rattle.ngc_simulator.specs.declared.mistaken_files.RefusedFile.TheVariants as files

-- a document has the fault's number alone
abbrev pub fault_document : ℕ → List ℕ
fault_document number = opening Json ++ ending Json number

-- a byte of a JSON string: a line feed as \n, and another control character as a question mark
abbrev pub quoted_byte : ℕ → List ℕ
quoted_byte b = if b == 10 then 92 ∷ 110 ∷ [] else (if nat_lt b 32 then 63 ∷ [] else escaped b)

-- the fact that has a mistake in words
unfoldable pub mistake_fact : List ℕ → List ℕ
mistake_fact text = codes ",\n{\"fact\":\"reason\",\"text\":\"" ++ flat_map quoted_byte text ++ codes "\"}"

-- a document with a mistake in words, and with the fault's number
unfoldable pub mistake_document : ℕ → List ℕ → List ℕ
mistake_document number text = opening Json ++ (mistake_fact text ++ ending Json number)

-- the report of a mistake in words: as it is, or as a document
abbrev pub reported_text : Form → FileFault → List ℕ → List ℕ
reported_text Words e text = text
reported_text Json e text = mistake_document (file_number e) text

-- the mistake in a file with this name that is refused with this fault, from its bytes
abbrev pub text_of : RefusedFile → List ℕ → FileFault → List ℕ → Stop → List ℕ
text_of files.Machine = mistake_text
text_of files.Tools = tools_mistake_text

abbrev pub kind_of : RefusedFile → Kind
kind_of files.Machine = OfMachine
kind_of files.Tools = OfTools

-- P of the report, where the file is known; lack of memory isn't its mistake
abbrev pub OfText : Form → RefusedFile → List ℕ → FileFault → Option (List ℕ) → (List ℕ → Type 0) →
    Type 0
OfText form file name e known P =
    (e ≢ Memory)
    × IfSome known (λ bytes. StopsWhere bytes (λ stop. P (reported_text form e (text_of file name e bytes stop))))

-- the same for the refused one of two files
abbrev pub OfMistake : Form → FileBytes → Option (List ℕ) → Option (List ℕ) → AnswerFault →
    (List ℕ → Type 0) → Type 0
OfMistake form bytes machine tools (answers.Machine e) P =
    IsSomeAnd machine (λ name. OfText form files.Machine name e (bytes (Some name)) P)
OfMistake form bytes machine tools (answers.Tools e) P =
    IsSomeAnd tools (λ name. OfText form files.Tools name e (bytes (Some name)) P)
OfMistake form bytes machine tools fault P = ⊥

-- For a file that is refused its mistake is written, or nothing if memory ran out; if the sink
-- failed, a prefix of it is written. A file that isn't read leaves the output unchanged.
abbrev pub ReportsRefusal : Form → FileBytes → Option (List ℕ) → Option (List ℕ) → Option (List ℕ) →
    Option (List ℕ) → AnswerFault → Type 0
ReportsRefusal form bytes machine tools old new (answers.Write fault) =
    (refused : AnswerFault) × RefusesShop bytes machine tools refused ×
    OfMistake form bytes machine tools refused (AppendsPrefix old new)
ReportsRefusal form bytes machine tools old new fault =
    RefusesShop bytes machine tools fault ×
    (Keeps old new ⊎ OfMistake form bytes machine tools fault (Appends old new))

-- the two files' machine and tools, with nothing written, or the report in their place
abbrev pub ReportResultIs : Form → FileBytes → Option (List ℕ) → Option (List ℕ) → Option (List ℕ) →
    Option (List ℕ) → Result Shop AnswerFault → Type 0
ReportResultIs form bytes machine tools old new (Ok shop) =
    ShopResultIs bytes machine tools (Ok shop) × (new ≡ old)
ReportResultIs form bytes machine tools old new (Err fault) =
    ReportsRefusal form bytes machine tools old new fault

-- The same with changes of the machine. Nothing is written where a machine file that isn't refused
-- is refused with the changes.
abbrev pub ReportsPlacedRefusal : Form → FileBytes → Option (List ℕ) → Option (List ℕ) → Changes →
    Option (List ℕ) → Option (List ℕ) → AnswerFault → Type 0
ReportsPlacedRefusal form bytes machine tools changes old new (answers.Write fault) =
    ReportsRefusal form bytes machine tools old new (answers.Write fault)
ReportsPlacedRefusal form bytes machine tools changes old new fault =
    RefusesPlaced bytes machine tools changes fault ×
    (Keeps old new ⊎ OfMistake form bytes machine tools fault (Appends old new))

abbrev pub PlacedReportResultIs : Form → FileBytes → Option (List ℕ) → Option (List ℕ) → Changes →
    Option (List ℕ) → Option (List ℕ) → Result Shop AnswerFault → Type 0
PlacedReportResultIs form bytes machine tools changes old new (Ok shop) =
    PlacedResultIs bytes machine tools changes (Ok shop) × (new ≡ old)
PlacedReportResultIs form bytes machine tools changes old new (Err fault) =
    ReportsPlacedRefusal form bytes machine tools changes old new fault

-- the result of writing one file's mistake, where the file may not be readable again
abbrev pub ReportsMistake : ((List ℕ → Type 0) → Type 0) → Option (List ℕ) → Option (List ℕ) →
    Result (Unit {0}) AnswerFault → Type 0
ReportsMistake Of old new (Ok u) = Keeps old new ⊎ Of (Appends old new)
ReportsMistake Of old new (Err (answers.Write fault)) = Of (AppendsPrefix old new)
ReportsMistake Of old new (Err (answers.Input fault)) = Keeps old new
ReportsMistake Of old new (Err fault) = ⊥
