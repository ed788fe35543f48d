-- Faults of the program in place of its output: their numbers, the lines that report them, and the
-- statuses. Our own.
use Rattle.std.specs.Prelude.{◌≡◌, ℕ, List, ◌++◌, codes, decimal, Option, Some, None, Result, Ok}
use Rattle.std.specs.Prelude.{Err}
use Rattle.ngc_canonical.specs.Faults.{program_number}
use Rattle.ngc_canonical.specs.declared.fault.ProgramFault.{ProgramFault}
use Rattle.ngc_canonical.specs.declared.fault.ProgramFault.TheVariants as programs
use Rattle.ngc_certificate_text.specs.declared.fault.CertificateFault.{CertificateFault}
use Rattle.ngc_certificate_text.specs.declared.fault.CertificateFault.TheVariants as texts
use Rattle.ngc_certificate_text.specs.declared.piece.Setting.{Setting}
use Rattle.ngc_certificate_text.specs.declared.piece.Setting.TheVariants.{Off, On}
use Rattle.ngc_certificate_text.specs.Faults.{number_of as text_number, line_of as text_line}
use Rattle.ngc_certificate.specs.Faults.{make_number}
use Rattle.ngc_certificate.specs.declared.fault.MakeFault.{MakeFault}
use Rattle.ngc_certificate.specs.declared.fault.MakeFault.TheVariants as makes
use Rattle.ngc_certificate.specs.declared.fault.PieceFault.{PieceFault}
use Rattle.ngc_certificate.specs.declared.fault.PieceFault.TheVariants as pieces
use Rattle.ngc_checker.specs.Faults.{number_of as check_number}
use Rattle.ngc_checker.specs.declared.fault.CheckFault.{CheckFault}
use Rattle.ngc_checker.specs.declared.fault.CheckFault.TheVariants as refusals
use Rattle.ngc_drawing.specs.declared.fault.DrawFault.{DrawFault}
use Rattle.ngc_drawing.specs.declared.fault.DrawFault.TheVariants as drawings
use Rattle.ngc_events.specs.Faults.{number_of as events_number}
use Rattle.ngc_events.specs.declared.fault.EventsFault.{EventsFault}
use Rattle.ngc_events.specs.declared.fault.EventsFault.TheVariants as events
use Rattle.ngc_text.specs.Failures.{Rises}
use Rattle.ngc_text.specs.Input.{number_of as input_number}
use Rattle.ngc_text.specs.declared.input_fault.InputFault.TheVariants as inputs
use Rattle.ngc_line_reader.specs.ReadFaults.{number_of as read_number}
use Rattle.ngc_line_reader.specs.declared.program.fault.ReadFault.{ReadFault}
use Rattle.ngc_line_reader.specs.declared.program.fault.ReadFault.TheVariants as reads
use Rattle.ngc_machine_files.specs.Faults.{number_of as file_number}
use Rattle.ngc_machine_files.specs.declared.fault.FileFault.{FileFault}
use Rattle.ngc_machine_files.specs.declared.fault.FileFault.TheVariants as files
use Rattle.ngc_run_log.specs.declared.live_fault.LiveFault.{LiveFault}
use Rattle.ngc_run_log.specs.declared.live_fault.LiveFault.TheVariants as live
use Rattle.ngc_run_through.specs.declared.report.RunFault.{RunFault}
use Rattle.ngc_run_through.specs.declared.report.RunFault.TheVariants as runs
use Rattle.ngc_report.specs.declared.report_fault.ReportFault.{ReportFault}
use Rattle.ngc_report.specs.declared.report_fault.ReportFault.TheVariants as reports
use Rattle.ngc_inputs.specs.declared.fault.AnswerFault.{AnswerFault}
use Rattle.ngc_inputs.specs.declared.fault.AnswerFault.TheVariants as answers

abbrev pub answer_number : AnswerFault → ℕ
answer_number (answers.Machine e) = file_number e
answer_number (answers.Tools e) = file_number e
answer_number (answers.Input e) = input_number e
answer_number (answers.Read e) = read_number e
answer_number (answers.Program e) = program_number e
answer_number (answers.Refused setting e) = 311
answer_number (answers.Make e) = make_number e
answer_number (answers.Certificate e) = text_number e
answer_number (answers.Check e) = check_number e
answer_number (answers.Events e) = events_number e
answer_number answers.Memory = 900
answer_number (answers.Write e) = 902
answer_number answers.UnknownFault = 721
answer_number answers.UnknownCommand = 722
answer_number answers.UnknownView = 723
answer_number answers.UnknownForm = 727
answer_number answers.UnknownSystem = 728
answer_number answers.NoMaterial = 729
answer_number answers.NoMap = 730
answer_number answers.UnknownControl = 724
answer_number answers.NoFigures = 726

-- where a fault is: line and column, a line, a file, or nowhere
abbrev pub read_place : ReadFault → List ℕ
read_place (reads.Line line e) =
    codes " line " ++ decimal line ++ codes " column " ++ decimal e.column
read_place reads.NoEnd = codes ""
read_place reads.TooManyLines = codes ""
read_place reads.Memory = codes ""
read_place reads.Device = codes ""

abbrev pub program_place : ProgramFault → List ℕ
program_place (programs.At line e) = codes " line " ++ decimal line
program_place programs.Memory = codes ""

abbrev pub setting_place : Setting → List ℕ
setting_place Off = codes " setting off"
setting_place On = codes " setting on"

-- a command of a setting, a piece of a motion, a fixture
abbrev pub command_place : Setting → ℕ → List ℕ
command_place setting command = setting_place setting ++ codes " command " ++ decimal command

abbrev pub fixture_place : ℕ → List ℕ
fixture_place fixture = codes " fixture " ++ decimal fixture

abbrev pub piece_place : PieceFault → List ℕ
piece_place pieces.Chain = codes ""
piece_place pieces.NotCovered = codes ""
piece_place pieces.OutsideTravel = codes ""
piece_place (pieces.MeetsFixture fixture) = fixture_place fixture

-- a program that is refused, with its own fault
abbrev pub refused_place : Setting → ProgramFault → List ℕ
refused_place setting e =
    setting_place setting ++ codes " fault " ++ decimal (program_number e) ++ program_place e

abbrev pub make_place : MakeFault → List ℕ
make_place (makes.NotCleared setting command) = command_place setting command
make_place makes.Memory = codes ""

abbrev pub check_place : CheckFault → List ℕ
check_place (refusals.Program setting e) = refused_place setting e
check_place (refusals.MotionsDiffer setting command) = command_place setting command
check_place (refusals.Divided setting command) = command_place setting command
check_place (refusals.Start fixture) = fixture_place fixture
check_place (refusals.Piece setting command piece e) =
    command_place setting command ++ codes " piece " ++ decimal piece ++ piece_place e
check_place (refusals.ToolChange setting command fixture) =
    command_place setting command ++ fixture_place fixture
check_place refusals.Memory = codes ""

abbrev pub line_of_text : Option ℕ → List ℕ
line_of_text None = codes ""
line_of_text (Some line) = codes " certificate line " ++ decimal line

abbrev pub events_place : EventsFault → List ℕ
events_place (events.BadLine line) = codes " events line " ++ decimal line
events_place events.TooManyLines = codes ""
events_place events.Memory = codes ""

-- a fault for lack of memory has no place
abbrev pub file_place : List ℕ → FileFault → List ℕ
file_place name files.Memory = codes ""
file_place name _ = name

abbrev pub answer_place : AnswerFault → List ℕ
answer_place (answers.Machine e) = file_place (codes " machine") e
answer_place (answers.Tools e) = file_place (codes " tools") e
answer_place (answers.Read e) = read_place e
answer_place (answers.Program e) = program_place e
answer_place (answers.Refused setting e) = refused_place setting e
answer_place (answers.Make e) = make_place e
answer_place (answers.Certificate e) = line_of_text (text_line e)
answer_place (answers.Check e) = check_place e
answer_place (answers.Events e) = events_place e
answer_place _ = codes ""

-- the line that reports a fault
abbrev pub fault_line : AnswerFault → List ℕ
fault_line e = codes "ngc: fault " ++ decimal (answer_number e) ++ answer_place e ++ codes "\n"

-- the exit status: 1 for input, output and memory, 3 for a file or a program that is refused, 4 for
-- a certificate that is refused or isn't made
abbrev pub read_status : ReadFault → ℕ
read_status (reads.Line line e) = 3
read_status reads.NoEnd = 3
read_status reads.TooManyLines = 3
read_status reads.Memory = 1
read_status reads.Device = 1

abbrev pub program_status : ProgramFault → ℕ
program_status (programs.At line e) = 3
program_status programs.Memory = 1

abbrev pub make_status : MakeFault → ℕ
make_status (makes.NotCleared setting command) = 4
make_status makes.Memory = 1

abbrev pub text_status : CertificateFault → ℕ
text_status texts.Memory = 1
text_status texts.ReadFailed = 1
text_status texts.WrongHeader = 4
text_status (texts.BadLine line) = 4
text_status (texts.OutOfRange line) = 4

abbrev pub check_status : CheckFault → ℕ
check_status (refusals.Program setting e) = 3
check_status (refusals.MotionsDiffer setting command) = 4
check_status (refusals.Divided setting command) = 4
check_status (refusals.Start fixture) = 4
check_status (refusals.Piece setting command piece e) = 4
check_status (refusals.ToolChange setting command fixture) = 4
check_status refusals.Memory = 1

abbrev pub events_status : EventsFault → ℕ
events_status (events.BadLine line) = 3
events_status events.TooManyLines = 3
events_status events.Memory = 1

abbrev pub file_status : FileFault → ℕ
file_status files.Memory = 1
file_status _ = 3

abbrev pub answer_status : AnswerFault → ℕ
answer_status (answers.Machine e) = file_status e
answer_status (answers.Tools e) = file_status e
answer_status (answers.Input e) = 1
answer_status (answers.Read e) = read_status e
answer_status (answers.Program e) = program_status e
answer_status (answers.Refused setting e) = 3
answer_status (answers.Make e) = make_status e
answer_status (answers.Certificate e) = text_status e
answer_status (answers.Check e) = check_status e
answer_status (answers.Events e) = events_status e
answer_status answers.Memory = 1
answer_status (answers.Write e) = 1
answer_status answers.UnknownFault = 3
answer_status answers.UnknownCommand = 3
answer_status answers.UnknownView = 3
answer_status answers.UnknownForm = 3
answer_status answers.UnknownSystem = 3
answer_status answers.NoMaterial = 3
answer_status answers.NoMap = 3
answer_status answers.UnknownControl = 3
answer_status answers.NoFigures = 3

-- ---- what a run and a picture fail by

abbrev pub of_run : RunFault → AnswerFault
of_run runs.Memory = answers.Memory
of_run (runs.Write e) = answers.Write e

abbrev pub of_live : LiveFault → AnswerFault
of_live (live.Events e) = answers.Events e
of_live live.Read = answers.Input inputs.Device
of_live (live.Write e) = answers.Write e

-- the fault if a report isn't written completely
abbrev pub of_report : ReportFault → AnswerFault
of_report reports.Memory = answers.Make makes.Memory
of_report (reports.Write fault) = answers.Write fault

abbrev pub of_picture : DrawFault → AnswerFault
of_picture drawings.Memory = answers.Memory
of_picture drawings.Write = answers.Write (record {})

-- ---- the possible faults of each command

abbrev pub OfListing : AnswerFault → Type 0
OfListing (answers.Read e) = Unit {0}
OfListing (answers.Program e) = Unit {0}
OfListing (answers.Write e) = Unit {0}
OfListing _ = ⊥

-- of making a certificate, of a report on a program in memory, and of certifying one that is read
abbrev pub OfMaking : AnswerFault → Type 0
OfMaking (answers.Refused setting e) = Unit {0}
OfMaking (answers.Make e) = Unit {0}
OfMaking _ = ⊥

abbrev pub OfReporting : AnswerFault → Type 0
OfReporting (answers.Write e) = Unit {0}
OfReporting fault = OfMaking fault

abbrev pub OfCertifying : AnswerFault → Type 0
OfCertifying (answers.Read e) = Unit {0}
OfCertifying fault = OfReporting fault

-- of checking, running and drawing a program in memory
abbrev pub OfChecking : AnswerFault → Type 0
OfChecking (answers.Certificate e) = Unit {0}
OfChecking (answers.Check e) = Unit {0}
OfChecking (answers.Write e) = Unit {0}
OfChecking _ = ⊥

abbrev pub OfRunning : AnswerFault → Type 0
OfRunning (answers.Events e) = Unit {0}
OfRunning (answers.Check e) = Unit {0}
OfRunning answers.Memory = Unit {0}
OfRunning (answers.Write e) = Unit {0}
OfRunning _ = ⊥

-- of a run over events that arrive, of which only a device's failure ends the reading
abbrev pub OfLiving : AnswerFault → Type 0
OfLiving (answers.Input inputs.Device) = Unit {0}
OfLiving fault = OfRunning fault

abbrev pub OfDrawing : AnswerFault → Type 0
OfDrawing (answers.Program e) = Unit {0}
OfDrawing (answers.Check e) = Unit {0}
OfDrawing answers.Memory = Unit {0}
OfDrawing (answers.Write e) = Unit {0}
OfDrawing _ = ⊥

-- of a map of the material that a program in memory leaves
abbrev pub OfMapping : AnswerFault → Type 0
OfMapping (answers.Program e) = Unit {0}
OfMapping answers.Memory = Unit {0}
OfMapping answers.NoMap = Unit {0}
OfMapping (answers.Write e) = Unit {0}
OfMapping _ = ⊥

-- the same where the program and the certificate are read first
abbrev pub OrOfReading : (AnswerFault → Type 0) → AnswerFault → Type 0
OrOfReading Of (answers.Read e) = Unit {0}
OrOfReading Of (answers.Certificate e) = Unit {0}
OrOfReading Of fault = Of fault

-- of a setup sheet, and of reporting a program that can't be read
abbrev pub OfWriting : AnswerFault → Type 0
OfWriting (answers.Write e) = Unit {0}
OfWriting _ = ⊥

abbrev pub OfExplaining : AnswerFault → Type 0
OfExplaining (answers.Read e) = Unit {0}
OfExplaining fault = OfWriting fault

-- the sink's count of failures increased if a write failed, and is unchanged otherwise
abbrev pub FailsWith : AnswerFault → ℕ → ℕ → Type 0
FailsWith (answers.Write e) old new = Rises old new
FailsWith _ old new = new ≡ old

abbrev pub FailsByOutput : {T : Type 0} → Result T AnswerFault → ℕ → ℕ → Type 0
FailsByOutput (Ok value) old new = new ≡ old
FailsByOutput (Err fault) old new = FailsWith fault old new
