-- The result of showing a machine.
use Rattle.std.specs.Prelude.{ℕ, Bool, true, false, List, Option, Result, Ok, Err}
use Rattle.std.specs.Io.KnownBytes.{Appends}
use Rattle.ngc_canonical.specs.State.{Setup}
use Rattle.ngc_file_figures.specs.Files.{FigureValues}
use Rattle.ngc_machine_files.specs.Machine.{MachineFile}
use Rattle.ngc_machine_files.specs.declared.tools.Tool.{Tool}
use Rattle.ngc_text.specs.Written.{AppendsPrefix}
use Rattle.ngc_setup_sheet.specs.Sheets.{sheet_text, warnings_text}
use Rattle.ngc_inputs.specs.declared.fault.AnswerFault.{AnswerFault}

-- the text that shows a machine and its tools: the setup sheet, or its warnings alone
abbrev pub shown_text : Bool → MachineFile → FigureValues → List Tool → List ℕ
shown_text false machine figures tools = sheet_text machine figures tools
shown_text true machine figures tools = warnings_text machine figures tools

-- it is written, or a prefix of it if a write fails
abbrev pub Shows : Bool → FigureValues → Setup → Option (List ℕ) → Option (List ℕ) →
    Result (Unit {0}) AnswerFault → Type 0
Shows warnings figures setup old new (Ok u) =
    Appends old new (shown_text warnings setup.machine figures setup.tools)
Shows warnings figures setup old new (Err fault) =
    AppendsPrefix old new (shown_text warnings setup.machine figures setup.tools)
