-- The time of a run through a program, as text. Our own.
use Rattle.std.specs.Prelude.{ℕ, ◌*◌, ◌/◌, ◌%◌, List, [], ◌∷◌, ◌++◌, drop, codes, decimal, Option}
use Rattle.std.specs.Prelude.{None, Some, if◌then◌else◌}
use Rattle.ngc_commands.specs.declared.command.Command.{Command}
use Rattle.ngc_machine_files.specs.declared.tools.Tool.{Tool}
use Rattle.ngc_findings.specs.Uses.{moves, tool_uses, use_of}
use Rattle.ngc_report.specs.Words.{tool_text}
use Rattle.ngc_report.specs.declared.form.Form.{Form}
use Rattle.ngc_report.specs.declared.form.Form.TheVariants.{Words, Json}
use Rattle.ngc_sentences.specs.Parts.{clock_text, three_digits}
use Rattle.ngc_findings.specs.declared.uses.ToolUse.{ToolUse}
use Rattle.ngc_program_report.specs.declared.run_time.RunTime.{RunTime}

-- the whole seconds of this number of ticks, and the whole thousandths of the rest
abbrev pub time_text : RunTime → List ℕ
time_text time =
    clock_text (time.ticks / time.ticks_per_second) ++ codes "."
    ++ three_digits (time.ticks % time.ticks_per_second * 1000 / time.ticks_per_second)

-- seconds as a number
abbrev pub seconds_text : RunTime → List ℕ
seconds_text time =
    decimal (time.ticks / time.ticks_per_second) ++ codes "."
    ++ three_digits (time.ticks % time.ticks_per_second * 1000 / time.ticks_per_second)

-- the line with the time
abbrev pub time_line : RunTime → List ℕ
time_line time =
    codes "ngc: ticks " ++ decimal time.ticks ++ codes " time " ++ time_text time ++ codes "\n"

-- ---- with each tool

-- the whole run; and its ticks up to the end of the first change of the tool, and of each change to
-- that of the next
pub record ProgramTimeData : Type 0 where
  pub whole : RunTime
  pub parts : List ℕ

-- the ticks of the reported uses; the part before the first change is one of them if something
-- moves there
abbrev pub ticks_counted : List Command → List ℕ → List ℕ
ticks_counted commands parts = if moves (use_of None commands) then parts else drop 1 parts

-- the tool's number, or null without a tool
unfoldable pub tool_value : Option Tool → List ℕ
tool_value None = codes "null"
tool_value (Some tool) = decimal tool.number

abbrev pub use_time_words : Option Tool → RunTime → List ℕ
use_time_words tool time = codes "With " ++ tool_text tool ++ codes " it takes "
    ++ decimal time.ticks ++ codes " ticks, " ++ time_text time ++ codes ".\n"

abbrev pub use_time_fact : Option Tool → RunTime → List ℕ
use_time_fact tool time =
    codes ",\n{\"fact\":\"use_time\",\"tool\":" ++ tool_value tool ++ codes ",\"ticks\":"
    ++ decimal time.ticks ++ codes ",\"seconds\":"
    ++ seconds_text time ++ codes "}"

unfoldable pub use_time : Form → Option Tool → RunTime → List ℕ
use_time Words tool time = use_time_words tool time
use_time Json tool time = use_time_fact tool time

-- a line for each use
abbrev pub use_times : Form → RunTime → List ToolUse → List ℕ → List ℕ
use_times form whole [] ticks = []
use_times form whole (u ∷ us) [] = []
use_times form whole (u ∷ us) (n ∷ ns) =
    use_time form u.tool (record whole { ticks = n }) ++ use_times form whole us ns

-- the lines of a program
abbrev pub uses_text : Form → List Command → ProgramTimeData → List ℕ
uses_text form commands time =
    use_times form time.whole (tool_uses commands) (ticks_counted commands time.parts)
