-- The tool that is in the spindle before the first line. Our own: Grbl changes no tools, so the one tool
-- of a tool table is mounted.
use Rattle.std.specs.Prelude.{ℕ, ◌*◌, pos, List, [], ◌∷◌, Option, Some, None, Result, Ok}
use Rattle.ngc_line_reader.specs.declared.letter.Letter.TheVariants as letters
use Rattle.ngc_machine_files.specs.declared.tools.Tool.{Tool}
use Rattle.ngc_canonical.specs.State.{Setup}
use Rattle.ngc_dialect_names.specs.declared.dialect.Dialect.{Dialect}
use Rattle.ngc_dialect_names.specs.declared.dialect.Dialect.TheVariants as dialects
use Rattle.ngc_dialect_rules.specs.declared.plain.Plain.{Plain}
use Rattle.ngc_dialect_rules.specs.declared.plain.Plain.TheVariants as plain
use Rattle.ngc_dialect_notes.specs.declared.kind.Kind.TheVariants as kinds
use Rattle.ngc_dialect_notes.specs.Notes.{counted}
use Rattle.ngc_dialect_execution.specs.declared.run.Wanted.{Wanted}
use Rattle.ngc_dialect_execution.specs.declared.fault.Cause.{Cause}
use Rattle.ngc_dialect_execution.specs.declared.fault.DialectFault.{DialectFault}
use Rattle.ngc_dialect_execution.specs.Ending.{at}
use Rattle.ngc_dialect_execution.specs.Faults.{◌>>=◌}
use Rattle.ngc_dialect_execution.specs.Taken.{Between, Progress, plain_taken, start_progress, with_notes}

-- the number of the only tool
abbrev pub only_number : List Tool → Option ℕ
only_number [] = None
only_number (t ∷ []) = Some t.number
only_number (t ∷ u ∷ ts) = None

abbrev pub first_number : Dialect → List Tool → Option ℕ
first_number dialects.Grbl tools = only_number tools
first_number dialects.LinuxCnc tools = None
first_number dialects.Mach3 tools = None
first_number dialects.Fanuc tools = None

-- T and M6
abbrev pub mounting : ℕ → List Plain
mounting n =
    plain.Word (record { letter = letters.T; value = pos (n * 1000000) })
    ∷ plain.Word (record { letter = letters.M; value = pos 6000000 }) ∷ plain.End ∷ []

-- in the first line, before anything else
abbrev pub mounted : Setup → Option ℕ → Between → Result Between Cause
mounted setup None b = Ok b
mounted setup (Some n) b =
    plain_taken setup 1 (mounting n) (with_notes (counted 1 kinds.FirstTool) b)

abbrev pub with_between : Progress → Between → Progress
with_between p b = record { values = p.values; between = b }

abbrev pub with_mounted : Setup → Option ℕ → Progress → Result Progress Cause
with_mounted setup n p = mounted setup n p.between >>= λ b. Ok (with_between p b)

-- what is known before the first line of a program
abbrev pub before_lines : Wanted → Dialect → Setup → Result Progress DialectFault
before_lines w d setup =
    at 1 (with_mounted setup (first_number d setup.tools) (start_progress w d setup.machine))
