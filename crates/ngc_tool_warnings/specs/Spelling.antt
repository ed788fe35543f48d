-- How mistakes with tools are written, in words and as facts of a JSON document. Our own.
use Rattle.std.specs.Prelude.{ℕ, ℤ, pos, negsuc, List, [], ◌++◌, codes, decimal, unsigned_abs}
use Rattle.std.specs.Prelude.{Option, Some, None}
use Rattle.ngc_text.specs.Millimetres.{mm_text}
use Rattle.ngc_machine_files.specs.Machine.{MachineFile}
use Rattle.ngc_commands.specs.declared.command.Command.{Command}
use Rattle.ngc_report.specs.declared.form.Form.{Form}
use Rattle.ngc_report.specs.declared.form.Form.TheVariants.{Words, Json}
use Rattle.ngc_tool_warnings.specs.Slips.{slips_of}
use Rattle.ngc_tool_warnings.specs.declared.slip.Kind.{Kind}
use Rattle.ngc_tool_warnings.specs.declared.slip.Kind.TheVariants as kinds
use Rattle.ngc_tool_warnings.specs.declared.slip.Slip.{Slip}
use Rattle.ngc_tool_warnings.specs.declared.slip.Slip.TheVariants as slips
use Rattle.ngc_tool_warnings.specs.declared.slip.Slips.{Slips}

-- what is wrong
abbrev pub kind_text : Slip → List ℕ
kind_text (slips.LowChange from to) =
    codes "changes to a longer tool below the height of the start"
kind_text (slips.Drop below) =
    codes "traverses straight down below the start of the tool's first feed"
kind_text slips.BareChange = codes "tool changes without a stop"

-- what happens, or what to do
abbrev pub remark_text : Slip → List ℕ
remark_text (slips.LowChange from to) =
    codes "the tip goes from Z " ++ mm_text from ++ codes " to Z " ++ mm_text to
    ++ codes " in the machine"
remark_text (slips.Drop below) = mm_text below ++ codes " below it"
remark_text slips.BareChange =
    codes "M6 doesn't wait, so write M0 before it, or the key `changer` in the machine file"

abbrev pub sign_text : ℤ → List ℕ
sign_text (pos n) = []
sign_text (negsuc n) = codes "-"

-- the numbers of the mistake, in nanometres, as members of an object
abbrev pub number_facts : Slip → List ℕ
number_facts (slips.LowChange from to) =
    codes ",\"from\":" ++ sign_text from ++ decimal (unsigned_abs from)
    ++ codes ",\"to\":" ++ sign_text to ++ decimal (unsigned_abs to)
number_facts (slips.Drop below) =
    codes ",\"below\":" ++ sign_text below ++ decimal (unsigned_abs below)
number_facts slips.BareChange = []

abbrev pub slips_words : Slips → List ℕ
slips_words s =
    codes "warning: " ++ kind_text s.first.slip ++ codes ": " ++ decimal s.count
    ++ codes ", the first in line " ++ decimal s.first.line ++ codes ": "
    ++ remark_text s.first.slip ++ codes ".\n"

abbrev pub slips_fact : Slips → List ℕ
slips_fact s =
    codes ",\n{\"fact\":\"warning\",\"text\":\"" ++ kind_text s.first.slip ++ codes "\",\"count\":"
    ++ decimal s.count ++ codes ",\"line\":" ++ decimal s.first.line
    ++ number_facts s.first.slip ++ codes "}"

abbrev pub spelled : Form → Option Slips → List ℕ
spelled form None = []
spelled Words (Some s) = slips_words s
spelled Json (Some s) = slips_fact s

-- the line of a kind, or nothing if the program has no such mistake
abbrev pub kind_line : Form → Kind → MachineFile → List Command → List ℕ
kind_line form kind machine commands = spelled form (slips_of kind machine commands)

-- the lines of a program's commands
abbrev pub tool_warnings : Form → MachineFile → List Command → List ℕ
tool_warnings form machine commands =
    kind_line form kinds.LowChange machine commands
    ++ kind_line form kinds.Drop machine commands
    ++ kind_line form kinds.BareChange machine commands
