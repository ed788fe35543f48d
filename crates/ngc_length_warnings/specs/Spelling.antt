-- How mistakes with length offsets are written, in words and as facts of a JSON document. Our own.
use Rattle.std.specs.Prelude.{ℕ, ℤ, List, [], ◌++◌, codes, decimal}
use Rattle.std.specs.Prelude.{Option, Some, None}
use Rattle.std.specs.Fmt.{signed_decimal}
use Rattle.ngc_text.specs.Millimetres.{mm_text}
use Rattle.ngc_machine_files.specs.Machine.{MachineFile}
use Rattle.ngc_commands.specs.declared.command.Command.{Command}
use Rattle.ngc_frames.specs.declared.change.FrameChange.{FrameChange}
use Rattle.ngc_frames.specs.declared.frame.Frame.{Frame}
use Rattle.ngc_report.specs.declared.form.Form.{Form}
use Rattle.ngc_report.specs.declared.form.Form.TheVariants.{Words, Json}
use Rattle.ngc_length_warnings.specs.Slips.{slips_of}
use Rattle.ngc_length_warnings.specs.declared.slip.Kind.{Kind}
use Rattle.ngc_length_warnings.specs.declared.slip.Kind.TheVariants as kinds
use Rattle.ngc_length_warnings.specs.declared.slip.Slip.{Slip}
use Rattle.ngc_length_warnings.specs.declared.slip.Slip.TheVariants as slips
use Rattle.ngc_length_warnings.specs.declared.slip.Slips.{Slips}

-- what is wrong
abbrev pub kind_text : Slip → List ℕ
kind_text (slips.Missing tool offset) = codes "feeds downwards without the tool's length offset"
kind_text (slips.Other tool offset force) =
    codes "feeds with a length offset that isn't the tool's"

abbrev pub remark_text : Slip → List ℕ
remark_text (slips.Missing tool offset) =
    codes "tool " ++ decimal tool ++ codes " has " ++ mm_text offset
remark_text (slips.Other tool offset force) =
    mm_text force ++ codes " is in force, and tool " ++ decimal tool ++ codes " has " ++ mm_text offset

-- the numbers of the mistake, lengths in nanometres, as members of an object
abbrev pub number_facts : Slip → List ℕ
number_facts (slips.Missing tool offset) =
    codes ",\"tool\":" ++ decimal tool ++ codes ",\"offset\":" ++ signed_decimal offset
number_facts (slips.Other tool offset force) =
    codes ",\"tool\":" ++ decimal tool ++ codes ",\"offset\":" ++ signed_decimal offset
    ++ codes ",\"in_force\":" ++ signed_decimal force

abbrev pub slips_words : Slips → List ℕ
slips_words s =
    codes "warning: " ++ kind_text s.first.slip ++ codes ": " ++ decimal s.count
    ++ codes ", the first in line " ++ decimal s.first.line ++ codes ": "
    ++ remark_text s.first.slip ++ codes ".\n"

abbrev pub slips_fact : Slips → List ℕ
slips_fact s =
    codes ",\n{\"fact\":\"warning\",\"text\":\"" ++ kind_text s.first.slip ++ codes "\",\"count\":"
    ++ decimal s.count ++ codes ",\"line\":" ++ decimal s.first.line
    ++ number_facts s.first.slip ++ codes "}"

abbrev pub spelled : Form → Option Slips → List ℕ
spelled form None = []
spelled Words (Some s) = slips_words s
spelled Json (Some s) = slips_fact s

-- the line of a kind, or nothing if the program has no such mistake
abbrev pub kind_line : Form → Kind → MachineFile → Frame → List FrameChange → List Command → List ℕ
kind_line form kind machine start changes commands =
    spelled form (slips_of kind machine start changes commands)

-- the lines of a program's commands, where these are its frames
abbrev pub length_warnings : Form → MachineFile → Frame → List FrameChange → List Command → List ℕ
length_warnings form machine start changes commands =
    kind_line form kinds.Missing machine start changes commands
    ++ kind_line form kinds.Other machine start changes commands
