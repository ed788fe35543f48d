-- How mistakes are written, in words and as facts of a JSON document. Our own.
use Rattle.std.specs.Prelude.{ℕ, ℤ, List, [], ◌++◌, codes, decimal, Option, Some, None, Bool}
use Rattle.ngc_line_reader.specs.Program.{Line}
use Rattle.ngc_text.specs.Millimetres.{length_text}
use Rattle.ngc_machine_files.specs.Machine.{MachineFile}
use Rattle.ngc_machine_files.specs.declared.tools.Tool.{Tool}
use Rattle.ngc_commands.specs.declared.command.Command.{Command}
use Rattle.ngc_report.specs.declared.form.Form.{Form}
use Rattle.ngc_report.specs.declared.form.Form.TheVariants.{Words, Json}
use Rattle.ngc_word_warnings.specs.Slips.{slips_of}
use Rattle.ngc_word_warnings.specs.declared.slip.Kind.{Kind}
use Rattle.ngc_word_warnings.specs.declared.slip.Kind.TheVariants as kinds
use Rattle.ngc_word_warnings.specs.declared.slip.Slip.{Slip}
use Rattle.ngc_word_warnings.specs.declared.slip.Slip.TheVariants as slips
use Rattle.ngc_word_warnings.specs.declared.slip.Slips.{Slips}

-- what is wrong
abbrev pub kind_text : Slip → List ℕ
kind_text (slips.Unmounted tool) = codes "T words of tools that are never mounted"
kind_text (slips.OtherOffset offset tool) = codes "G43 with the H of another tool"
kind_text (slips.NoOffset tool) = codes "feeds downwards without a length offset"
kind_text (slips.StaleOffset offset tool) =
    codes "feeds with the length offset of another tool"
kind_text slips.PartHome = codes "G28 or G30 with one or two axis words, each 0"

abbrev pub offset_remark : ℤ → ℕ → List ℕ
offset_remark offset tool =
    codes "H" ++ length_text offset ++ codes ", but tool " ++ decimal tool ++ codes " is mounted"

-- what to do, or what happens
abbrev pub remark_text : Slip → List ℕ
remark_text (slips.Unmounted tool) = codes "write M6 T" ++ length_text tool
remark_text (slips.OtherOffset offset tool) = offset_remark offset tool
remark_text (slips.NoOffset tool) = codes "write G43 H" ++ decimal tool
remark_text (slips.StaleOffset offset tool) =
    codes "H" ++ length_text offset ++ codes " is in force, so write G43 H" ++ decimal tool
    ++ codes " after M6"
remark_text slips.PartHome = codes "X, Y and Z all go home"

-- the numbers of the mistake, as members of an object
abbrev pub number_facts : Slip → List ℕ
number_facts (slips.Unmounted tool) = codes ",\"tool\":" ++ length_text tool
number_facts (slips.OtherOffset offset tool) =
    codes ",\"offset\":" ++ length_text offset ++ codes ",\"tool\":" ++ decimal tool
number_facts (slips.NoOffset tool) = codes ",\"tool\":" ++ decimal tool
number_facts (slips.StaleOffset offset tool) =
    codes ",\"offset\":" ++ length_text offset ++ codes ",\"tool\":" ++ decimal tool
number_facts slips.PartHome = []

abbrev pub slips_words : Slips → List ℕ
slips_words s =
    codes "warning: " ++ kind_text s.first.slip ++ codes ": " ++ decimal s.count
    ++ codes ", the first in line " ++ decimal s.first.line ++ codes ": "
    ++ remark_text s.first.slip ++ codes ".\n"

abbrev pub slips_fact : Slips → List ℕ
slips_fact s =
    codes ",\n{\"fact\":\"warning\",\"text\":\"" ++ kind_text s.first.slip ++ codes "\",\"count\":"
    ++ decimal s.count ++ codes ",\"line\":" ++ decimal s.first.line
    ++ number_facts s.first.slip ++ codes "}"

abbrev pub spelled : Form → Option Slips → List ℕ
spelled form None = []
spelled Words (Some s) = slips_words s
spelled Json (Some s) = slips_fact s

-- the line of a kind, or nothing if the program has no such mistake
abbrev pub kind_line : Form → Kind → List Tool → Bool → MachineFile → List Command → List Line →
    List ℕ
kind_line form kind tools deletes machine commands lines =
    spelled form (slips_of kind tools deletes machine commands lines)

-- the lines of a program at a setting of block delete, with its commands there, on a machine with
-- its tools
abbrev pub word_warnings : Form → Bool → MachineFile → List Tool → List Command → List Line →
    List ℕ
word_warnings form deletes machine tools commands lines =
    kind_line form kinds.Unmounted tools deletes machine commands lines
    ++ kind_line form kinds.OtherOffset tools deletes machine commands lines
    ++ kind_line form kinds.NoOffset tools deletes machine commands lines
    ++ kind_line form kinds.StaleOffset tools deletes machine commands lines
    ++ kind_line form kinds.PartHome tools deletes machine commands lines
