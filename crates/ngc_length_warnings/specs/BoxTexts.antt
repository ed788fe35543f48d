-- How boxes are warned of that count from a coordinate system in which the program cuts with no tool
-- length offset: in words, and as facts of a JSON document. Our own.
use Rattle.std.specs.Prelude.{ℕ, ◌+◌, ◌==◌, List, [], ◌++◌, codes, decimal, Option, Some, None}
use Rattle.std.specs.Prelude.{if◌then◌else◌}
use Rattle.ngc_text.specs.Millimetres.{size_text}
use Rattle.ngc_machine_files.specs.Machine.{MachineFile}
use Rattle.ngc_machine_files.specs.declared.machine.Fixture.{Fixture}
use Rattle.ngc_commands.specs.declared.command.Command.{Command}
use Rattle.ngc_frames.specs.Words.{system_text}
use Rattle.ngc_frames.specs.declared.change.FrameChange.{FrameChange}
use Rattle.ngc_frames.specs.declared.frame.Frame.{Frame}
use Rattle.ngc_report.specs.Words.{bracketed}
use Rattle.ngc_report.specs.declared.form.Form.{Form}
use Rattle.ngc_report.specs.declared.form.Form.TheVariants.{Words, Json}
use Rattle.ngc_length_warnings.specs.Boxes.{first_from}
use Rattle.ngc_length_warnings.specs.Cuts.{first_cut}
use Rattle.ngc_length_warnings.specs.declared.cut.BareCut.{BareCut}
use Rattle.ngc_length_warnings.specs.declared.cut.Boxes.{Boxes}
use Rattle.ngc_length_warnings.specs.declared.cut.Boxes.TheVariants.{Fixtures, Block}
use Rattle.ngc_length_warnings.specs.declared.cut.FirstFixture.{FirstFixture}

-- ---- words

-- a fixture alone, or with more of them
unfoldable pub more_words : ℕ → List ℕ
more_words more = if more == 0 then codes " counts" else codes " and " ++ decimal more ++ codes " more count"

unfoldable pub each_words : ℕ → List ℕ
each_words more = if more == 0 then codes "the fixture" else codes "each fixture"

unfoldable pub number_words : FirstFixture → List ℕ
number_words f = codes "warning: fixture " ++ decimal f.number

abbrev pub first_words : FirstFixture → List ℕ
first_words f = number_words f ++ (bracketed f.name ++ more_words f.more)

-- from where the boxes count, and which line cuts there
unfoldable pub cut_words : BareCut → List ℕ
cut_words cut =
    codes " from " ++ system_text cut.system ++ codes ", but line " ++ decimal cut.line
    ++ codes " cuts there without a tool length offset. "

-- how much lower a box is, and what to do
unfoldable pub lower_words : BareCut → List ℕ → List ℕ
lower_words cut each =
    codes "If the part was touched off with tool " ++ decimal cut.tool ++ codes ", " ++ each
    ++ codes " is " ++ size_text cut.reach
    ++ codes " mm lower than it is tested: write its corners that much lower, in machine coordinates.\n"

abbrev pub fixture_words : BareCut → FirstFixture → List ℕ
fixture_words cut f = first_words f ++ (cut_words cut ++ lower_words cut (each_words f.more))

abbrev pub block_words : BareCut → List ℕ
block_words cut =
    codes "warning: the block of material counts" ++ (cut_words cut ++ lower_words cut (codes "the block"))

-- ---- facts

-- the numbers of a cut as members of an object, the length in nanometres
unfoldable pub cut_facts : BareCut → List ℕ
cut_facts cut =
    codes ",\"line\":" ++ decimal cut.line ++ codes ",\"system\":\"" ++ system_text cut.system
    ++ codes "\",\"tool\":" ++ decimal cut.tool ++ codes ",\"lower\":" ++ decimal cut.reach
    ++ codes "}"

unfoldable pub first_fact : FirstFixture → List ℕ
first_fact f =
    codes ",\n{\"fact\":\"warning\",\"text\":\"a fixture counts from a system in which the program cuts without a tool length offset\",\"count\":"
    ++ decimal (f.more + 1) ++ codes ",\"fixture\":" ++ decimal f.number

abbrev pub fixture_fact : BareCut → FirstFixture → List ℕ
fixture_fact cut f = first_fact f ++ cut_facts cut

abbrev pub block_fact : BareCut → List ℕ
block_fact cut =
    codes ",\n{\"fact\":\"warning\",\"text\":\"the block of material counts from a system in which the program cuts without a tool length offset\""
    ++ cut_facts cut

-- ---- the line of a cut

-- that of the fixtures that count from its system, of which this is the first
abbrev pub fixture_line : Form → BareCut → Option FirstFixture → List ℕ
fixture_line form cut None = []
fixture_line Words cut (Some f) = fixture_words cut f
fixture_line Json cut (Some f) = fixture_fact cut f

abbrev pub block_line : Form → BareCut → List ℕ
block_line Words cut = block_words cut
block_line Json cut = block_fact cut

abbrev pub cut_line : Form → Boxes → List Fixture → BareCut → List ℕ
cut_line form Fixtures fs cut = fixture_line form cut (first_from cut.system 0 fs)
cut_line form Block fs cut = block_line form cut

-- nothing without a cut
abbrev pub line_of : Form → Boxes → List Fixture → Option BareCut → List ℕ
line_of form boxes fs None = []
line_of form boxes fs (Some cut) = cut_line form boxes fs cut

-- ---- the lines of a program's commands, where these are its frames

abbrev pub boxes_line : Form → Boxes → MachineFile → Frame → List FrameChange → List Command → List ℕ
boxes_line form boxes m start changes commands =
    line_of form boxes m.fixtures (first_cut boxes m start changes commands)

abbrev pub box_warnings : Form → MachineFile → Frame → List FrameChange → List Command → List ℕ
box_warnings form m start changes commands =
    boxes_line form Fixtures m start changes commands
    ++ boxes_line form Block m start changes commands
