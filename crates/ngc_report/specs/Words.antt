-- The lines of a report, in words and millimetres. Our own.
use Rattle.std.specs.Prelude.{ℕ, ◌*◌, ◌/◌, ◌%◌, ℤ, pos, negsuc, unsigned_abs, List, [], ◌++◌, codes, decimal}
use Rattle.std.specs.Prelude.{Option, Some, None, length, ◌==◌, Bool, true, false, if◌then◌else◌}
use Rattle.std.specs.Int.{div_ceil}
use Rattle.ngc_fixed_length.specs.declared.points.Point3.{Point3}
use Rattle.ngc_text.specs.Millimetres.{number_text, size_text, mm_text}
use Rattle.ngc_machine_files.specs.declared.tools.Tool.{Tool}
use Rattle.ngc_collision.specs.Inside.{place_of}
use Rattle.ngc_findings.specs.declared.clearing.Clearing.{Clearing}
use Rattle.ngc_findings.specs.declared.clearing.Clearing.TheVariants as clearings
use Rattle.ngc_findings.specs.declared.clearing.Passed.{Passed}
use Rattle.ngc_findings.specs.declared.line.Along.{Along}
use Rattle.ngc_findings.specs.declared.line.Line.{Line}
use Rattle.ngc_findings.specs.declared.line.Line.TheVariants as lines
use Rattle.ngc_findings.specs.declared.margins.Axis.{Axis}
use Rattle.ngc_findings.specs.declared.margins.Axis.TheVariants.{X, Y, Z}
use Rattle.ngc_findings.specs.declared.margins.Side.{Side}
use Rattle.ngc_findings.specs.declared.margins.Side.TheVariants.{Below, Above}
use Rattle.ngc_findings.specs.declared.nearest.Nearest.{Nearest}
use Rattle.ngc_findings.specs.declared.scene.Met.{Met}
use Rattle.ngc_findings.specs.declared.scene.Obstacle.{Obstacle}
use Rattle.ngc_findings.specs.declared.scene.Obstacle.TheVariants.{Travel, Fixture}
use Rattle.ngc_findings.specs.declared.scene.Scene.{Scene}
use Rattle.ngc_findings.specs.declared.uses.ToolUse.{ToolUse}
use Rattle.ngc_findings.specs.declared.warnings.Concern.{Concern}
use Rattle.ngc_findings.specs.declared.warnings.Concern.TheVariants.{NoTool, IdleSpindle}
use Rattle.ngc_findings.specs.declared.warnings.Concern.TheVariants.{FastFeed, NearlyFull, LowHome}
use Rattle.ngc_findings.specs.declared.warnings.Concern.TheVariants.{LowAcross, Untested}
use Rattle.ngc_findings.specs.declared.warnings.Warning.{Warning}

-- ---- lengths

-- the margin on a side of the travel, or the distance beyond it
abbrev pub space_words : ℤ → List ℕ
space_words (pos n) = codes " mm left"
space_words (negsuc n) = codes " mm too far"

unfoldable pub space_text : ℤ → List ℕ
space_text z = size_text (unsigned_abs z) ++ space_words z

unfoldable pub place_text : Point3 → List ℕ
place_text p =
    codes "X " ++ mm_text p.x ++ codes ", Y " ++ mm_text p.y ++ codes ", Z " ++ mm_text p.z

-- ---- lines

unfoldable pub axis_text : Axis → List ℕ
axis_text X = codes "X"
axis_text Y = codes "Y"
axis_text Z = codes "Z"

unfoldable pub side_text : Side → List ℕ
side_text Below = codes "below "
side_text Above = codes "above "

unfoldable pub tool_text : Option Tool → List ℕ
tool_text None = codes "no tool"
tool_text (Some tool) = codes "tool " ++ decimal tool.number

-- a name after a number, if there is one
unfoldable pub bracketed : List ℕ → List ℕ
bracketed name = if length name == 0 then [] else codes " (" ++ name ++ codes ")"

-- a tool by its number and its name
unfoldable pub called_text : Option Tool → List ℕ
called_text None = codes "no tool"
called_text (Some tool) = codes "tool " ++ decimal tool.number ++ bracketed tool.name

-- the nearest fixture, with its name
unfoldable pub nearest_text : Option Nearest → List ℕ → List ℕ
nearest_text None name = codes ".\n"
nearest_text (Some n) name = codes "; nearest fixture " ++ decimal n.fixture ++ bracketed name
    ++ codes ", " ++ mm_text n.distance ++ codes " away.\n"

abbrev pub along_text : Along → List ℕ
along_text a =
    axis_text a.axis ++ codes " from " ++ mm_text a.low ++ codes " to " ++ mm_text a.high
    ++ codes ", " ++ space_text a.room.below ++ codes " below and " ++
    space_text a.room.above ++ codes " above.\n"

abbrev pub use_text : ToolUse → List ℕ
use_text u =
    codes "With " ++ called_text u.tool ++ codes ": traverses " ++ decimal u.traverses
    ++ codes " along " ++ size_text u.traverse_way ++
    codes " mm, feeds " ++ decimal u.feeds ++ codes " along " ++ size_text u.feed_way
    ++ codes " mm, arcs " ++ decimal u.arcs ++ codes ", dwells " ++ decimal u.dwells
    ++ codes ", stops " ++ decimal u.stops

abbrev pub command_text : ℕ → Scene → List ℕ
command_text k s =
    codes "Command " ++ decimal k ++ codes " of line " ++ decimal s.line ++ codes ", with "
    ++ called_text s.tool ++ codes ", from " ++ place_text (place_of s.from) ++
    codes " to " ++ place_text (place_of s.to) ++ codes ".\n"

-- the height from which a fixture is passed over, if the travel includes it
unfoldable pub over_text : Option ℤ → List ℕ
over_text None = codes ".\n"
over_text (Some height) = codes "; from Z " ++ mm_text height ++ codes " up it passes over.\n"

abbrev pub met_text : Met → List ℕ
met_text m =
    codes "It meets fixture " ++ decimal m.number ++ bracketed m.fixture.name ++ codes ", from "
    ++ place_text m.fixture.low
    ++ codes " to " ++ place_text m.fixture.high ++
    over_text m.over

unfoldable pub obstacle_text : Option Obstacle → List ℕ
obstacle_text None =
    codes "No side of the travel and no fixture is in the way of the whole: a box of the certificate is too large.\n"
obstacle_text (Some (Travel m)) =
    codes "It leaves the travel " ++ side_text m.side ++ axis_text m.axis ++ codes ": "
    ++ space_text m.left ++ codes ".\n"
obstacle_text (Some (Fixture m)) = met_text m

-- a distance in millimetres, with at most three decimals, rounded up so that it is enough
abbrev pub thousandths_text : ℕ → List ℕ
thousandths_text thousandths = number_text (thousandths / 1000) (thousandths % 1000 * 1000)

unfoldable pub shift_text : ℕ → List ℕ
shift_text n = thousandths_text (div_ceil n 1000)

abbrev pub passed_text : Passed → List ℕ
passed_text p =
    codes "It is clear of fixture " ++ decimal p.number ++ bracketed p.name
    ++ codes " if it moves by " ++ shift_text p.shifts.x.up ++ codes " mm in X+, "
    ++ shift_text p.shifts.x.down ++ codes " mm in X-, " ++ shift_text p.shifts.y.up
    ++ codes " mm in Y+, " ++ shift_text p.shifts.y.down ++ codes " mm in Y-, "
    ++ shift_text p.shifts.z.up ++ codes " mm in Z+ or " ++ shift_text p.shifts.z.down
    ++ codes " mm in Z-.\n"

-- the direction away from a side
abbrev pub away_text : Side → List ℕ
away_text Below = codes "+"
away_text Above = codes "-"

unfoldable pub inward_text : Axis → Side → Option ℕ → List ℕ
inward_text axis side None =
    codes "It is too long for the travel along " ++ axis_text axis ++ codes ".\n"
inward_text axis side (Some n) =
    codes "It is inside the travel along " ++ axis_text axis ++ codes " if it moves by "
    ++ shift_text n ++ codes " mm in " ++ axis_text axis ++ away_text side ++ codes ".\n"

unfoldable pub clearing_text : Option Clearing → List ℕ
clearing_text None = []
clearing_text (Some (clearings.Fixture p)) = passed_text p
clearing_text (Some (clearings.Travel i)) = inward_text i.axis i.side i.shift

unfoldable pub concern_text : Concern → List ℕ
concern_text NoTool = codes "motions without a tool, away from the height of the start"
concern_text IdleSpindle = codes "feeds with a tool and the spindle off"
concern_text (FastFeed speeds) = codes "feeds above the greatest speed of the machine"
concern_text NearlyFull = codes "arcs of over 359 degrees with ends less than 0.01 mm apart"
concern_text LowHome = codes "traverses home along X or Y, below the top of a fixture"
concern_text LowAcross = codes "traverses across the work without a retract before them"
concern_text Untested = codes "motions on which only the spindle nose is tested"

abbrev pub warning_text : Warning → List ℕ
warning_text w =
    codes "warning: " ++ concern_text w.concern ++ codes ": " ++ decimal w.count
    ++ codes ", the first in line " ++ decimal w.line ++ codes ".\n"

-- a program that fits, with its motions without a tool, if it has any
abbrev pub nose_text : Warning → List ℕ
nose_text w =
    codes "The program fits, but without a tool only the spindle nose was tested: motions "
    ++ decimal w.count ++ codes ", the first in line " ++ decimal w.line
    ++ codes ", the last in line " ++ decimal w.last ++ codes ".\n"

unfoldable pub fits_text : Option Warning → List ℕ
fits_text None =
    codes "The program fits: every position is inside the travel and clear of every fixture.\n"
fits_text (Some w) = nose_text w

-- whether the machine file describes a fixture
abbrev pub described_text : Bool → List ℕ
described_text true = []
described_text false = codes "No fixture is described: only the travel was tested.\n"

abbrev pub verdict_text : Option Warning → Bool → List ℕ
verdict_text nose described = fits_text nose ++ described_text described

unfoldable pub line_text : Line → List ℕ
line_text (lines.Fits nose described) = verdict_text nose described
line_text lines.Refused = codes "The program does not fit.\n"
line_text (lines.Along a) = along_text a
line_text (lines.Use u) = use_text u
line_text (lines.Near n name) = nearest_text n name
line_text (lines.Start s) =
    codes "The start is refused, at " ++ place_text (place_of s.from) ++ codes ".\n"
line_text (lines.Command k s) = command_text k s
line_text (lines.InTheWay o) = obstacle_text o
line_text (lines.Clear c) = clearing_text c
line_text (lines.Warned w) = warning_text w
