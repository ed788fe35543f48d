-- The lines of a report as facts: objects of one JSON document (RFC 8259), each after a comma, on
-- its own line. Lengths are in nanometres. Our own.
use Rattle.std.specs.Prelude.{ℕ, ℤ, List, [], ◌++◌, codes, decimal, Option, Some, None, length}
use Rattle.std.specs.Prelude.{◌==◌, flat_map, Bool, true, false, if◌then◌else◌}
use Rattle.std.specs.Fmt.{signed_decimal}
use Rattle.ngc_fixed_length.specs.declared.points.Point3.{Point3}
use Rattle.ngc_machine_files.specs.declared.tools.Tool.{Tool}
use Rattle.ngc_collision.specs.Inside.{place_of}
use Rattle.ngc_report.specs.Quotes.{escaped}
use Rattle.ngc_report.specs.Words.{axis_text, away_text, concern_text}
use Rattle.ngc_findings.specs.declared.clearing.Clearing.{Clearing}
use Rattle.ngc_findings.specs.declared.clearing.Clearing.TheVariants as clearings
use Rattle.ngc_findings.specs.declared.clearing.Inward.{Inward}
use Rattle.ngc_findings.specs.declared.clearing.Passed.{Passed}
use Rattle.ngc_findings.specs.declared.line.Along.{Along}
use Rattle.ngc_findings.specs.declared.line.Line.{Line}
use Rattle.ngc_findings.specs.declared.line.Line.TheVariants as lines
use Rattle.ngc_findings.specs.declared.margins.Margin.{Margin}
use Rattle.ngc_findings.specs.declared.margins.Side.{Side}
use Rattle.ngc_findings.specs.declared.margins.Side.TheVariants.{Below, Above}
use Rattle.ngc_findings.specs.declared.nearest.Nearest.{Nearest}
use Rattle.ngc_findings.specs.declared.scene.Met.{Met}
use Rattle.ngc_findings.specs.declared.scene.Obstacle.{Obstacle}
use Rattle.ngc_findings.specs.declared.scene.Obstacle.TheVariants.{Travel, Fixture}
use Rattle.ngc_findings.specs.declared.scene.Scene.{Scene}
use Rattle.ngc_findings.specs.declared.uses.ToolUse.{ToolUse}
use Rattle.ngc_findings.specs.declared.warnings.Warning.{Warning}

-- ---- values

-- a name with a number, if there is one
unfoldable pub name_fact : List ℕ → List ℕ → List ℕ
name_fact key name =
    if length name == 0 then []
    else codes ",\"" ++ key ++ codes "\":\"" ++ flat_map escaped name ++ codes "\""

-- a tool's number and name, or null without a tool
unfoldable pub tool_fact : Option Tool → List ℕ
tool_fact None = codes "null"
tool_fact (Some tool) = decimal tool.number ++ name_fact (codes "tool_name") tool.name

unfoldable pub triple : Point3 → List ℕ
triple p = codes "[" ++ signed_decimal p.x ++ codes "," ++ signed_decimal p.y ++ codes ","
    ++ signed_decimal p.z ++ codes "]"

-- the nearest fixture, with its name
unfoldable pub nearest_fact : Option Nearest → List ℕ → List ℕ
nearest_fact None name = codes ",\"nearest_fixture\":null,\"distance\":null}"
nearest_fact (Some n) name =
    codes ",\"nearest_fixture\":" ++ decimal n.fixture ++ name_fact (codes "fixture_name") name
    ++ codes ",\"distance\":" ++ signed_decimal n.distance ++ codes "}"

abbrev pub side_fact : Side → List ℕ
side_fact Below = codes "below"
side_fact Above = codes "above"

unfoldable pub over_fact : Option ℤ → List ℕ
over_fact None = codes "null}"
over_fact (Some height) = signed_decimal height ++ codes "}"

-- ---- facts

abbrev pub along_fact : Along → List ℕ
along_fact a =
    codes ",\n{\"fact\":\"extent\",\"axis\":\"" ++ axis_text a.axis ++ codes "\",\"low\":"
    ++ signed_decimal a.low ++ codes ",\"high\":" ++
    signed_decimal a.high ++ codes ",\"left_below\":" ++ signed_decimal a.room.below
    ++ codes ",\"left_above\":" ++
    signed_decimal a.room.above ++ codes "}"

abbrev pub use_fact : ToolUse → List ℕ
use_fact u =
    codes ",\n{\"fact\":\"use\",\"tool\":" ++ tool_fact u.tool ++ codes ",\"traverses\":"
    ++ decimal u.traverses ++ codes ",\"traverse_way\":" ++
    decimal u.traverse_way ++ codes ",\"feeds\":" ++ decimal u.feeds ++ codes ",\"feed_way\":"
    ++ decimal u.feed_way ++ codes ",\"arcs\":" ++
    decimal u.arcs ++ codes ",\"dwells\":" ++ decimal u.dwells ++ codes ",\"stops\":"
    ++ decimal u.stops

abbrev pub start_fact : Scene → List ℕ
start_fact s = codes ",\n{\"fact\":\"start\",\"at\":" ++ triple (place_of s.from) ++ codes "}"

abbrev pub command_fact : ℕ → Scene → List ℕ
command_fact k s =
    codes ",\n{\"fact\":\"command\",\"index\":" ++ decimal k ++ codes ",\"line\":" ++ decimal s.line
    ++ codes ",\"tool\":" ++ tool_fact s.tool ++
    codes ",\"from\":" ++ triple (place_of s.from) ++ codes ",\"to\":" ++ triple (place_of s.to)
    ++ codes "}"

abbrev pub travel_fact : Margin → List ℕ
travel_fact m =
    codes ",\n{\"fact\":\"obstacle\",\"kind\":\"travel\",\"axis\":\"" ++ axis_text m.axis
    ++ codes "\",\"side\":\"" ++ side_fact m.side ++
    codes "\",\"left\":" ++ signed_decimal m.left ++ codes "}"

abbrev pub fixture_fact : Met → List ℕ
fixture_fact m =
    codes ",\n{\"fact\":\"obstacle\",\"kind\":\"fixture\",\"fixture\":" ++ decimal m.number
    ++ name_fact (codes "fixture_name") m.fixture.name ++ codes ",\"low\":" ++ triple m.fixture.low ++
    codes ",\"high\":" ++ triple m.fixture.high ++ codes ",\"over_from_z\":" ++ over_fact m.over

unfoldable pub obstacle_fact : Option Obstacle → List ℕ
obstacle_fact None = codes ",\n{\"fact\":\"obstacle\",\"kind\":null}"
obstacle_fact (Some (Travel m)) = travel_fact m
obstacle_fact (Some (Fixture m)) = fixture_fact m

-- three distances, along X, Y and Z
unfoldable pub distances : ℕ → ℕ → ℕ → List ℕ
distances x y z =
    codes "[" ++ decimal x ++ codes "," ++ decimal y ++ codes "," ++ decimal z ++ codes "]"

abbrev pub passed_fact : Passed → List ℕ
passed_fact p =
    codes ",\n{\"fact\":\"clear\",\"kind\":\"fixture\",\"fixture\":" ++ decimal p.number
    ++ name_fact (codes "fixture_name") p.name ++ codes ",\"plus\":"
    ++ distances p.shifts.x.up p.shifts.y.up p.shifts.z.up ++ codes ",\"minus\":"
    ++ distances p.shifts.x.down p.shifts.y.down p.shifts.z.down ++ codes "}"

unfoldable pub distance_fact : Option ℕ → List ℕ
distance_fact None = codes "null}"
distance_fact (Some n) = decimal n ++ codes "}"

abbrev pub inward_fact : Inward → List ℕ
inward_fact i =
    codes ",\n{\"fact\":\"clear\",\"kind\":\"travel\",\"direction\":\"" ++ axis_text i.axis
    ++ away_text i.side ++ codes "\",\"distance\":" ++ distance_fact i.shift

unfoldable pub clearing_fact : Option Clearing → List ℕ
clearing_fact None = []
clearing_fact (Some (clearings.Fixture p)) = passed_fact p
clearing_fact (Some (clearings.Travel i)) = inward_fact i

abbrev pub warning_fact : Warning → List ℕ
warning_fact w =
    codes ",\n{\"fact\":\"warning\",\"text\":\"" ++ concern_text w.concern ++ codes "\",\"count\":"
    ++ decimal w.count ++ codes ",\"line\":" ++
    decimal w.line ++ codes "}"

abbrev pub nose_fact : Warning → List ℕ
nose_fact w =
    codes ",\n{\"fact\":\"verdict\",\"fits\":true,\"tested\":\"nose\",\"motions\":"
    ++ decimal w.count ++ codes ",\"first\":" ++ decimal w.line ++ codes ",\"last\":"
    ++ decimal w.last ++ codes "}"

unfoldable pub fits_fact : Option Warning → List ℕ
fits_fact None = codes ",\n{\"fact\":\"verdict\",\"fits\":true}"
fits_fact (Some w) = nose_fact w

-- whether the machine file describes a fixture
abbrev pub described_fact : Bool → List ℕ
described_fact true = []
described_fact false = codes ",\n{\"fact\":\"fixtures\",\"described\":0}"

abbrev pub verdict_fact : Option Warning → Bool → List ℕ
verdict_fact nose described = fits_fact nose ++ described_fact described

unfoldable pub line_fact : Line → List ℕ
line_fact (lines.Fits nose described) = verdict_fact nose described
line_fact lines.Refused = codes ",\n{\"fact\":\"verdict\",\"fits\":false}"
line_fact (lines.Along a) = along_fact a
line_fact (lines.Use u) = use_fact u
line_fact (lines.Near n name) = nearest_fact n name
line_fact (lines.Start s) = start_fact s
line_fact (lines.Command k s) = command_fact k s
line_fact (lines.InTheWay o) = obstacle_fact o
line_fact (lines.Clear c) = clearing_fact c
line_fact (lines.Warned w) = warning_fact w
