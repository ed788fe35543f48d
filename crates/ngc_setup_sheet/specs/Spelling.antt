-- How the lines of a setup sheet are written. Our own.
use Rattle.std.specs.Prelude.{ℕ, ◌+◌, ◌-◌, nat_le, ◌-ℤ◌, unsigned_abs, List, [], ◌++◌, flat_map, codes}
use Rattle.std.specs.Prelude.{decimal, length, ◌==◌, if◌then◌else◌}
use Rattle.ngc_dialect_names.specs.Names.{name_of}
use Rattle.ngc_file_figures.specs.Cutters.{name_of as cutter_name}
use Rattle.ngc_file_figures.specs.declared.limits.Limits.{Limits}
use Rattle.ngc_fixed_length.specs.declared.modes.System.{System}
use Rattle.ngc_fixed_length.specs.declared.modes.System.TheVariants as systems
use Rattle.ngc_fixed_length.specs.declared.points.Point3.{Point3}
use Rattle.ngc_machine_files.specs.declared.machine.StockBox.{StockBox}
use Rattle.ngc_text.specs.Millimetres.{size_text, length_text, mm_text}
use Rattle.ngc_sentences.specs.Parts.{thousandths_text}
use Rattle.ngc_setup_sheet.specs.declared.line.Axis.TheVariants as axes
use Rattle.ngc_setup_sheet.specs.declared.line.Fact.{Fact}
use Rattle.ngc_setup_sheet.specs.declared.line.Fact.TheVariants as facts
use Rattle.ngc_setup_sheet.specs.declared.line.Figure.{Figure}
use Rattle.ngc_setup_sheet.specs.declared.line.Figure.TheVariants as figures
use Rattle.ngc_setup_sheet.specs.declared.line.Line.{Line}
use Rattle.ngc_setup_sheet.specs.declared.line.Line.TheVariants as lines
use Rattle.ngc_setup_sheet.specs.declared.line.Span.{Span}
use Rattle.ngc_setup_sheet.specs.declared.line.Warning.{Warning}
use Rattle.ngc_setup_sheet.specs.declared.line.Warning.TheVariants as warnings

abbrev pub span_text : Span → List ℕ
span_text s = length_text s.low ++ codes " to " ++ length_text s.high ++ codes " mm, "
    ++ size_text (unsigned_abs (s.high -ℤ s.low)) ++ codes " mm long"

abbrev pub place_text : Point3 → List ℕ
place_text p =
    codes "X " ++ length_text p.x ++ codes " Y " ++ length_text p.y ++ codes " Z " ++ mm_text p.z

-- a coordinate system is named by the code that selects it
unfoldable pub system_text : System → List ℕ
system_text systems.First = codes "G54"
system_text systems.Second = codes "G55"
system_text systems.Third = codes "G56"
system_text systems.Fourth = codes "G57"
system_text systems.Fifth = codes "G58"
system_text systems.Sixth = codes "G59"
system_text systems.Seventh = codes "G59.1"
system_text systems.Eighth = codes "G59.2"
system_text systems.Ninth = codes "G59.3"

unfoldable pub origin_text : System → List ℕ
origin_text systems.First = codes "  origin of G54         "
origin_text systems.Second = codes "  origin of G55         "
origin_text systems.Third = codes "  origin of G56         "
origin_text systems.Fourth = codes "  origin of G57         "
origin_text systems.Fifth = codes "  origin of G58         "
origin_text systems.Sixth = codes "  origin of G59         "
origin_text systems.Seventh = codes "  origin of G59.1       "
origin_text systems.Eighth = codes "  origin of G59.2       "
origin_text systems.Ninth = codes "  origin of G59.3       "

unfoldable pub fact_text : Fact → List ℕ
fact_text facts.Step = codes "  step                  "
fact_text facts.Steps = codes "  steps                 "
fact_text facts.PathStep = codes "  step of the path      "
fact_text facts.PathSteps = codes "  steps of the path     "
fact_text (facts.Motor axes.X) = codes "  step of X's motor     "
fact_text (facts.Motor axes.Y) = codes "  step of Y's motor     "
fact_text (facts.Motor axes.Z) = codes "  step of Z's motor     "
fact_text (facts.MotorSteps axes.X) = codes "  steps of X's motor    "
fact_text (facts.MotorSteps axes.Y) = codes "  steps of Y's motor    "
fact_text (facts.MotorSteps axes.Z) = codes "  steps of Z's motor    "
fact_text facts.Ticks = codes "  ticks                 "
fact_text facts.GreatestSpeed = codes "  greatest speed        "
fact_text facts.CornerSpeed = codes "  speed at corners      "
fact_text facts.Jump = codes "  jump at corners       "
fact_text facts.Ring = codes "  commands in the ring  "
fact_text facts.ArcFeed = codes "  feed on arcs          "
fact_text facts.Changer = codes "  tools are changed     "
fact_text facts.Margin = codes "  margin to fixtures    "
fact_text facts.TravelMargin = codes "  margin to the limits  "
fact_text facts.Rapids = codes "  traverses take        "
fact_text facts.Dialect = codes "  language of programs  "
fact_text facts.Stock = codes "  material              "
fact_text facts.Acceleration = codes "  acceleration          "
fact_text (facts.AxisAcceleration axes.X) = codes "  acceleration of X     "
fact_text (facts.AxisAcceleration axes.Y) = codes "  acceleration of Y     "
fact_text (facts.AxisAcceleration axes.Z) = codes "  acceleration of Z     "
fact_text facts.ArcAcceleration = codes "  acceleration on arcs  "
fact_text (facts.Speed axes.X) = codes "  speed of X            "
fact_text (facts.Speed axes.Y) = codes "  speed of Y            "
fact_text (facts.Speed axes.Z) = codes "  speed of Z            "
fact_text (facts.Travel axes.X) = codes "  travel on X           "
fact_text (facts.Travel axes.Y) = codes "  travel on Y           "
fact_text (facts.Travel axes.Z) = codes "  travel on Z           "
fact_text facts.Start = codes "  start                 "
fact_text facts.Home = codes "  home of G28           "
fact_text facts.SecondHome = codes "  home of G30           "
fact_text (facts.Origin s) = origin_text s
fact_text (facts.Extent axes.X) = codes "  on X                  "
fact_text (facts.Extent axes.Y) = codes "  on Y                  "
fact_text (facts.Extent axes.Z) = codes "  on Z                  "
fact_text facts.Offset = codes "  length offset         "
fact_text facts.Part = codes "  part                  "
fact_text facts.Cutter = codes "  cutter                "
fact_text facts.SpindleLimits = codes "  spindle               "
fact_text facts.FeedLimits = codes "  feed                  "
fact_text facts.PlungeLimits = codes "  feed straight down    "

-- the coordinate system of a block of material, 1 to 9 for G54 to G59.3, or 0
abbrev pub block_system : ℕ → List ℕ
block_system n =
    if n == 0 then codes "machine coordinates"
    else (if nat_le n 6 then codes "G" ++ decimal (n + 53) else codes "G59." ++ decimal (n - 6))

abbrev pub block_text : StockBox → List ℕ
block_text b =
    place_text b.low ++ codes " to " ++ place_text b.high ++ codes " in " ++ block_system b.system

-- limits in millionths of a unit, without it
abbrev pub limits_text : Limits → List ℕ
limits_text l =
    if l.least == 0 then codes "at most " ++ size_text l.greatest
    else size_text l.least ++ codes " to " ++ size_text l.greatest

unfoldable pub figure_text : Figure → List ℕ
figure_text (figures.Length z) = mm_text z
figure_text (figures.PerMillimetre n) = thousandths_text n ++ codes " a mm"
figure_text (figures.PerSecond n) = decimal n ++ codes " a second"
figure_text (figures.Count n) = decimal n
figure_text figures.ByPlace = codes "at each place"
figure_text figures.ByPlaceWithTurn = codes "at each place, as is the acceleration"
figure_text figures.ByMachine = codes "by the machine"
figure_text figures.AnyWay = codes "any way within the box of their ends"
figure_text (figures.Language d) = name_of d
figure_text (figures.Block b) = block_text b
figure_text (figures.Speed n) = thousandths_text n ++ codes " mm/min"
figure_text (figures.Acceleration n) = thousandths_text n ++ codes " mm/s^2"
figure_text (figures.SpeedAsWritten n written) =
    thousandths_text n ++ codes " mm/min (" ++ size_text written ++ codes " as written)"
figure_text (figures.AccelerationAsWritten n written) =
    thousandths_text n ++ codes " mm/s^2 (" ++ size_text written ++ codes " as written)"
figure_text (figures.Cutter cutter) = cutter_name cutter
figure_text (figures.Turning l) = limits_text l ++ codes " rpm"
figure_text (figures.Feeds l) = limits_text l ++ codes " mm/min"
figure_text (figures.Span s) = span_text s
figure_text (figures.Place p) = place_text p
figure_text (figures.Part s diameter) = span_text s ++ codes ", diameter " ++ mm_text diameter

unfoldable pub warning_text : Warning → List ℕ
warning_text warnings.Speed = codes "the greatest speed is not from 0.1 to 1000 mm/s"
warning_text warnings.Acceleration = codes "the acceleration is not from 1 to 20000 mm/s^2"
warning_text warnings.Arcs = codes
    "the acceleration on arcs is below 1 mm/s^2, so arcs crawl: raise `turn` to about 500000 times `change`"
warning_text warnings.WrittenTurn = codes
    "the acceleration on arcs is below 1 mm/s^2, so arcs crawl: raise `turn` to about the least `acceleration` of the axes"
warning_text warnings.WrittenArcs = codes
    "the acceleration on arcs is below 1 mm/s^2, so arcs crawl: raise the least `acceleration` of the axes"
warning_text (warnings.Travel axes.X) = codes "the travel on X is less than 10 mm"
warning_text (warnings.Travel axes.Y) = codes "the travel on Y is less than 10 mm"
warning_text (warnings.Travel axes.Z) = codes "the travel on Z is less than 10 mm"
warning_text (warnings.Origin s) = codes "the origin of " ++ system_text s
    ++ codes " is outside the travel: no tool reaches it"
warning_text (warnings.Thin n) = codes "fixture " ++ decimal n
    ++ codes " is thinner than 0.1 mm: its corners are in nanometres"
warning_text (warnings.WrittenThin n) = codes "fixture " ++ decimal n
    ++ codes " is thinner than 0.1 mm: is the unit of its corners right?"
warning_text (warnings.OutOfReach n) =
    codes "fixture " ++ decimal n ++ codes " is where no tool reaches"
warning_text (warnings.Short n) = codes "tool " ++ decimal n
    ++ codes " is shorter than 1 mm: lengths are in nanometres"
warning_text (warnings.WrittenShort n) = codes "tool " ++ decimal n
    ++ codes " is shorter than 1 mm: is the unit of its lengths right?"
warning_text (warnings.Offset n) = codes "tool " ++ decimal n
    ++ codes " has an offset of more than twice or less than half its length"
warning_text warnings.Unset = codes "every tool of the table has an offset of 0: G43 changes nothing"

-- An object of a JSON document, after a comma and a line feed. A JSON string has its characters as
-- they are, except quotation marks, backslashes and control characters, which it escapes (RFC
-- 8259). A warning has none of these.
abbrev pub warning_object : Warning → List ℕ
warning_object w = codes ",\n{\"fact\":\"warning\",\"text\":\"" ++ warning_text w ++ codes "\"}"

-- a comment of a TOML document, on its own line: it ends at the line feed
abbrev pub warning_remark : Warning → List ℕ
warning_remark w = codes "# Warning: " ++ warning_text w ++ codes "\n"

-- a name after a number, if there is one
abbrev pub bracketed : List ℕ → List ℕ
bracketed name = if length name == 0 then [] else codes " (" ++ name ++ codes ")"

-- the keys that let motions meet faster, in a file without them
abbrev pub corner_note : ℕ → List ℕ
corner_note speed = codes "note: motions meet at " ++ thousandths_text speed
    ++ codes " mm/min at most, except lines in one direction: `jump`, `ring` and `arc_feed` in the machine file would make it faster (docs/RUNNING.md)\n"

-- a file of version 3 has these keys; without them the motions meet faster
abbrev pub written_note : ℕ → List ℕ
written_note speed = codes "note: motions meet at " ++ thousandths_text speed
    ++ codes " mm/min at most, except lines in one direction: without `jump`, `ring` and `arc_feed` in the machine file it would be faster (docs/RUNNING.md)\n"

abbrev pub line_text : Line → List ℕ
line_text lines.Machine = codes "machine\n"
line_text (lines.Fixture n name) =
    codes "fixture " ++ decimal n ++ bracketed name ++ codes "\n"
line_text (lines.Tool n name) = codes "tool " ++ decimal n ++ bracketed name ++ codes "\n"
line_text (lines.Fact f figure) = fact_text f ++ figure_text figure ++ codes "\n"
line_text (lines.CornerNote speed) = corner_note speed
line_text (lines.WrittenCornerNote speed) = written_note speed
line_text (lines.Warning w) = codes "warning: " ++ warning_text w ++ codes "\n"
line_text (lines.WarningFact w) = warning_object w
line_text (lines.WarningRemark w) = warning_remark w

abbrev pub lines_text : List Line → List ℕ
lines_text told = flat_map line_text told
