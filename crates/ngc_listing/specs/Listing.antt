-- The listing: a line for each command. Our own format.
use Rattle.std.specs.Prelude.{ℕ, ◌+◌, ℤ, List, [], ◌∷◌, ◌++◌, codes, decimal, Option, Some, None}
use Rattle.std.specs.Prelude.{Bool, true, false}
use Rattle.std.specs.Fmt.{signed_decimal}
use Rattle.ngc_fixed_length.specs.Grid.{grid}
use Rattle.ngc_arc_geometry.specs.Shape.{ArcShape}
use Rattle.ngc_fixed_length.specs.declared.modes.Plane.{Plane}
use Rattle.ngc_fixed_length.specs.declared.modes.Plane.TheVariants.{XY, ZX, YZ}
use Rattle.ngc_fixed_length.specs.declared.modes.Turn.{Turn}
use Rattle.ngc_fixed_length.specs.declared.modes.Turn.TheVariants.{Clockwise, Counterclockwise}
use Rattle.ngc_fixed_length.specs.declared.points.Point3.{Point3}
use Rattle.ngc_fixed_length.specs.declared.points.StepPos.{StepPos}
use Rattle.ngc_machine_files.specs.declared.tools.Tool.{Tool}
use Rattle.ngc_commands.specs.Movement.{end_of}
use Rattle.ngc_commands.specs.declared.command.Action.{Action}
use Rattle.ngc_commands.specs.declared.command.Action.TheVariants.{Move, Mount, Dwell, Spindle}
use Rattle.ngc_commands.specs.declared.command.Action.TheVariants.{Coolant, Override, Stop}
use Rattle.ngc_commands.specs.declared.command.Action.TheVariants.{OptionalStop, End}
use Rattle.ngc_commands.specs.declared.command.Command.{Command}
use Rattle.ngc_commands.specs.declared.movement.Feed.{Feed}
use Rattle.ngc_commands.specs.declared.movement.Feed.TheVariants as feeds
use Rattle.ngc_commands.specs.declared.movement.Pace.{Pace}
use Rattle.ngc_commands.specs.declared.movement.Pace.TheVariants as paces
use Rattle.ngc_commands.specs.declared.movement.Way.{Way}
use Rattle.ngc_commands.specs.declared.movement.Way.TheVariants.{Line, Arc}
use Rattle.ngc_commands.specs.declared.command.SpindleState.{SpindleState}
use Rattle.ngc_commands.specs.declared.command.SpindleState.TheVariants as spindles
use Rattle.ngc_commands.specs.declared.command.CoolantState.{CoolantState}
use Rattle.ngc_commands.specs.declared.command.CoolantState.TheVariants as coolants

-- three numbers, separated by one space
abbrev pub triple : ℤ → ℤ → ℤ → List ℕ
triple x y z = signed_decimal x ++ codes " " ++ signed_decimal y ++ codes " " ++ signed_decimal z

abbrev pub place_text : Point3 → List ℕ
place_text p = triple p.x p.y p.z

abbrev pub steps_text : StepPos → List ℕ
steps_text p = triple p.x p.y p.z

-- an ideal end in nanometres, and its grid point in steps
abbrev pub end_text : ℤ → Point3 → List ℕ
end_text step end = place_text end ++ codes " grid " ++ steps_text (grid step end)

abbrev pub feed_text : Feed → List ℕ
feed_text (feeds.PerMinute n) = codes " permin " ++ decimal n
feed_text (feeds.Inverse n) = codes " inverse " ++ decimal n

abbrev pub turn_text : Turn → List ℕ
turn_text Clockwise = codes "cw"
turn_text Counterclockwise = codes "ccw"

abbrev pub plane_text : Plane → List ℕ
plane_text XY = codes "xy"
plane_text ZX = codes "zx"
plane_text YZ = codes "yz"

-- the direction of turning, the plane, and the centre in the plane's coordinates
abbrev pub arc_text : ArcShape → List ℕ
arc_text arc = turn_text arc.turn ++ codes " " ++ plane_text arc.plane ++ codes " "
    ++ signed_decimal arc.centre.u ++ codes " " ++ signed_decimal arc.centre.v

abbrev pub spindle_text : SpindleState → List ℕ
spindle_text spindles.Off = codes "off"
spindle_text (spindles.Turning turn speed) = turn_text turn ++ codes " " ++ decimal speed

abbrev pub coolant_text : CoolantState → List ℕ
coolant_text coolants.Off = codes "off"
coolant_text coolants.Mist = codes "mist"
coolant_text coolants.Flood = codes "flood"
coolant_text coolants.Both = codes "both"

-- the tool's number, or 0 without a tool
abbrev pub number_of_tool : Option Tool → ℕ
number_of_tool None = 0
number_of_tool (Some tool) = tool.number

abbrev pub switch_text : Bool → List ℕ
switch_text true = codes "on"
switch_text false = codes "off"

-- the text before the end of a motion
abbrev pub way_text : Way → Pace → List ℕ
way_text (Line start end) paces.Rapid = codes " traverse "
way_text (Line start end) (paces.Feed feed) = codes " feed "
way_text (Arc arc) pace = codes " arc " ++ arc_text arc ++ codes " to "

-- the text after the end of a motion
abbrev pub pace_text : Pace → List ℕ
pace_text paces.Rapid = []
pace_text (paces.Feed feed) = feed_text feed

-- the text of an action
abbrev pub act_text : ℤ → Action → List ℕ
act_text step (Move m) = way_text m.way m.pace ++ end_text step (end_of m.way) ++ pace_text m.pace
act_text step (Dwell millionths) = codes " dwell " ++ decimal millionths
act_text step (Mount tool) = codes " tool " ++ decimal (number_of_tool tool)
act_text step (Spindle state) = codes " spindle " ++ spindle_text state
act_text step (Coolant state) = codes " coolant " ++ coolant_text state
act_text step (Override on) = codes " override " ++ switch_text on
act_text step Stop = codes " stop"
act_text step OptionalStop = codes " optional stop"
act_text step End = codes " end"

-- a line of the listing: the command's index, its line in the program, and its action
abbrev pub listing_line : ℤ → ℕ → Command → List ℕ
listing_line step index command =
    decimal index ++ codes " " ++ decimal command.line ++ act_text step command.action ++ codes "\n"

abbrev pub listing_from : ℕ → ℤ → List Command → List ℕ
listing_from index step [] = []
listing_from index step (command ∷ commands) =
    listing_line step index command ++ listing_from (index + 1) step commands

-- the listing of a list of commands, whose indexes count from 0
abbrev pub listing : ℤ → List Command → List ℕ
listing step commands = listing_from 0 step commands
