-- The feeds with a tool: their rates, the spindle's speeds, and how far they go straight down. Our
-- own.
use Rattle.std.specs.Prelude.{ℕ, min, max, ℤ, pos, List, [], ◌∷◌, Option, Some, None}
use Rattle.std.specs.Prelude.{if◌then◌else◌}
use Rattle.std.specs.Int.{int_max}
use Rattle.ngc_commands.specs.declared.command.Action.{Action}
use Rattle.ngc_commands.specs.declared.command.Action.TheVariants.{Move}
use Rattle.ngc_commands.specs.declared.command.Command.{Command}
use Rattle.ngc_commands.specs.declared.command.SpindleState.{SpindleState}
use Rattle.ngc_commands.specs.declared.command.SpindleState.TheVariants.{Off, Turning}
use Rattle.ngc_commands.specs.declared.movement.Feed.{Feed}
use Rattle.ngc_commands.specs.declared.movement.Feed.TheVariants.{PerMinute, Inverse}
use Rattle.ngc_commands.specs.declared.movement.Pace.{Pace}
use Rattle.ngc_commands.specs.declared.movement.Pace.TheVariants as paces
use Rattle.ngc_commands.specs.declared.movement.Way.{Way}
use Rattle.ngc_fixed_length.specs.declared.modes.Turn.TheVariants.{Clockwise, Counterclockwise}
use Rattle.ngc_tool_figures.specs.Dives.{fall}
use Rattle.ngc_tool_figures.specs.Moments.{beginning, next}
use Rattle.ngc_tool_figures.specs.declared.figures.Feeding.{Feeding}
use Rattle.ngc_tool_figures.specs.declared.figures.Range.{Range}
use Rattle.ngc_tool_figures.specs.declared.moment.Moment.{Moment}

-- the least and the greatest of the numbers so far and one more
abbrev pub with_number : Option Range → ℕ → Option Range
with_number None n = Some (record { least = n; greatest = n })
with_number (Some r) n = Some (record { least = min r.least n; greatest = max r.greatest n })

-- the greater of a distance and how far a path goes straight down
abbrev pub deeper : ℤ → Option ℤ → ℤ
deeper had None = had
deeper had (Some fall) = int_max had fall

-- ---- one more feed

abbrev pub with_rate : Feeding → Feed → Feeding
with_rate f (PerMinute n) = record f { feeds = with_number f.feeds n }
with_rate f (Inverse n) = record f { inverse_feeds = with_number f.inverse_feeds n }

-- the speed at which the spindle turns in it
abbrev pub with_spindle : Feeding → SpindleState → Feeding
with_spindle f Off = f
with_spindle f (Turning Clockwise n) = record f { clockwise = with_number f.clockwise n }
with_spindle f (Turning Counterclockwise n) =
    record f { counterclockwise = with_number f.counterclockwise n }

abbrev pub with_feed : Feeding → SpindleState → Way → Feed → Feeding
with_feed f spindle way feed =
    with_spindle (with_rate (record f { plunge = deeper f.plunge (fall way) }) feed) spindle

abbrev pub with_motion : Feeding → SpindleState → Way → Pace → Feeding
with_motion f spindle way paces.Rapid = f
with_motion f spindle way (paces.Feed feed) = with_feed f spindle way feed

-- an action while the tool is mounted
abbrev pub fed : Feeding → Moment → Action → Feeding
fed f m (Move motion) =
    if m.is_mounted then with_motion f m.spindle motion.way motion.pace else f
fed f m _ = f

-- ---- all feeds with a tool

abbrev pub no_feeding : Feeding
no_feeding = record {
  feeds = None;
  inverse_feeds = None;
  clockwise = None;
  counterclockwise = None;
  plunge = pos 0;
}

abbrev pub feeding_from : Option ℕ → Moment → Feeding → List Command → Feeding
feeding_from number m f [] = f
feeding_from number m f (c ∷ cs) =
    feeding_from number (next number m c.action) (fed f m c.action) cs

abbrev pub feeding_of : Option ℕ → List Command → Feeding
feeding_of number commands = feeding_from number (beginning number) no_feeding commands
