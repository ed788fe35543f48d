-- The cutter of a tool, and limits of which reports warn. Our own.
use Rattle.std.specs.Prelude.{ℕ, List, [], map, Option, Some, None, Result, Ok, Err, if◌then◌else◌}
use Rattle.toml.specs.Data.{Data}
use Rattle.ngc_file_figures.specs.declared.cutter.Cutter.{Cutter}
use Rattle.ngc_file_figures.specs.declared.cutter.Cutter.TheVariants.{Vee}
use Rattle.ngc_file_figures.specs.declared.limits.Limits.{Limits}
use Rattle.ngc_file_figures.specs.declared.limits.ToolLimits.{ToolLimits}
use Rattle.ngc_machine_figures.specs.Kinds.{speed_value}
use Rattle.ngc_machine_figures.specs.Limits.{cutter_value, feeds_value, turning_value}
use Rattle.ngc_machine_figures.specs.Reading.{◌>>=◌, optional}
use Rattle.ngc_machine_figures.specs.declared.key.Key.TheVariants.{Tool}
use Rattle.ngc_machine_figures.specs.declared.limits.FeedLimits.{FeedLimits}
use Rattle.ngc_machine_figures.specs.declared.limits.TurningLimits.{TurningLimits}
use Rattle.ngc_machine_figures.specs.declared.refusal.FileRefusal.{FileRefusal}
use Rattle.ngc_machine_figures.specs.declared.sheet.Speed.{Speed}
use Rattle.ngc_machine_figures.specs.declared.tool_key.ToolKey.TheVariants as keys
use Rattle.ngc_written_tools.specs.declared.sheet.LimitSheet.{LimitSheet}
use Rattle.ngc_written_tools.specs.declared.sheet.MeasuredTool.{MeasuredTool}
use Rattle.ngc_written_tools.specs.declared.sheet.Size.{Size}

abbrev pub turning : Option TurningLimits → Option Limits
turning None = None
turning (Some l) = Some l.limits

abbrev pub feeds : Option FeedLimits → Option Limits
feeds None = None
feeds (Some l) = Some l.limits

-- from 0 up to a speed
abbrev pub up_to : Option Speed → Option Limits
up_to None = None
up_to (Some s) = Some (record { least = 0; greatest = s.nanometres_a_minute })

-- of the tool with number n in the table's order, from 0
unfoldable pub limits_at : ℕ → Data → Result LimitSheet FileRefusal
limits_at n section = do
  cutter ← optional cutter_value (Tool (keys.Cutter n)) section
  speed ← optional turning_value (Tool (keys.Speed n)) section
  feed ← optional feeds_value (Tool (keys.Feed n)) section
  plunge ← optional speed_value (Tool (keys.Plunge n)) section
  Ok (record { cutter = cutter; speed = turning speed; feed = feeds feed; plunge = up_to plunge })

abbrev pub nanometres : Option Size → Option ℕ
nanometres None = None
nanometres (Some s) = Some s.nanometres

-- the height of a cone: of the point, or else of a vee's flute, which isn't lower
abbrev pub cone_by : Option Cutter → Option Size → Option Size → Option ℕ
cone_by cutter (Some point) flute = Some point.nanometres
cone_by (Some Vee) None flute = nanometres flute
cone_by _ None flute = None

-- what is said of a tool besides its body
abbrev pub limits_by : MeasuredTool → ToolLimits
limits_by t = record {
  number = t.sheet.number.number;
  cutter = t.sheet.limits.cutter;
  cone = cone_by t.sheet.limits.cutter t.sheet.point t.sheet.flute;
  speed = t.sheet.limits.speed;
  feed = t.sheet.limits.feed;
  plunge = t.sheet.limits.plunge;
}
