-- What to write in place of what is refused. Our own.
use Rattle.std.specs.Prelude.{ℕ, List, codes}
use Rattle.ngc_machine_figures.specs.declared.key.Key.{Key}
use Rattle.ngc_machine_figures.specs.declared.key.Key.TheVariants as keys
use Rattle.ngc_machine_figures.specs.declared.tool_key.ToolKey.{ToolKey}
use Rattle.ngc_machine_figures.specs.declared.tool_key.ToolKey.TheVariants as tools
use Rattle.ngc_quantities.specs.declared.fault.Cause.{Cause}
use Rattle.ngc_quantities.specs.declared.fault.Cause.TheVariants as causes
use Rattle.ngc_quantities.specs.declared.unit.Ending.{Ending}
use Rattle.ngc_quantities.specs.declared.unit.Ending.TheVariants as endings
use Rattle.ngc_quantities.specs.declared.unit.Kind.{Kind}
use Rattle.ngc_quantities.specs.declared.unit.Kind.TheVariants as kinds
use Rattle.ngc_refused_files.specs.declared.example.Sample.{Sample}
use Rattle.ngc_refused_files.specs.declared.example.Sample.TheVariants as samples

abbrev pub tool_sample : ToolKey → Sample
tool_sample (tools.Diameter n) = samples.Diameter
tool_sample (tools.Shank n) = samples.Diameter
tool_sample (tools.Length n) = samples.Reach
tool_sample (tools.Stickout n) = samples.Reach
tool_sample (tools.Offset n) = samples.Reach
tool_sample (tools.Flute n) = samples.Flute
tool_sample (tools.PartDiameter n part) = samples.HolderDiameter
tool_sample (tools.PartLength n part) = samples.HolderLength
tool_sample (tools.Speed n) = samples.Turning
tool_sample (tools.Feed n) = samples.Feeds
tool_sample (tools.Point n) = samples.Diameter
tool_sample (tools.Plunge n) = samples.Plunge
tool_sample _ = samples.Other

-- what the text of a key says
abbrev pub sample_of : Key → Sample
sample_of (keys.Motor axis) = samples.Motor
sample_of (keys.Travel axis) = samples.Range
sample_of (keys.Speed axis) = samples.Speed
sample_of keys.Corner = samples.Speed
sample_of keys.Jump = samples.Speed
sample_of (keys.Acceleration axis) = samples.Acceleration
sample_of keys.Turn = samples.Acceleration
sample_of keys.Margin = samples.Length
sample_of keys.TravelMargin = samples.Length
sample_of keys.Start = samples.Place
sample_of keys.Home28 = samples.Place
sample_of keys.Home30 = samples.Place
sample_of (keys.Origin system) = samples.Place
sample_of (keys.FixtureFrom n) = samples.Place
sample_of (keys.FixtureTo n) = samples.Place
sample_of (keys.FixtureSize n) = samples.Place
sample_of keys.StockFrom = samples.Place
sample_of keys.StockTo = samples.Place
sample_of keys.StockSize = samples.Place
sample_of (keys.Tool key) = tool_sample key
sample_of _ = samples.Other

abbrev pub sample_text : Sample → List ℕ
sample_text samples.Length = codes "\"300 mm\""
sample_text samples.Speed = codes "\"8000 mm/min\""
sample_text samples.Acceleration = codes "\"500 mm/s2\""
sample_text samples.Motor = codes "\"80 steps/mm\""
sample_text samples.Chain = codes "\"1.8 deg, 8 microsteps, 5 mm pitch\""
sample_text samples.Range = codes "\"0 mm to 300 mm\""
sample_text samples.Place = codes "\"60, 40, -140 mm\""
sample_text samples.Diameter = codes "\"6 mm\""
sample_text samples.Reach = codes "\"45 mm\""
sample_text samples.Flute = codes "\"18 mm\""
sample_text samples.HolderDiameter = codes "\"25 mm\""
sample_text samples.HolderLength = codes "\"30 mm\""
sample_text samples.Feeds = codes "\"100 to 1500 mm/min\""
sample_text samples.Plunge = codes "\"300 mm/min\""
sample_text samples.Turning = codes "\"8000 to 24000 rpm\""
sample_text samples.Other = codes "a text with a unit"

-- of the text of a motor only a chain has parts of another kind than steps
abbrev pub motor_by : Kind → Sample
motor_by kinds.Steps = samples.Motor
motor_by _ = samples.Chain

abbrev pub part_of : Sample → Kind → Sample
part_of samples.Motor kind = motor_by kind
part_of sample kind = sample

abbrev pub sample_by : Key → Kind → Sample
sample_by key kind = part_of (sample_of key) kind

-- the example for a text of a key in which a part of this kind is wrong
abbrev pub example : Key → Kind → List ℕ
example key kind = sample_text (sample_by key kind)

abbrev pub ending_example : Key → Ending → List ℕ
ending_example key endings.Nothing = sample_text (sample_of key)
ending_example key endings.Pitch = sample_text samples.Chain
ending_example key endings.Belt = codes "\"1.8 deg, 8 microsteps, 20 teeth, 2 mm belt\""

-- what ends the sentence on a cause: an example, or nothing where the complaint says it all
abbrev pub remedy : Key → Cause → List ℕ
remedy key causes.ManyDigits = codes ""
remedy key causes.NoBlanks = codes "\"60 mm + 12.5 mm\""
remedy key causes.ZeroBelow = codes "\"1/8 in\""
remedy key causes.FractionUnit = codes "\"1/8 in\""
remedy key causes.Comma = codes "\"12.5 mm\""
remedy key (causes.OtherEnding ending) = ending_example key ending
remedy key (causes.UnknownUnit kind meant) = example key kind
remedy key causes.NoGear = codes "\"24 teeth drive 60 teeth\""
remedy key _ = sample_text (sample_of key)
