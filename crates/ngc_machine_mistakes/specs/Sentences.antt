-- What is wrong with the figures of a machine file. Our own.
use Rattle.std.specs.Prelude.{ℕ, List, [], ◌++◌, codes}
use Rattle.ngc_motor_scale.specs.declared.scale.ScaleRefusal.{ScaleRefusal}
use Rattle.ngc_motor_scale.specs.declared.scale.ScaleRefusal.TheVariants as scales
use Rattle.ngc_machine_figures.specs.declared.key.AxisName.{AxisName}
use Rattle.ngc_machine_figures.specs.declared.key.AxisName.TheVariants as names
use Rattle.ngc_machine_files.specs.declared.fault.FileFault.{FileFault}
use Rattle.ngc_machine_files.specs.declared.fault.FileFault.TheVariants as faults
use Rattle.ngc_machine_maker.specs.declared.figures.Axis.TheVariants as axes
use Rattle.ngc_machine_maker.specs.declared.refusal.FigureRefusal.{FigureRefusal}
use Rattle.ngc_machine_maker.specs.declared.refusal.FigureRefusal.TheVariants as figures
use Rattle.ngc_written_machines.specs.declared.refusal.WrittenRefusal.{WrittenRefusal}
use Rattle.ngc_written_machines.specs.declared.refusal.WrittenRefusal.TheVariants as refusals

abbrev pub axis_text : AxisName → List ℕ
axis_text names.X = codes "axis.x"
axis_text names.Y = codes "axis.y"
axis_text names.Z = codes "axis.z"

abbrev pub motor_text : ScaleRefusal → List ℕ
motor_text scales.Short = codes "the step is shorter than 500 nm"
motor_text scales.Long = codes "the step is longer than 50,000 nm"
motor_text scales.Fine = codes "the step has too many digits"

-- the table of a figure's axis, where the figure has one
abbrev pub figure_axis : FigureRefusal → List ℕ
figure_axis (figures.SlowFeed axes.X) = codes "axis.x."
figure_axis (figures.SlowFeed axes.Y) = codes "axis.y."
figure_axis (figures.SlowFeed axes.Z) = codes "axis.z."
figure_axis (figures.FastFeed axes.X) = codes "axis.x."
figure_axis (figures.FastFeed axes.Y) = codes "axis.y."
figure_axis (figures.FastFeed axes.Z) = codes "axis.z."
figure_axis (figures.FarTravel axes.X) = codes "axis.x."
figure_axis (figures.FarTravel axes.Y) = codes "axis.y."
figure_axis (figures.FarTravel axes.Z) = codes "axis.z."
figure_axis _ = codes ""

abbrev pub figure_text : FigureRefusal → List ℕ
figure_text (figures.SlowFeed axis) = codes "speed: the axis moves less than a millionth of a step per tick: write fewer ticks"
figure_text (figures.FastFeed axis) = codes "speed: the axis moves more than a step per tick: write more ticks, or a lower speed"
figure_text figures.SlowCorner = codes "corner: the speed is less than a millionth of a step per tick: write fewer ticks"
figure_text figures.LowAcceleration = codes "axis: the least acceleration is too low for the ticks: write fewer ticks"
figure_text figures.LowArcs = codes "turn: the acceleration is too low for the ticks: write fewer ticks"
figure_text (figures.FarTravel axis) = codes "travel: it is shorter than a step, or longer than 3,999 mm"
figure_text _ = codes "a figure can't be used"

abbrev pub range_text : FileFault → List ℕ
range_text faults.Travel = codes "start: it isn't inside the travel, or an end of the travel is farther than 3,999 mm from zero"
range_text faults.Places = codes "origin: an origin or a home position is farther than 4,000 mm from zero"
range_text faults.Fixtures = codes "fixture: a corner is farther than 4,000 mm from zero, or a side has no length"
range_text faults.Stock = codes "stock: a corner is farther than 1,000 mm from zero, or a side has no length"
range_text _ = codes "a number is out of its range"

-- a key that can't be read has a text of its own
unfoldable pub figures_text : WrittenRefusal → List ℕ
figures_text (refusals.Sheet refusal) = []
figures_text (refusals.Motor axis refusal) = axis_text axis ++ codes ".motor: " ++ motor_text refusal
figures_text (refusals.Figure refusal) = figure_axis refusal ++ figure_text refusal
figures_text (refusals.Range fault) = range_text fault
