-- What a machine file and a tool table say besides the machine and its tools. Our own.
use Rattle.std.specs.Prelude.{ℕ, min, List, [], Option, Some, None}
use Rattle.ngc_file_figures.specs.declared.figures.AxisFigures.{AxisFigures}
use Rattle.ngc_file_figures.specs.declared.figures.FileFigures.{FileFigures}
use Rattle.ngc_file_figures.specs.declared.figures.MachineFigures.{MachineFigures}
use Rattle.ngc_file_figures.specs.declared.figures.StoredFigures.{StoredFigures}
use Rattle.ngc_file_figures.specs.declared.limits.ToolLimits.{ToolLimits}

-- of the machine file, if it has version 3, and of each tool of the table, if that has
pub record FigureValues : Type 0 where
  pub machine : Option MachineFigures
  pub tools : List ToolLimits

abbrev pub values_of : FileFigures → FigureValues
values_of f = record { machine = f.machine; tools = f.tools.now }

abbrev pub stored : StoredFigures → FigureValues
stored f = record { machine = f.machine; tools = f.tools.items }

-- of files of other versions
abbrev pub no_figures : FigureValues
no_figures = record { machine = None; tools = [] }

-- ---- single figures, if the file has them

abbrev pub speeds_of : Option MachineFigures → Option AxisFigures
speeds_of None = None
speeds_of (Some f) = Some f.speeds

abbrev pub least : AxisFigures → ℕ
least f = min (min f.x f.y) f.z

-- the least of the axes'
abbrev pub acceleration_of : Option MachineFigures → Option ℕ
acceleration_of None = None
acceleration_of (Some f) = Some (least f.accelerations)

abbrev pub corner_of : Option MachineFigures → Option ℕ
corner_of None = None
corner_of (Some f) = f.corner

abbrev pub jump_of : Option MachineFigures → Option ℕ
jump_of None = None
jump_of (Some f) = f.jump

abbrev pub turn_of : Option MachineFigures → Option ℕ
turn_of None = None
turn_of (Some f) = f.turn
