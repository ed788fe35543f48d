-- The figures of a machine file as they are written. Our own.
use Rattle.std.specs.Prelude.{ℕ, List, Option, Some, None, Result, Ok, Err, if◌then◌else◌}
use Rattle.toml.specs.Data.{Data}
use Rattle.ngc_file_figures.specs.declared.figures.AxisFigures.{AxisFigures}
use Rattle.ngc_file_figures.specs.declared.figures.MachineFigures.{MachineFigures}
use Rattle.ngc_machine_figures.specs.Files.{SheetValues, sheet_of}
use Rattle.ngc_machine_figures.specs.Version.{is_written}
use Rattle.ngc_machine_figures.specs.declared.refusal.FileRefusal.{FileRefusal}
use Rattle.ngc_machine_figures.specs.declared.sheet.Acceleration.{Acceleration}
use Rattle.ngc_machine_figures.specs.declared.sheet.AxesSheet.{AxesSheet}
use Rattle.ngc_machine_figures.specs.declared.sheet.HeadSheet.{HeadSheet}
use Rattle.ngc_machine_figures.specs.declared.sheet.Speed.{Speed}
use Rattle.ngc_machine_files.specs.Tree.{tree_of}

abbrev pub speeds : AxesSheet → AxisFigures
speeds a = record {
  x = a.x.speed.nanometres_a_minute;
  y = a.y.speed.nanometres_a_minute;
  z = a.z.speed.nanometres_a_minute;
}

abbrev pub accelerations : AxesSheet → AxisFigures
accelerations a = record {
  x = a.x.acceleration.nanometres_a_second_squared;
  y = a.y.acceleration.nanometres_a_second_squared;
  z = a.z.acceleration.nanometres_a_second_squared;
}

abbrev pub speed : Option Speed → Option ℕ
speed None = None
speed (Some s) = Some s.nanometres_a_minute

abbrev pub acceleration : Option Acceleration → Option ℕ
acceleration None = None
acceleration (Some a) = Some a.nanometres_a_second_squared

abbrev pub written_figures : HeadSheet → MachineFigures
written_figures h = record {
  speeds = speeds h.axes;
  accelerations = accelerations h.axes;
  corner = speed h.control.corner;
  jump = speed h.control.jump;
  turn = acceleration h.control.turn;
}

abbrev pub sheet_figures : Result SheetValues FileRefusal → Option MachineFigures
sheet_figures (Ok s) = Some (written_figures s.head)
sheet_figures (Err refusal) = None

-- of a file of version 3, by its tree; none where a key is refused
abbrev pub tree_figures : Data → Option MachineFigures
tree_figures tree = sheet_figures (sheet_of tree)

abbrev pub figures_in : Option Data → Option MachineFigures
figures_in None = None
figures_in (Some tree) = if is_written tree then tree_figures tree else None

-- of a file of any version: one of version 1 or 2 says rates
unfoldable pub any_figures : List ℕ → Option MachineFigures
any_figures bytes = figures_in (tree_of bytes)
