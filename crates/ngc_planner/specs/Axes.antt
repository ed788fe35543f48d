-- The axes that a motion may move, and a rate that all of them allow. Our own.
use Rattle.std.specs.Prelude.{ℕ, ◌≤◌, min, ℤ, Bool, true, nat_lt, IsTrue, if◌then◌else◌}
use Rattle.ngc_fixed_length.specs.Grid.{grid, distance}
use Rattle.ngc_fixed_length.specs.declared.modes.Plane.{Plane}
use Rattle.ngc_fixed_length.specs.declared.modes.Plane.TheVariants.{XY, ZX, YZ}
use Rattle.ngc_fixed_length.specs.declared.points.StepPos.{StepPos}
use Rattle.ngc_machine_files.specs.declared.machine.AxisRates.{AxisRates}
use Rattle.ngc_commands.specs.declared.movement.Way.{Way}
use Rattle.ngc_commands.specs.declared.movement.Way.TheVariants.{Line, Arc}
use Rattle.ngc_planner.specs.declared.axes.Axes.{Axes}
use Rattle.ngc_fixed_length.specs.Limits.{MILLION}

-- the axes on which two grid points differ
abbrev pub differing : StepPos → StepPos → Axes
differing p q =
    record {
      x = nat_lt 0 (distance p.x q.x);
      y = nat_lt 0 (distance p.y q.y);
      z = nat_lt 0 (distance p.z q.z);
    }

-- and the two of a plane
abbrev pub with_plane : Plane → Axes → Axes
with_plane XY axes = record { x = true; y = true; z = axes.z }
with_plane ZX axes = record { x = true; y = axes.y; z = true }
with_plane YZ axes = record { x = axes.x; y = true; z = true }

-- a line moves the axes on which the grid points of its ends differ, an arc also those of its plane
abbrev pub axes_of : ℤ → Way → Axes
axes_of step (Line b e) = differing (grid step b) (grid step e)
axes_of step (Arc a) = with_plane a.plane (differing (grid step a.start) (grid step a.end))

-- a rate that each axis that may move allows
pub record IsWithinAxes (rates : AxisRates) (axes : Axes) (v : ℕ) : Type 0 where
  pub x : IsTrue axes.x → v ≤ rates.x
  pub y : IsTrue axes.y → v ≤ rates.y
  pub z : IsTrue axes.z → v ≤ rates.z

-- the greatest of these rates, up to a million
abbrev pub rate_where : Bool → ℕ → ℕ
rate_where moves rate = if moves then rate else MILLION

abbrev pub least_rate : AxisRates → Axes → ℕ
least_rate rates axes =
    min (rate_where axes.x rates.x) (min (rate_where axes.y rates.y) (rate_where axes.z rates.z))
