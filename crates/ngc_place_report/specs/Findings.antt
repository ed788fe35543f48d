-- What is reported of the shifts of an origin along one axis. Our own.
use Rattle.std.specs.Prelude.{◌≡◌, ◌⊎◌, ℕ, pos, [], ◌∷◌, Bool, true, false, Option, Some}
use Rattle.std.specs.Prelude.{None}
use Rattle.ngc_fixed_length.specs.declared.modes.System.{System}
use Rattle.ngc_job.specs.Job.{JobData, commands_in}
use Rattle.ngc_place.specs.Longest.{IsNearest}
use Rattle.ngc_place.specs.Shifts.{along}
use Rattle.ngc_place.specs.declared.axis.Axis.{Axis}
use Rattle.ngc_place.specs.declared.axis.Axis.TheVariants.{X, Y, Z}
use Rattle.ngc_place.specs.declared.interval.Interval.{Interval}
use Rattle.ngc_place.specs.declared.programs.Program.{Program as Marked}
use Rattle.ngc_machine_files.specs.MachineRanges.{takes_far}
use Rattle.ngc_shifted_program.specs.Origins.{origin_in}
use Rattle.ngc_shifted_program.specs.Executions.{Execution}
use Rattle.ngc_shifted_program.specs.Shifted.{MoveAt}
use Rattle.ngc_place_report.specs.Range.{coordinate, part_in_range}
use Rattle.ngc_place_report.specs.Staying.{staying_of}
use Rattle.ngc_place_report.specs.declared.placement.AlongAxis.{AlongAxis}
use Rattle.ngc_place_report.specs.declared.placement.Finding.{Finding}
use Rattle.ngc_place_report.specs.declared.placement.Finding.TheVariants.{Unmoved, Nowhere, Fits}
use Rattle.ngc_place_report.specs.declared.placement.Here.{Here}
use Rattle.ngc_place_report.specs.declared.placement.Placement.{Placement}

-- commands with marks at both settings, which are those of a job
pub record AreMarked (j : JobData) (off on : Marked) : Type 0 where
  pub at_off : off.commands.now ≡ commands_in false j
  pub at_on : on.commands.now ≡ commands_in true j

-- the interval that is found along an axis, as far as the origin stays in its range, or none
abbrev pub IsIntervalAlong : JobData → System → Axis → ℕ → Marked → Marked → Option Interval →
    Type 0
IsIntervalAlong j system axis most off on found =
    (whole : Option Interval) × IsNearest j.machine most axis (off ∷ on ∷ []) whole
    × (found ≡ part_in_range (takes_far j.machine (origin_in j.machine system)) j.machine.step
    (coordinate axis (origin_in j.machine system)) whole)

-- the commands move at both ends of an interval as their marks state, or not
abbrev pub MoveAtEnds : Execution → JobData → System → Axis → Marked → Marked → Interval → Bool →
    Type 0
MoveAtEnds does j system axis off on i true =
    MoveAt does j system off on (along axis i.from)
    × MoveAt does j system off on (along axis i.to)
MoveAtEnds does j system axis off on i false =
    MoveAt does j system off on (along axis i.from) →
    MoveAt does j system off on (along axis i.to) → ⊥

-- An interval is reported only if they do.
abbrev pub IsFinding : Execution → JobData → System → Axis → ℕ → Marked → Marked → Finding → Type 0
IsFinding does j system axis most off on Nowhere =
    IsIntervalAlong j system axis most off on None
IsFinding does j system axis most off on (Fits i) =
    IsIntervalAlong j system axis most off on (Some i)
    × MoveAtEnds does j system axis off on i true
IsFinding does j system axis most off on Unmoved =
    (i : Interval) × IsIntervalAlong j system axis most off on (Some i)
    × MoveAtEnds does j system axis off on i false

-- where the origin is one step further along the axis, the commands move as their marks state
pub record IsMarkedAlong (does : Execution) (j : JobData) (system : System) (axis : Axis)
    (most : ℕ) (a : AlongAxis) : Type 0 where
  pub off : Marked
  pub on : Marked
  pub marked : AreMarked j off on
  pub move : MoveAt does j system off on (along axis (pos 1))
  pub finding : IsFinding does j system axis most off on a.finding
  pub staying : a.staying ≡ staying_of off

abbrev pub unmarked : AlongAxis
unmarked = record { finding = Unmoved; staying = None }

-- no marks explain the commands there
pub record IsUnmarked (does : Execution) (j : JobData) (system : System) (axis : Axis)
    (a : AlongAxis) : Type 0 where
  pub known : a ≡ unmarked
  pub moves : (off on : Marked) → AreMarked j off on →
      MoveAt does j system off on (along axis (pos 1)) → ⊥

abbrev pub IsAlongAxis : Execution → JobData → System → Axis → ℕ → AlongAxis → Type 0
IsAlongAxis does j system axis most a =
    IsMarkedAlong does j system axis most a ⊎ IsUnmarked does j system axis a

-- what is known of the shifts along each axis
pub record IsPlacement (does : Execution) (j : JobData) (system : System) (here : Here)
    (most : ℕ) (p : Placement) : Type 0 where
  pub is_here : p.here ≡ here
  pub x : IsAlongAxis does j system X most p.x
  pub y : IsAlongAxis does j system Y most p.y
  pub z : IsAlongAxis does j system Z most p.z
