-- What a margin is for. Our own.
use Rattle.std.specs.Prelude.{ℤ, ◌≤ℤ◌, ◌-ℤ◌, List, Option, IsTrue, ◌&&◌}
use Rattle.std.specs.List.{list_all}
use Rattle.ngc_fixed_length.specs.Boxes.{only}
use Rattle.ngc_fixed_length.specs.declared.points.GridBox.{GridBox}
use Rattle.ngc_fixed_length.specs.declared.points.Point3.{Point3}
use Rattle.ngc_fixed_length.specs.declared.points.StepPos.{StepPos}
use Rattle.ngc_collision.specs.Body.{are_apart, bodies, clears, is_below, is_in_travel}
use Rattle.ngc_collision.specs.Body.{nanometres_of, IsClearAt}
use Rattle.ngc_machine_files.specs.Machine.{MachineFile}
use Rattle.ngc_machine_files.specs.declared.machine.Fixture.{Fixture}
use Rattle.ngc_machine_files.specs.declared.machine.Margins.{Margins}
use Rattle.ngc_machine_files.specs.declared.tools.Tool.{Tool}
use Rattle.ngc_margins.specs.Margins.{with_margins}

-- on each axis, q differs from p by at most m
pub record IsNear (m : ℤ) (p q : Point3) : Type 0 where
  pub x_low : (p.x -ℤ m) ≤ℤ q.x
  pub x_high : (q.x -ℤ m) ≤ℤ p.x
  pub y_low : (p.y -ℤ m) ≤ℤ q.y
  pub y_high : (q.y -ℤ m) ≤ℤ p.y
  pub z_low : (p.z -ℤ m) ≤ℤ q.z
  pub z_high : (q.z -ℤ m) ≤ℤ p.z

-- the tool's body with the spindle nose at a point in nanometres, on the grid or not, clears every
-- fixture
abbrev pub IsClearOf : List Fixture → Option Tool → Point3 → Type 0
IsClearOf fixtures tool q =
    IsTrue (list_all (λ f. list_all (are_apart f) (bodies tool (record { low = q; high = q })))
    fixtures)

-- Let the body be clear at a grid point of the machine whose margins are kept. At each point that
-- differs from it by at most the margin on each axis, the body is clear of every fixture as it is.
abbrev pub MarginIsKept : Type 0
MarginIsKept = (machine : MachineFile) (tool : Option Tool) (p : StepPos) (q : Point3) →
    IsClearAt (with_margins machine) tool p →
    IsNear machine.margins.fixtures (nanometres_of machine.step p) q →
    IsClearOf machine.fixtures tool q

-- Let a grid point be within the travel limits of the machine whose margins are kept. Each point
-- that differs from it by at most the travel margin is within the limits as they are.
abbrev pub TravelMarginIsKept : Type 0
TravelMarginIsKept = (machine : MachineFile) (p : StepPos) (q : Point3) →
    IsTrue (is_in_travel (with_margins machine) (only p)) →
    IsNear machine.margins.travel (nanometres_of machine.step p) q →
    IsTrue (is_below machine.low q && is_below q machine.high)

-- over a box of positions the machine's travel is kept, and the body clears its fixtures: what a
-- certificate says of each of its pieces
pub record IsSafeOver (machine : MachineFile) (tool : Option Tool) (b : GridBox) : Type 0 where
  pub inside : IsTrue (is_in_travel machine b)
  pub clear : IsTrue (list_all (clears machine.step tool b) machine.fixtures)

-- neither margin is larger
pub record AreSmaller (less more : Margins) : Type 0 where
  pub fixtures : less.fixtures ≤ℤ more.fixtures
  pub travel : less.travel ≤ℤ more.travel

-- what is safe with margins is safe with smaller ones
abbrev pub SafeWithSmaller : Type 0
SafeWithSmaller = (machine : MachineFile) (less : Margins) (tool : Option Tool) (b : GridBox) →
    AreSmaller less machine.margins → IsSafeOver (with_margins machine) tool b →
    IsSafeOver (with_margins (record machine { margins = less })) tool b
