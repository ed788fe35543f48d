-- Bodies of tools, fixtures, and safe positions. Our own.
use Rattle.std.specs.Prelude.{ℕ, ◌+◌, ℤ, ◌+ℤ◌, ◌-ℤ◌, ◌*ℤ◌, int_le, List, [], ◌∷◌, Option, Some}
use Rattle.std.specs.Prelude.{None, Bool, IsTrue, ◌&&◌, ◌||◌, if◌then◌else◌}
use Rattle.std.specs.List.{list_all}
use Rattle.ngc_fixed_length.specs.Boxes.{only}
use Rattle.ngc_fixed_length.specs.declared.points.GridBox.{GridBox}
use Rattle.ngc_fixed_length.specs.declared.points.Point3.{Point3}
use Rattle.ngc_fixed_length.specs.declared.points.StepPos.{StepPos}
use Rattle.ngc_machine_files.specs.Machine.{MachineFile}
use Rattle.ngc_machine_files.specs.declared.machine.Fixture.{Fixture}
use Rattle.ngc_machine_files.specs.declared.parts.Part.{Part}
use Rattle.ngc_machine_files.specs.declared.tools.Tool.{Tool}

-- a box in nanometres; a point is a box too
pub record Solid : Type 0 where
  pub low : Point3
  pub high : Point3

-- the box in nanometres that a box of grid points spans
abbrev pub nanometres_of : ℤ → StepPos → Point3
nanometres_of step p = record { x = p.x *ℤ step; y = p.y *ℤ step; z = p.z *ℤ step }

abbrev pub span : ℤ → GridBox → Solid
span step b = record { low = nanometres_of step b.low; high = nanometres_of step b.high }

-- the box that a part fills while the spindle nose moves over a box: the part's foot is at the
-- height foot above that point, and the box extends by the radius to each side and by the length
-- above the foot
abbrev pub filled : Part → ℤ → Solid → Solid
filled part foot b = record {
  low = record { x = b.low.x -ℤ part.radius; y = b.low.y -ℤ part.radius; z = b.low.z +ℤ foot };
  high = record {
    x = b.high.x +ℤ part.radius;
    y = b.high.y +ℤ part.radius;
    z = b.high.z +ℤ foot +ℤ part.length;
  };
}

-- each part is on top of the one before
abbrev pub stacked : ℤ → List Part → Solid → List Solid
stacked foot [] b = []
stacked foot (part ∷ parts) b = filled part foot b ∷ stacked (foot +ℤ part.length) parts b

-- the boxes of a body, one for each part of the tool; without a tool the spindle nose itself
abbrev pub bodies : Option Tool → Solid → List Solid
bodies None b = b ∷ []
bodies (Some tool) b = stacked tool.bottom tool.parts b

-- the box and the fixture are apart along some axis; they may touch
abbrev pub are_apart : Fixture → Solid → Bool
are_apart f b =
    int_le b.high.x f.low.x || (int_le f.high.x b.low.x ||
    (int_le b.high.y f.low.y || (int_le f.high.y b.low.y ||
    (int_le b.high.z f.low.z || int_le f.high.z b.low.z))))

-- the bodies over a box of positions clear a fixture
abbrev pub clears : ℤ → Option Tool → GridBox → Fixture → Bool
clears step tool b f = list_all (are_apart f) (bodies tool (span step b))

-- the lowest number of a fixture, counted from i, that the bodies meet
abbrev pub first_met_from : ℕ → ℤ → Option Tool → GridBox → List Fixture → Option ℕ
first_met_from i step tool b [] = None
first_met_from i step tool b (f ∷ fs) =
    if clears step tool b f then first_met_from (i + 1) step tool b fs else Some i

abbrev pub first_met : MachineFile → Option Tool → GridBox → Option ℕ
first_met machine tool b = first_met_from 0 machine.step tool b machine.fixtures

-- on each axis p is at most q
abbrev pub is_below : Point3 → Point3 → Bool
is_below p q = int_le p.x q.x && (int_le p.y q.y && int_le p.z q.z)

-- a box of positions is within the travel limits
abbrev pub is_in_travel : MachineFile → GridBox → Bool
is_in_travel machine b =
    is_below machine.low (nanometres_of machine.step b.low)
    && is_below (nanometres_of machine.step b.high) machine.high

-- the tool's body at p clears every fixture
abbrev pub IsClearAt : MachineFile → Option Tool → StepPos → Type 0
IsClearAt machine tool p = IsTrue (list_all (clears machine.step tool (only p)) machine.fixtures)

-- p is within the travel limits, and the tool's body there clears every fixture
pub record IsSafe (machine : MachineFile) (tool : Option Tool) (p : StepPos) : Type 0 where
  pub inside : IsTrue (is_in_travel machine (only p))
  pub clear : IsClearAt machine tool p
