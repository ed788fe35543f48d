-- The margins between a box of grid points and the travel limits. Our own.
use Rattle.std.specs.Prelude.{ℤ, pos, ◌-ℤ◌, ◌*ℤ◌, int_le, Bool, ◌&&◌, ◌≡◌}
use Rattle.ngc_fixed_length.specs.declared.points.GridBox.{GridBox}
use Rattle.ngc_machine_files.specs.Machine.{MachineFile}
use Rattle.ngc_collision.specs.Body.{is_in_travel}
use Rattle.ngc_findings.specs.declared.travel.AxisSpace.{AxisSpace}
use Rattle.ngc_findings.specs.declared.travel.Room.{Room}

-- the margins along an axis, in nanometres: from the least coordinate of the travel to the lowest
-- point, and from the highest point to the greatest coordinate
abbrev pub axis_space : ℤ → ℤ → ℤ → ℤ → ℤ → AxisSpace
axis_space step low high least greatest =
    record { below = (low *ℤ step) -ℤ least; above = greatest -ℤ (high *ℤ step) }

abbrev pub room : MachineFile → GridBox → Room
room m b = record {
  x = axis_space m.step b.low.x b.high.x m.low.x m.high.x;
  y = axis_space m.step b.low.y b.high.y m.low.y m.high.y;
  z = axis_space m.step b.low.z b.high.z m.low.z m.high.z;
}

-- neither margin is negative
abbrev pub is_inside_on : AxisSpace → Bool
is_inside_on r = int_le (pos 0) r.below && int_le (pos 0) r.above

abbrev pub is_inside : Room → Bool
is_inside r = is_inside_on r.x && (is_inside_on r.y && is_inside_on r.z)

-- a box lies within the travel exactly if no margin is negative
abbrev pub SpaceIsReported : Type 0
SpaceIsReported =
    (machine : MachineFile) (b : GridBox) → is_inside (room machine b) ≡ is_in_travel machine b
