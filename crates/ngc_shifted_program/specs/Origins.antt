-- A machine with the origin of one coordinate system shifted. Our own.
use Rattle.std.specs.Prelude.{ℕ, ℤ, ◌+ℤ◌, ◌*ℤ◌, nat_le, unsigned_abs, Option, Some, None}
use Rattle.std.specs.Prelude.{slice_set, slice_index_or, Bool, if◌then◌else◌}
use Rattle.ngc_fixed_length.specs.Places.{zero_point}
use Rattle.ngc_fixed_length.specs.declared.modes.System.{System}
use Rattle.ngc_fixed_length.specs.declared.points.Point3.{Point3}
use Rattle.ngc_fixed_length.specs.declared.points.StepPos.{StepPos}
use Rattle.ngc_machine_files.specs.Machine.{MachineFile}
use Rattle.ngc_machine_files.specs.MachineRanges.{takes_far}
use Rattle.ngc_machine_files.specs.Ranges.{place_limit}
use Rattle.ngc_offsets.specs.Frames.{index}

abbrev pub origin_in : MachineFile → System → Point3
origin_in machine system = slice_index_or machine.origins (index system) zero_point

-- a coordinate, if it is in the range of an origin
unfoldable pub in_range : Bool → ℤ → Option ℤ
in_range far z = if nat_le (unsigned_abs z) (place_limit far) then Some z else None

-- a coordinate plus this number of steps
abbrev pub coordinate_moved : Bool → ℤ → ℤ → ℤ → Option ℤ
coordinate_moved far step n z = in_range far (z +ℤ n *ℤ step)

abbrev pub point_of : Option ℤ → Option ℤ → Option ℤ → Option Point3
point_of (Some x) (Some y) (Some z) = Some (record { x = x; y = y; z = z })
point_of (Some x) (Some y) None = None
point_of (Some x) None z = None
point_of None y z = None

abbrev pub origin_moved : Bool → ℤ → StepPos → Point3 → Option Point3
origin_moved far step n p = point_of (coordinate_moved far step n.x p.x)
    (coordinate_moved far step n.y p.y) (coordinate_moved far step n.z p.z)

-- the machine with another origin of a system
abbrev pub with_origin : MachineFile → System → Point3 → MachineFile
with_origin machine system p =
    record machine { origins = slice_set machine.origins (index system) p }

abbrev pub with_origin_at : MachineFile → System → Option Point3 → Option MachineFile
with_origin_at machine system None = None
with_origin_at machine system (Some p) = Some (with_origin machine system p)

-- the machine with the origin of a system shifted, if that origin is in range
abbrev pub machine_shifted : MachineFile → System → StepPos → Option MachineFile
machine_shifted machine system n =
    with_origin_at machine system
    (origin_moved (takes_far machine (origin_in machine system)) machine.step n
    (origin_in machine system))
