-- A machine with the boxes of a call. Our own.
use Rattle.std.specs.Prelude.{ℕ, zero, suc, ◌+◌, nat_le, unsigned_abs, Bool, ◌&&◌, List, ◌++◌}
use Rattle.std.specs.Prelude.{length, map, Option, Some, None, Result, Ok, slice_index_or}
use Rattle.std.specs.List.{list_all}
use Rattle.ngc_fixed_length.specs.Places.{plus, zero_point}
use Rattle.ngc_fixed_length.specs.declared.points.Point3.{Point3}
use Rattle.ngc_machine_files.specs.Machine.{MachineFile}
use Rattle.ngc_machine_files.specs.Ranges.{CORNER_LIMIT}
use Rattle.ngc_machine_files.specs.Refusals.{◌>>◌, refuse_unless}
use Rattle.ngc_machine_files.specs.declared.fault.FileFault.{FileFault}
use Rattle.ngc_machine_files.specs.declared.fault.FileFault.TheVariants.{Fixtures}
use Rattle.ngc_machine_files.specs.declared.machine.Fixture.{Fixture}
use Rattle.ngc_machine_files.specs.declared.machine.StockBox.{StockBox}
use Rattle.ngc_added_boxes.specs.Boxes.{AddedBoxes}
use Rattle.ngc_added_boxes.specs.declared.boxes.AddedFixture.{AddedFixture}

-- the origin of a coordinate system, 1 to 9; that of the machine's own, 0, is zero
abbrev pub origin_of : List Point3 → ℕ → Point3
origin_of origins zero = zero_point
origin_of origins (suc system) = slice_index_or origins system zero_point

-- an added fixture in machine coordinates: the system's origin is added to both corners
abbrev pub in_machine : List Point3 → AddedFixture → Fixture
in_machine origins f = record {
  low = plus f.place.low (origin_of origins f.place.system);
  high = plus f.place.high (origin_of origins f.place.system);
  name = f.name;
  system = f.place.system;
}

abbrev pub stock_or : Option StockBox → Option StockBox → Option StockBox
stock_or None own = own
stock_or (Some stock) own = Some stock

-- the machine with more fixtures, and with the call's material in place of its own
abbrev pub with_boxes : AddedBoxes → MachineFile → MachineFile
with_boxes b m = record m {
  fixtures = m.fixtures ++ map (in_machine m.origins) b.fixtures;
  stock = stock_or b.stock m.stock;
}

abbrev pub is_sized : Point3 → Bool
is_sized p =
    nat_le (unsigned_abs p.x) CORNER_LIMIT && (nat_le (unsigned_abs p.y) CORNER_LIMIT
    && nat_le (unsigned_abs p.z) CORNER_LIMIT)

abbrev pub fits : Fixture → Bool
fits f = is_sized f.low && is_sized f.high

-- there are at most 256 fixtures, and each added one is in the range of a machine file's
abbrev pub all_fit : AddedBoxes → MachineFile → Bool
all_fit b m = nat_le (length m.fixtures + length b.fixtures) 256
    && list_all fits (map (in_machine m.origins) b.fixtures)

-- the machine with these boxes, unless they are too many or too far away
abbrev pub boxed : AddedBoxes → MachineFile → Result MachineFile FileFault
boxed b m = refuse_unless (all_fit b m) Fixtures >> Ok (with_boxes b m)
