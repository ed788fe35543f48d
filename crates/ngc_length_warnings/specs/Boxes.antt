-- The boxes of a machine that count from the origin of a coordinate system. Our own.
use Rattle.std.specs.Prelude.{ℕ, ◌+◌, ◌==◌, List, [], ◌∷◌, count_by, Option, Some, None, Bool, false, if◌then◌else◌}
use Rattle.std.specs.List.{list_any}
use Rattle.ngc_fixed_length.specs.declared.modes.System.{System}
use Rattle.ngc_offsets.specs.Frames.{index}
use Rattle.ngc_machine_files.specs.Machine.{MachineFile}
use Rattle.ngc_machine_files.specs.declared.machine.Fixture.{Fixture}
use Rattle.ngc_machine_files.specs.declared.machine.StockBox.{StockBox}
use Rattle.ngc_length_warnings.specs.declared.cut.Boxes.{Boxes}
use Rattle.ngc_length_warnings.specs.declared.cut.Boxes.TheVariants.{Fixtures, Block}
use Rattle.ngc_length_warnings.specs.declared.cut.FirstFixture.{FirstFixture}

-- the number of a coordinate system in a machine file: 1 is G54, .., 9 is G59.3; 0 is the machine's own
abbrev pub system_number : System → ℕ
system_number system = index system + 1

abbrev pub counts_from : System → Fixture → Bool
counts_from system f = f.system == system_number system

abbrev pub block_counts : System → Option StockBox → Bool
block_counts system None = false
block_counts system (Some b) = b.system == system_number system

-- some box of the kind counts from a system
abbrev pub count_from : Boxes → MachineFile → System → Bool
count_from Fixtures m system = list_any (counts_from system) m.fixtures
count_from Block m system = block_counts system m.stock

-- the first fixture that counts from a system; the first of these fixtures has the number i
abbrev pub first_from : System → ℕ → List Fixture → Option FirstFixture
first_from system i [] = None
first_from system i (f ∷ fs) =
    if counts_from system f
    then Some (record { number = i; name = f.name; more = count_by (counts_from system) fs })
    else first_from system (i + 1) fs
