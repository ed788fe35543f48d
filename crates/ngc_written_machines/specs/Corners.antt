-- Places and boxes as the contents of a machine file have them. Our own.
use Rattle.std.specs.Prelude.{ℕ, ℤ, pos, ◌-ℤ◌, int_rem, List, [], Option, Some, None}
use Rattle.std.specs.Int.{int_min, int_max}
use Rattle.ngc_quantities.specs.declared.range.Place.{Place}
use Rattle.ngc_machine_figures.specs.declared.sheet.BoxSheet.{BoxSheet}
use Rattle.ngc_machine_figures.specs.declared.sheet.FixtureSheet.{FixtureSheet}
use Rattle.ngc_machine_figures.specs.declared.sheet.StockSheet.{StockSheet}
use Rattle.ngc_machine_figures.specs.declared.sheet.System.{System}
use Rattle.ngc_machine_files.specs.declared.machine_contents.Coordinates.{Coordinates}
use Rattle.ngc_machine_files.specs.declared.machine_contents.Corners.{Corners}
use Rattle.ngc_machine_files.specs.declared.machine_contents.StockNumbers.{StockNumbers}

abbrev pub coordinates : Place → Coordinates
coordinates p = record { x = p.x; y = p.y; z = p.z }

-- the multiple of a step that is nearest to a coordinate towards zero
abbrev pub on_grid : ℕ → ℤ → ℤ
on_grid step c = c -ℤ int_rem c (pos step)

abbrev pub place_on_grid : ℕ → Place → Coordinates
place_on_grid step p = record { x = on_grid step p.x; y = on_grid step p.y; z = on_grid step p.z }

-- the corner with the least coordinates
abbrev pub low_of : BoxSheet → Coordinates
low_of b = record {
  x = int_min b.from.x b.to.x;
  y = int_min b.from.y b.to.y;
  z = int_min b.from.z b.to.z;
}

-- the corner with the greatest coordinates
abbrev pub high_of : BoxSheet → Coordinates
high_of b = record {
  x = int_max b.from.x b.to.x;
  y = int_max b.from.y b.to.y;
  z = int_max b.from.z b.to.z;
}

-- no characters without a name
abbrev pub name_of : Option (List ℕ) → List ℕ
name_of None = []
name_of (Some name) = name

-- 0 is the machine's own system
abbrev pub system_number : Option System → ℕ
system_number None = 0
system_number (Some system) = system.number

-- a fixture keeps the system from which its corners were counted
abbrev pub fixture : FixtureSheet → Corners
fixture f = record {
  low = low_of f.corners;
  high = high_of f.corners;
  name = Some (name_of f.name);
  system = system_number f.system;
}

abbrev pub block : StockSheet → StockNumbers
block s = record {
  system = pos (system_number s.system);
  low = low_of s.corners;
  high = high_of s.corners;
}

abbrev pub stock : Option StockSheet → Option StockNumbers
stock None = None
stock (Some s) = Some (block s)
