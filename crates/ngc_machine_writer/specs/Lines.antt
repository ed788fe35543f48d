-- The lines of a machine file of version 3: a key and a text with its unit. Our own.
use Rattle.std.specs.Prelude.{ℕ, ℤ, pos, neg_ℤ, List, [], ◌++◌, codes, decimal, Option, Some, None}
use Rattle.ngc_text.specs.Millimetres.{size_text, length_text}
use Rattle.ngc_machine_maker.specs.declared.figures.Acceleration.{Acceleration}
use Rattle.ngc_machine_maker.specs.declared.figures.End.{End}
use Rattle.ngc_machine_maker.specs.declared.figures.End.TheVariants as ends
use Rattle.ngc_machine_maker.specs.declared.figures.Length.{Length}
use Rattle.ngc_machine_maker.specs.declared.figures.PerAxis.{PerAxis}
use Rattle.ngc_machine_maker.specs.declared.figures.Speed.{Speed}

-- a number in millionths, and its unit, as: speed = "8000 mm/min"
unfoldable pub quantity_line : List ℕ → ℕ → List ℕ → List ℕ
quantity_line key millionths unit =
    key ++ codes " = \"" ++ size_text millionths ++ codes " " ++ unit ++ codes "\"\n"

abbrev pub speed_line : List ℕ → Speed → List ℕ
speed_line key speed = quantity_line key speed.nanometres_a_minute (codes "mm/min")

abbrev pub acceleration_line : List ℕ → Acceleration → List ℕ
acceleration_line key a = quantity_line key a.nanometres_a_second_squared (codes "mm/s2")

abbrev pub number_line : List ℕ → ℕ → List ℕ
number_line key number = key ++ codes " = " ++ decimal number ++ codes "\n"

-- ---- places

-- a distance from zero, into the travel, as a coordinate
abbrev pub coordinate : End → Length → ℤ
coordinate ends.Low distance = pos distance.nanometres
coordinate ends.High distance = neg_ℤ (pos distance.nanometres)

abbrev pub coordinates : PerAxis End → PerAxis Length → PerAxis ℤ
coordinates zero place = record {
  x = coordinate zero.x place.x;
  y = coordinate zero.y place.y;
  z = coordinate zero.z place.z;
}

-- as: start = "0, 0, -5 mm"
unfoldable pub place_line : List ℕ → PerAxis ℤ → List ℕ
place_line key place =
    key ++ codes " = \"" ++ length_text place.x ++ codes ", " ++ length_text place.y
    ++ codes ", " ++ length_text place.z ++ codes " mm\"\n"

abbrev pub some_place_line : List ℕ → Option (PerAxis ℤ) → List ℕ
some_place_line key None = []
some_place_line key (Some place) = place_line key place
