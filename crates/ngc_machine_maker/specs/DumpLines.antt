-- The lines of a machine file on what the dump of a controller with Grbl has besides figures.
use Rattle.std.specs.Prelude.{ℕ, ◌+◌, ◌&&◌, Bool, true, ℤ, pos, List, [], ◌++◌, codes}
use Rattle.std.specs.Prelude.{decimal, Option, Some, None, if◌then◌else◌}
use Rattle.std.specs.Ordering.{int_eq}
use Rattle.ngc_machine_maker.specs.declared.figures.Length.{Length}
use Rattle.ngc_machine_maker.specs.declared.figures.PerAxis.{PerAxis}
use Rattle.ngc_machine_maker.specs.declared.figures.StoredPlaces.{StoredPlaces}
use Rattle.ngc_machine_maker.specs.declared.figures.Supplied.{Supplied}
use Rattle.ngc_machine_maker.specs.declared.line.Remark.{Remark}
use Rattle.ngc_machine_maker.specs.declared.line.Remark.TheVariants as remarks
use Rattle.ngc_machine_maker.specs.declared.line.Value.{Value}
use Rattle.ngc_machine_maker.specs.declared.line.Value.TheVariants as values
use Rattle.ngc_machine_maker.specs.Texts.{value_text, remark_text}

-- ---- settings that the dump doesn't have

unfoldable pub default_line : ℕ → List ℕ → List ℕ
default_line number value = codes "# $" ++ decimal number ++ codes " isn't in the settings: "
    ++ value ++ codes ", as GRBL has it.\n"

abbrev pub default_lines : Bool → ℕ → List ℕ → List ℕ
default_lines missing number value = if missing then default_line number value else []

-- of X, Y and Z
unfoldable pub axis_defaults : PerAxis Bool → ℕ → List ℕ → List ℕ
axis_defaults missing number value = default_lines missing.x number value
    ++ default_lines missing.y (number + 1) value ++ default_lines missing.z (number + 2) value

unfoldable pub supplied_lines : Supplied → List ℕ
supplied_lines s = default_lines s.unit 13 (codes "0, places are in mm")
    ++ default_lines s.ends 23 (codes "0")
    ++ default_lines s.pull_off 27 (codes "1 mm")
    ++ axis_defaults s.feed 110 (codes "500 mm/min")
    ++ axis_defaults s.acceleration 120 (codes "10 mm/s^2")

-- ---- places

abbrev pub is_zero : Option (PerAxis ℤ) → Bool
is_zero None = true
is_zero (Some p) = int_eq p.x (pos 0) && (int_eq p.y (pos 0) && int_eq p.z (pos 0))

-- an offset of G92 was in force: programs start without it
unfoldable pub offset_text : List ℕ
offset_text =
    codes "[G92:..] isn't zero: this offset was in force, and here programs start without it: clear it with G92.1\n"

-- after the first word of a remark or a note
unfoldable pub offset_after : List ℕ → StoredPlaces → List ℕ
offset_after before places = if is_zero places.g92 then [] else before ++ offset_text

abbrev pub or_zero : Option (PerAxis ℤ) → PerAxis ℤ
or_zero None = record { x = pos 0; y = pos 0; z = pos 0 }
or_zero (Some place) = place

unfoldable pub origin_text : List ℕ → Value → Remark → List ℕ
origin_text name value remark = codes "    " ++ value_text value
    ++ (codes ", # " ++ name ++ codes ": ") ++ remark_text remark ++ codes "\n"

abbrev pub origin_line : List ℕ → PerAxis ℤ → List ℕ
origin_line name place = origin_text name (values.Place place) (remarks.Place place)

-- the key `origins`: GRBL has G54 to G59, and a machine file also G59.1 to G59.3
unfoldable pub all_origins : StoredPlaces → List ℕ
all_origins p = codes "origins = [\n" ++ origin_line (codes "G54") (or_zero p.g54)
    ++ origin_line (codes "G55") (or_zero p.g55) ++ origin_line (codes "G56") (or_zero p.g56)
    ++ origin_line (codes "G57") (or_zero p.g57) ++ origin_line (codes "G58") (or_zero p.g58)
    ++ origin_line (codes "G59") (or_zero p.g59) ++ codes "    [0, 0, 0], [0, 0, 0], [0, 0, 0],\n]\n"

abbrev pub are_zero : StoredPlaces → Bool
are_zero p = is_zero p.g54 && (is_zero p.g55 && (is_zero p.g56
    && (is_zero p.g57 && (is_zero p.g58 && is_zero p.g59))))

-- if one isn't zero
abbrev pub origin_lines : StoredPlaces → List ℕ
origin_lines p = if are_zero p then [] else all_origins p

-- a home position: that of an option, or that of the dump, or the start
abbrev pub home_by : PerAxis ℤ → Option (PerAxis Length) → Option (PerAxis ℤ) → PerAxis ℤ
home_by home (Some option) stored = home
home_by home None (Some place) = place
home_by home None None = home
