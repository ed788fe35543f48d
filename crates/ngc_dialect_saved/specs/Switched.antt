-- What earlier lines have switched, besides what the rules keep (LinuxCNC's documentation, "M7, M8, M9",
-- "M48, M49" and "G92"; that G52 counts as G92 does is from a comparison with its interpreter).
use Rattle.std.specs.Prelude.{◌==◌, ◌&&◌, ◌||◌, not, ℤ, pos, int_le, List, [], Option, Some, None, Bool, true, false}
use Rattle.std.specs.Prelude.{Result, Ok, Err, if◌then◌else◌}
use Rattle.std.specs.List.{list_any}
use Rattle.ngc_dialect_names.specs.declared.dialect.Dialect.TheVariants.{LinuxCnc}
use Rattle.ngc_dialect_parameters.specs.declared.statement.Word.{Word}
use Rattle.ngc_dialect_rules.specs.declared.code.Code.{Code}
use Rattle.ngc_dialect_rules.specs.declared.code.Code.TheVariants.{M}
use Rattle.ngc_dialect_rules.specs.declared.codes.TheConstants as codes
use Rattle.ngc_dialect_rules.specs.declared.fault.Fault.{Fault}
use Rattle.ngc_dialect_rules.specs.Bytes as bytes
use Rattle.ngc_dialect_rules.specs.Codes.{is_code}
use Rattle.ngc_dialect_rules.specs.Tables.{code_in, has}
use Rattle.ngc_dialect_rules.specs.Words.{codes_of, millionths_of, value_of}
use Rattle.ngc_dialect_saved.specs.declared.switches.Switches.{Switches}

abbrev pub start_switches : Switches
start_switches = record { speed = pos 0; mist = false; flood = false; overrides = true; offset = false }

-- only words S and M, and G from 50 up, switch something
abbrev pub may_switch : Word → Bool
may_switch w =
    (w.letter == bytes.M) || (w.letter == bytes.S)
    || ((w.letter == bytes.G) && int_le (pos 50000000000000) w.value)

abbrev pub may_any_switch : List Word → Bool
may_any_switch words = list_any may_switch words

-- M9 ends both coolants
abbrev pub mist_after : Bool → Option Code → Bool
mist_after before None = before
mist_after before (Some code) = is_code code (M 7) || (before && not (is_code code (M 9)))

abbrev pub flood_after : Bool → Option Code → Bool
flood_after before None = before
flood_after before (Some code) = is_code code (M 8) || (before && not (is_code code (M 9)))

abbrev pub overrides_after : Bool → Option Code → Bool
overrides_after before None = before
overrides_after before (Some code) = is_code code (M 48)

-- G92, G52 and G92.3 begin an offset, G92.1 and G92.2 end it
abbrev pub offset_after : Bool → List Code → Bool
offset_after before line =
    if has codes.OFFSET line || has codes.LOCAL_OFFSET line || has codes.OFFSET_RESTORED line then true
    else before && not (has codes.OFFSET_CHANGES line)

abbrev pub speed_after : ℤ → Option ℤ → ℤ
speed_after before None = before
speed_after before (Some value) = millionths_of value

abbrev pub after_codes : List Code → List Word → Switches → Switches
after_codes line words s = record {
  speed = speed_after s.speed (value_of bytes.S words);
  mist = mist_after s.mist (code_in codes.COOLANT line);
  flood = flood_after s.flood (code_in codes.COOLANT line);
  overrides = overrides_after s.overrides (code_in codes.OVERRIDES line);
  offset = offset_after s.offset line;
}

abbrev pub after_line : Result (List Code) Fault → List Word → Switches → Switches
after_line (Ok line) words s = after_codes line words s
after_line (Err e) words s = s

-- what holds after a line with these words
unfoldable pub switches_after : List Word → Switches → Switches
switches_after words s =
    if may_any_switch words then after_line (codes_of LinuxCnc words []) words s else s
