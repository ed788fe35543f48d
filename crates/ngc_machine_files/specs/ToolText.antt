-- The meaning of a tool table. Our own.
use Rattle.std.specs.Prelude.{ℕ, ◌≤◌, nat_le, ℤ, pos, negsuc, ◌-ℤ◌, unsigned_abs, List, [], ◌∷◌}
use Rattle.std.specs.Prelude.{length, map, Option, Some, None, Result, Ok, Err, Bool, ◌&&◌, ◌||◌}
use Rattle.std.specs.Prelude.{codes, if◌then◌else◌, is_some}
use Rattle.std.specs.List.{All, list_all}
use Rattle.std.specs.Ordering.{int_eq}
use Rattle.toml.specs.Data.{Data, get}
use Rattle.ngc_fixed_length.specs.Signed.{is_within}
use Rattle.ngc_machine_files.specs.declared.parts.Part.{Part}
use Rattle.ngc_machine_files.specs.declared.tools.Tool.{Tool}
use Rattle.ngc_machine_files.specs.declared.tool_contents.PartEntry.{PartEntry}
use Rattle.ngc_machine_files.specs.declared.tool_contents.ToolEntry.{ToolEntry}
use Rattle.ngc_machine_files.specs.declared.tool_contents.ToolContents.{ToolContents}
use Rattle.ngc_machine_files.specs.declared.fault.FileFault.{FileFault}
use Rattle.ngc_machine_files.specs.declared.fault.FileFault.TheVariants.{Version, Tools, Document}
use Rattle.ngc_machine_files.specs.Names.{name_from}
use Rattle.ngc_machine_files.specs.Numbers.{from_to, all_different, AreDifferent}
use Rattle.ngc_machine_files.specs.Ranges.{IsFrom}
use Rattle.ngc_machine_files.specs.Refusals.{◌>>◌, refuse_unless}
use Rattle.ngc_machine_files.specs.Tree.{◌>>=◌, tree_of, known, whole_at, list_of, list_at, name_at}

-- ---- the values of the keys

pub record ToolNumbers : Type 0 where
  pub number : ℤ
  pub offset : ℤ
  pub bottom : ℤ
  pub parts : List PartEntry
  pub name : Option (List ℕ)

pub record TableValues : Type 0 where
  pub version : ℤ
  pub tools : List ToolNumbers

abbrev pub numbers_of : ToolEntry → ToolNumbers
numbers_of t =
    record {
      number = t.number;
      offset = t.offset;
      bottom = t.bottom;
      parts = t.parts.items;
      name = t.name;
    }

abbrev pub values_of : ToolContents → TableValues
values_of c = record { version = c.version; tools = map numbers_of c.tools.items }

-- version 1: one part, which ends at the spindle nose
abbrev pub tool_of_length : Data → Option ToolNumbers
tool_of_length value = do
  tree ← known (codes "number" ∷ codes "length" ∷ codes "radius" ∷ codes "offset" ∷ []) value
  number ← whole_at (codes "number") tree
  l ← whole_at (codes "length") tree
  radius ← whole_at (codes "radius") tree
  offset ← whole_at (codes "offset") tree
  Some (record {
    number = number;
    offset = offset;
    bottom = pos 0 -ℤ l;
    parts = record { length = l; radius = radius } ∷ [];
    name = Some [];
  })

abbrev pub part_entry : Data → Option PartEntry
part_entry value = do
  tree ← known (codes "length" ∷ codes "radius" ∷ []) value
  l ← whole_at (codes "length") tree
  radius ← whole_at (codes "radius") tree
  Some (record { length = l; radius = radius })

-- version 2: parts from the bottom up, and optionally a name
abbrev pub tool_of_parts : Data → Option ToolNumbers
tool_of_parts value = do
  tree ← known (codes "number" ∷ codes "offset" ∷ codes "bottom" ∷ codes "parts" ∷ codes "name" ∷ [])
      value
  number ← whole_at (codes "number") tree
  offset ← whole_at (codes "offset") tree
  bottom ← whole_at (codes "bottom") tree
  parts ← get (codes "parts") tree >>= list_of part_entry
  name ← name_at tree
  Some (record { number = number; offset = offset; bottom = bottom; parts = parts; name = name })

-- an unknown version has the keys of version 1
abbrev pub tool_numbers : ℤ → Data → Option ToolNumbers
tool_numbers version value =
    if int_eq version (pos 2) then tool_of_parts value else tool_of_length value

abbrev pub table_values : Data → Option TableValues
table_values root = do
  tree ← known (codes "version" ∷ codes "tool" ∷ []) root
  version ← whole_at (codes "version") tree
  tools ← list_at (tool_numbers version) (codes "tool") tree
  Some (record { version = version; tools = tools })

-- ---- ranges

abbrev pub good_part : PartEntry → Bool
good_part p = from_to (pos 0) (pos 1000000000) p.length && from_to (pos 0) (pos 1000000000) p.radius

abbrev pub good_parts : List PartEntry → Bool
good_parts parts = nat_le 1 (length parts) && nat_le (length parts) 4 && list_all good_part parts

abbrev pub good_numbers : ToolNumbers → Bool
good_numbers t =
    from_to (pos 1) (pos 9999) t.number && is_within 1000000000 t.offset &&
    from_to (negsuc 999999999) (pos 0) t.bottom

abbrev pub good_tool : ToolNumbers → Bool
good_tool t = good_numbers t && good_parts t.parts && is_some t.name

abbrev pub tool_number : ToolNumbers → ℕ
tool_number t = unsigned_abs t.number

abbrev pub good_tools : List ToolNumbers → Bool
good_tools tools =
    nat_le (length tools) 1000 && list_all good_tool tools && all_different (map tool_number tools)

-- the first refusal
abbrev pub table_ranges : TableValues → Result (Unit {0}) FileFault
table_ranges t =
    refuse_unless (int_eq t.version (pos 1) || int_eq t.version (pos 2)) Version >>
    refuse_unless (good_tools t.tools) Tools

-- ---- the tools of a file

abbrev pub part_of : PartEntry → Part
part_of p = record { length = p.length; radius = p.radius }

abbrev pub tool_of : ToolNumbers → Tool
tool_of t = record {
  number = unsigned_abs t.number;
  offset = t.offset;
  bottom = t.bottom;
  parts = map part_of t.parts;
  name = name_from t.name;
}

-- the same checks, as facts
pub record IsPartEntry (p : PartEntry) : Type 0 where
  pub length : IsFrom (pos 0) (pos 1000000000) p.length
  pub radius : IsFrom (pos 0) (pos 1000000000) p.radius

pub record ArePartEntries (parts : List PartEntry) : Type 0 where
  pub least : 1 ≤ length parts
  pub greatest : length parts ≤ 4
  pub each : All IsPartEntry parts

pub record IsEntry (t : ToolNumbers) : Type 0 where
  pub number : IsFrom (pos 1) (pos 9999) t.number
  pub offset : unsigned_abs t.offset ≤ 1000000000
  pub bottom : IsFrom (negsuc 999999999) (pos 0) t.bottom
  pub parts : ArePartEntries t.parts

pub record AreEntries (tools : List ToolNumbers) : Type 0 where
  pub count : length tools ≤ 1000
  pub each : All IsEntry tools
  pub different : AreDifferent (map tool_number tools)

abbrev pub checked_table : Option TableValues → Result (List Tool) FileFault
checked_table None = Err Document
checked_table (Some t) = table_ranges t >> Ok (map tool_of t.tools)

abbrev pub values_in : List ℕ → Option TableValues
values_in bytes = tree_of bytes >>= table_values

-- the tools that the bytes describe, or why they are refused
abbrev pub tool_table : List ℕ → Result (List Tool) FileFault
tool_table bytes = checked_table (values_in bytes)
