-- The values of a tool table of version 2 for measured tools. Our own.
use Rattle.std.specs.Prelude.{ℕ, ◌+◌, ◌/◌, ℤ, pos, ◌-ℤ◌, List, [], ◌∷◌, ◌++◌, map, Option, Some, None}
use Rattle.ngc_machine_files.specs.ToolText.{ToolNumbers, TableValues}
use Rattle.ngc_machine_files.specs.declared.tool_contents.PartEntry.{PartEntry}
use Rattle.ngc_written_tools.specs.declared.sheet.MeasuredTool.{MeasuredTool}
use Rattle.ngc_written_tools.specs.declared.sheet.Offset.{Offset}
use Rattle.ngc_written_tools.specs.declared.sheet.PartSheet.{PartSheet}
use Rattle.ngc_written_tools.specs.declared.sheet.Reach.{Reach}
use Rattle.ngc_written_tools.specs.declared.sheet.Size.{Size}
use Rattle.ngc_written_tools.specs.declared.sheet.ToolSheet.{ToolSheet}

-- half the diameter, rounded up to a nanometre, so that the part isn't thinner than it is
abbrev pub radius : Size → ℤ
radius diameter = pos ((diameter.nanometres + 1) / 2)

abbrev pub part_entry : PartSheet → PartEntry
part_entry p = record { length = pos p.length.nanometres; radius = radius p.diameter }

abbrev pub one_or_none : Option PartSheet → List PartEntry
one_or_none None = []
one_or_none (Some p) = part_entry p ∷ []

-- from the tip up
abbrev pub parts_of : MeasuredTool → List PartEntry
parts_of t =
    (((one_or_none (Some t.blade.cutter) ++ one_or_none t.blade.shank) ++ one_or_none t.holder.first)
    ++ one_or_none t.holder.second) ++ one_or_none t.holder.third

-- what G43 adds to Z is the length, unless the table says otherwise
abbrev pub offset_of : Option Offset → Size → ℤ
offset_of None length = pos length.nanometres
offset_of (Some offset) length = offset.nanometres

abbrev pub name_of : Option (List ℕ) → List ℕ
name_of None = []
name_of (Some name) = name

-- the tip is below the spindle nose by the length
abbrev pub entry_by : ToolSheet → Reach → List PartEntry → ToolNumbers
entry_by sheet reach parts = record {
  number = pos sheet.number.number;
  offset = offset_of sheet.offset reach.length;
  bottom = pos 0 -ℤ pos reach.length.nanometres;
  parts = parts;
  name = Some (name_of sheet.name);
}

abbrev pub entry_of : MeasuredTool → ToolNumbers
entry_of t = entry_by t.sheet t.reach (parts_of t)

abbrev pub contents_of : List MeasuredTool → TableValues
contents_of tools = record { version = pos 2; tools = map entry_of tools }
