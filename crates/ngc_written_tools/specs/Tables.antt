-- The tools of a table of version 3, with their measures. Our own.
use Rattle.std.specs.Prelude.{ℕ, nat_le, List, [], ◌∷◌, codes, Option, Some, None, Result, Ok}
use Rattle.std.specs.Prelude.{Bool, if◌then◌else◌}
use Rattle.toml.specs.Data.{Data, array, Items, get}
use Rattle.ngc_machine_figures.specs.declared.key.Key.{Key}
use Rattle.ngc_machine_figures.specs.declared.key.Key.TheVariants.{Tool, File}
use Rattle.ngc_machine_figures.specs.declared.refusal.FileRefusal.{FileRefusal}
use Rattle.ngc_machine_figures.specs.declared.tool_key.ToolKey.TheVariants as keys
use Rattle.ngc_machine_figures.specs.declared.tool_key.ToolWrong.TheVariants as tools
use Rattle.ngc_machine_figures.specs.Fixtures.{each, item_count}
use Rattle.ngc_machine_figures.specs.Found.{only_known}
use Rattle.ngc_machine_figures.specs.Kinds.{name_value}
use Rattle.ngc_machine_figures.specs.Reading.{◌>>=◌, required, optional}
use Rattle.ngc_written_tools.specs.Holders.{holder_at}
use Rattle.ngc_written_tools.specs.Kinds.{size_value, offset_value, number_value}
use Rattle.ngc_written_tools.specs.Limits.{limits_at}
use Rattle.ngc_written_tools.specs.Repeats.{checked_numbers}
use Rattle.ngc_written_tools.specs.Shapes.{refuse, measured}
use Rattle.ngc_written_tools.specs.declared.sheet.LimitSheet.{LimitSheet}
use Rattle.ngc_written_tools.specs.declared.sheet.MeasuredTool.{MeasuredTool}
use Rattle.ngc_written_tools.specs.declared.sheet.ToolSheet.{ToolSheet}
use Rattle.ngc_written_tools.specs.declared.table.TheConstants.{TABLE_KEYS}

abbrev pub tool_keys : ℕ → List Key
tool_keys n =
    Tool (keys.Number n) ∷ Tool (keys.Name n) ∷ Tool (keys.Diameter n) ∷ Tool (keys.Length n)
    ∷ Tool (keys.Stickout n) ∷ Tool (keys.Flute n) ∷ Tool (keys.Shank n) ∷ Tool (keys.Offset n)
    ∷ Tool (keys.Holder n) ∷ Tool (keys.Cutter n) ∷ Tool (keys.Point n) ∷ Tool (keys.Speed n)
    ∷ Tool (keys.Feed n) ∷ Tool (keys.Plunge n) ∷ []

-- what else is written of a tool with this name and these limits
unfoldable pub sheet_with : ℕ → Option (List ℕ) → LimitSheet → Data → Result ToolSheet FileRefusal
sheet_with n name limits section = do
  number ← required number_value (Tool (keys.Number n)) section
  diameter ← required size_value (Tool (keys.Diameter n)) section
  length ← optional size_value (Tool (keys.Length n)) section
  stickout ← optional size_value (Tool (keys.Stickout n)) section
  flute ← optional size_value (Tool (keys.Flute n)) section
  shank ← optional size_value (Tool (keys.Shank n)) section
  offset ← optional offset_value (Tool (keys.Offset n)) section
  point ← optional size_value (Tool (keys.Point n)) section
  Ok (record {
    number = number;
    name = name;
    diameter = diameter;
    length = length;
    stickout = stickout;
    flute = flute;
    shank = shank;
    offset = offset;
    point = point;
    limits = limits;
  })

-- the tool with number n in the table's order, from 0
unfoldable pub tool_of : ℕ → Data → Result MeasuredTool FileRefusal
tool_of n section = do
  known ← only_known (Tool (keys.Tool n)) (tool_keys n) section
  name ← optional name_value (Tool (keys.Name n)) section
  limits ← limits_at n section
  sheet ← sheet_with n name limits section
  holder ← holder_at n section
  measured n sheet holder

abbrev pub different_tools : Items → Result (List MeasuredTool) FileRefusal
different_tools items = do
  tools ← each tool_of 0 items
  different ← checked_numbers tools
  Ok tools

unfoldable pub is_few : Items → Bool
is_few items = nat_le (item_count items) 1000

abbrev pub few_tools : Items → Result (List MeasuredTool) FileRefusal
few_tools items = if is_few items then different_tools items else refuse keys.Tools tools.ManyTools

abbrev pub tools_of : Data → Result (List MeasuredTool) FileRefusal
tools_of (array items) = few_tools items
tools_of _ = refuse keys.Tools tools.NoTools

abbrev pub tools_found : Option Data → Result (List MeasuredTool) FileRefusal
tools_found None = Ok []
tools_found (Some value) = tools_of value

unfoldable pub tools_at : Data → Result (List MeasuredTool) FileRefusal
tools_at tree = tools_found (get (codes "tool") tree)

-- what is written in a table, or the first refusal
unfoldable pub sheets_of : Data → Result (List MeasuredTool) FileRefusal
sheets_of tree = do
  known ← only_known File TABLE_KEYS tree
  tools_at tree
