-- The tables of a machine file and of a tool table of version 3, and how a message names a key. Our own.
use Rattle.std.specs.Prelude.{ℕ, ◌+◌, List, [], ◌++◌, codes, decimal}
use Rattle.ngc_machine_figures.specs.declared.key.AxisName.{AxisName}
use Rattle.ngc_machine_figures.specs.declared.key.AxisName.TheVariants as axes
use Rattle.ngc_machine_figures.specs.declared.key.Key.{Key}
use Rattle.ngc_machine_figures.specs.declared.key.Key.TheVariants as keys
use Rattle.ngc_machine_figures.specs.declared.tool_key.ToolKey.{ToolKey}
use Rattle.ngc_machine_figures.specs.declared.tool_key.ToolKey.TheVariants as tools
use Rattle.ngc_machine_figures.specs.Keys.{axis_name, name_of}
use Rattle.ngc_refused_files.specs.declared.place.Naming.{Naming}
use Rattle.ngc_refused_files.specs.declared.place.Naming.TheVariants as namings
use Rattle.ngc_refused_files.specs.declared.place.Section.{Section}
use Rattle.ngc_refused_files.specs.declared.place.Section.TheVariants as sections

-- of a tool's table itself, that table; of a part of a holder, that part
abbrev pub tool_with : ToolKey → Section
tool_with tools.Tools = sections.Top
tool_with (tools.Tool n) = sections.Tool n
tool_with (tools.Number n) = sections.Tool n
tool_with (tools.Name n) = sections.Tool n
tool_with (tools.Diameter n) = sections.Tool n
tool_with (tools.Length n) = sections.Tool n
tool_with (tools.Stickout n) = sections.Tool n
tool_with (tools.Flute n) = sections.Tool n
tool_with (tools.Shank n) = sections.Tool n
tool_with (tools.Offset n) = sections.Tool n
tool_with (tools.Cutter n) = sections.Tool n
tool_with (tools.Speed n) = sections.Tool n
tool_with (tools.Feed n) = sections.Tool n
tool_with (tools.Point n) = sections.Tool n
tool_with (tools.Plunge n) = sections.Tool n
tool_with (tools.Holder n) = sections.Tool n
tool_with (tools.Part n part) = sections.Part n part
tool_with (tools.PartDiameter n part) = sections.Part n part
tool_with (tools.PartLength n part) = sections.Part n part

-- the table that has a key; of the table of a fixture or a tool itself, that table
abbrev pub table_with : Key → Section
table_with (keys.Axis axis) = sections.Axes
table_with (keys.Motor axis) = sections.Axis axis
table_with (keys.Travel axis) = sections.Axis axis
table_with (keys.Speed axis) = sections.Axis axis
table_with (keys.Acceleration axis) = sections.Axis axis
table_with (keys.Origin system) = sections.Origins
table_with (keys.Fixture n) = sections.Fixture n
table_with (keys.FixtureName n) = sections.Fixture n
table_with (keys.FixtureIn n) = sections.Fixture n
table_with (keys.FixtureFrom n) = sections.Fixture n
table_with (keys.FixtureTo n) = sections.Fixture n
table_with (keys.FixtureSize n) = sections.Fixture n
table_with keys.StockIn = sections.Stock
table_with keys.StockFrom = sections.Stock
table_with keys.StockTo = sections.Stock
table_with keys.StockSize = sections.Stock
table_with (keys.Tool key) = tool_with key
table_with _ = sections.Top

abbrev pub tool_of : ToolKey → Section
tool_of (tools.Tool n) = sections.Tool n
tool_of (tools.Part n part) = sections.Part n part
tool_of _ = sections.Top

-- the table that a key names; what is before all tables if it names none
abbrev pub table_of : Key → Section
table_of keys.Axes = sections.Axes
table_of (keys.Axis axis) = sections.Axis axis
table_of keys.Origins = sections.Origins
table_of (keys.Fixture n) = sections.Fixture n
table_of keys.Stock = sections.Stock
table_of (keys.Tool key) = tool_of key
table_of _ = sections.Top

abbrev pub header_text : Section → List ℕ
header_text sections.Top = codes ""
header_text sections.Axes = codes "[axis]"
header_text (sections.Axis axes.X) = codes "[axis.x]"
header_text (sections.Axis axes.Y) = codes "[axis.y]"
header_text (sections.Axis axes.Z) = codes "[axis.z]"
header_text sections.Origins = codes "[origin]"
header_text (sections.Fixture n) = codes "[[fixture]]"
header_text sections.Stock = codes "[stock]"
header_text (sections.Tool n) = codes "[[tool]]"
header_text (sections.Part n part) = codes "[[tool]]"

-- the number of lines with this header up to the table's own
abbrev pub headers : Section → ℕ
headers sections.Top = 0
headers (sections.Fixture n) = n + 1
headers (sections.Tool n) = n + 1
headers (sections.Part n part) = n + 1
headers _ = 1

-- tools and the parts of a holder are counted from 1
unfoldable pub tool_text : ℕ → List ℕ → List ℕ
tool_text n end = codes "[[tool]] " ++ decimal (n + 1) ++ end

unfoldable pub part_text : ℕ → ℕ → List ℕ → List ℕ
part_text n part end =
    codes "[[tool]] " ++ decimal (n + 1) ++ codes ", holder part " ++ decimal (part + 1) ++ end

unfoldable pub section_text : Section → List ℕ
section_text sections.Top = []
section_text sections.Axes = codes "axis."
section_text (sections.Axis axis) = codes "axis." ++ axis_name axis ++ codes "."
section_text sections.Origins = codes "origin."
section_text (sections.Fixture n) = codes "fixture " ++ decimal (n + 1) ++ codes ", "
section_text sections.Stock = codes "stock."
section_text (sections.Tool n) = tool_text n (codes ", ")
section_text (sections.Part n part) = part_text n part (codes ", ")

abbrev pub tool_naming : ToolKey → Naming
tool_naming (tools.Tool n) = namings.Tool n
tool_naming (tools.Part n part) = namings.Part n part
tool_naming _ = namings.Key

abbrev pub naming_of : Key → Naming
naming_of keys.File = namings.Nothing
naming_of (keys.Fixture n) = namings.Fixture n
naming_of (keys.Tool key) = tool_naming key
naming_of _ = namings.Key

unfoldable pub key_text : Section → List ℕ → List ℕ
key_text section name = section_text section ++ (name ++ codes ": ")

unfoldable pub named_text : Key → Naming → List ℕ
named_text key namings.Nothing = []
named_text key (namings.Fixture n) = codes "fixture " ++ decimal (n + 1) ++ codes ": "
named_text key (namings.Tool n) = tool_text n (codes ": ")
named_text key (namings.Part n part) = part_text n part (codes ": ")
named_text key namings.Key = key_text (table_with key) (name_of key)

-- which key a message is about: axis.x.speed. Fixtures are counted from 1
unfoldable pub place_text : Key → List ℕ
place_text key = named_text key (naming_of key)

-- the word with which the line of a key begins: the parts of a holder are in its line or after it
abbrev pub word_in : Section → Key → List ℕ
word_in (sections.Part n part) key = codes "holder"
word_in _ key = name_of key

abbrev pub line_word : Key → List ℕ
line_word key = word_in (table_with key) key
