-- The names of the keys of a tool table. Our own.
use Rattle.std.specs.Prelude.{ℕ, List, codes}
use Rattle.ngc_machine_figures.specs.declared.tool_key.ToolKey.{ToolKey}
use Rattle.ngc_machine_figures.specs.declared.tool_key.ToolKey.TheVariants as keys

abbrev pub name_of : ToolKey → List ℕ
name_of keys.Tools = codes "tool"
name_of (keys.Tool n) = codes "tool"
name_of (keys.Number n) = codes "number"
name_of (keys.Name n) = codes "name"
name_of (keys.Diameter n) = codes "diameter"
name_of (keys.Length n) = codes "length"
name_of (keys.Stickout n) = codes "stickout"
name_of (keys.Flute n) = codes "flute"
name_of (keys.Shank n) = codes "shank"
name_of (keys.Offset n) = codes "offset"
name_of (keys.Cutter n) = codes "cutter"
name_of (keys.Point n) = codes "point"
name_of (keys.Speed n) = codes "speed"
name_of (keys.Feed n) = codes "feed"
name_of (keys.Plunge n) = codes "plunge"
name_of (keys.Holder n) = codes "holder"
name_of (keys.Part n part) = codes "holder"
name_of (keys.PartDiameter n part) = codes "diameter"
name_of (keys.PartLength n part) = codes "length"

-- another name under which people know a key; that of a key without one is its own
abbrev pub other_name_of : ToolKey → List ℕ
other_name_of (keys.Number n) = codes "id"
other_name_of (keys.Diameter n) = codes "dia"
other_name_of (keys.PartDiameter n part) = codes "dia"
other_name_of (keys.Flute n) = codes "flute_length"
other_name_of (keys.Cutter n) = codes "type"
other_name_of (keys.Speed n) = codes "rpm"
other_name_of (keys.Feed n) = codes "feedrate"
other_name_of key = name_of key
