-- How traverses and feeds that may touch material, tool changes in it and feeds below its bottom are
-- written, in words and as facts of a JSON document. Our own.
use Rattle.std.specs.Prelude.{ℕ, ◌+◌, ◌-◌, ◌*◌, ◌/◌, ◌==◌, nat_lt, ◌-ℤ◌, unsigned_abs, List, [], ◌∷◌, ◌++◌, codes, decimal, length, take, slice_get, flat_map, Option, Some, None, if◌then◌else◌}
use Rattle.ngc_text.specs.Millimetres.{sign_text, size_text}
use Rattle.ngc_machine_files.specs.declared.parts.Part.{Part}
use Rattle.ngc_machine_files.specs.declared.tools.Tool.{Tool}
use Rattle.ngc_machine_files.specs.Tools.{tool_at}
use Rattle.ngc_commands.specs.declared.command.Command.{Command}
use Rattle.ngc_commands.specs.declared.reached.Reached.{Reached}
use Rattle.ngc_cells.specs.declared.grid.Grid.{Grid}
use Rattle.ngc_cells.specs.declared.stretch.Spot.{Spot}
use Rattle.ngc_stock.specs.declared.below.AllBelow.{AllBelow}
use Rattle.ngc_stock.specs.declared.change.Change.{Change}
use Rattle.ngc_stock.specs.declared.cut.Cut.{Cut}
use Rattle.ngc_stock.specs.declared.stock.Stock.{Stock}
use Rattle.ngc_stock.specs.Below.{all_below}
use Rattle.ngc_stock.specs.Changes.{changes}
use Rattle.ngc_stock.specs.Stocks.{first_part, lowest_part, margin, radius, reduction}
use Rattle.ngc_material.specs.declared.walk.Found.{Found}
use Rattle.ngc_sure_contacts.specs.declared.contact.Contact.{Contact}
use Rattle.ngc_sure_contacts.specs.declared.contact.FoundTraverse.{FoundTraverse}
use Rattle.ngc_material_report.specs.declared.touches.Kind.{Kind}
use Rattle.ngc_material_report.specs.declared.touches.Kind.TheVariants.{Traverse, Through, Feed}
use Rattle.ngc_report.specs.declared.form.Form.{Form}
use Rattle.ngc_report.specs.declared.form.Form.TheVariants.{Words, Json}

-- ---- what all facts have

-- which command a fact is about, and its tool
unfoldable pub command_fact : ℕ → ℕ → ℕ → List ℕ
command_fact line command tool =
    codes "\"line\":" ++ decimal line ++ codes ",\"command\":" ++ decimal command
    ++ codes ",\"tool\":" ++ decimal tool

-- ---- a motion

-- a traverse that may touch material or surely goes through it, or a feed that is named for the holder
abbrev pub motion_words : Kind → List ℕ
motion_words Traverse = codes "traverse"
motion_words Through = codes "traverse"
motion_words Feed = codes "feed"

abbrev pub kind_words : Kind → List ℕ
kind_words Traverse = codes "traverse"
kind_words Through = codes "traverse"
kind_words Feed = codes "holder"

abbrev pub verb_words : Kind → List ℕ
verb_words Traverse = codes " may touch material at "
verb_words Through = codes " goes through material at "
verb_words Feed = codes " may touch material at "

-- how a depth is meant
abbrev pub bound_words : Kind → List ℕ
bound_words Traverse = codes " is at most "
bound_words Through = codes " is at least "
bound_words Feed = codes " is at most "

abbrev pub certain_words : Kind → List ℕ
certain_words Traverse = codes "false"
certain_words Through = codes "true"
certain_words Feed = codes "false"

unfoldable pub motion_line : Kind → Found → List ℕ
motion_line kind f = codes "Line " ++ decimal f.line ++ verb_words kind ++ motion_words kind ++ codes ": "

unfoldable pub cutter_words : Found → List ℕ
cutter_words f = codes "tool " ++ decimal f.tool

-- the radius of a part of a tool, if there is this part
abbrev pub part_radius : Option Part → Option ℕ
part_radius None = None
part_radius (Some p) = Some (unsigned_abs p.radius)

abbrev pub radius_in : Option Tool → ℕ → Option ℕ
radius_in None part = None
radius_in (Some t) part = part_radius (slice_get t.parts part)

abbrev pub found_radius : List Tool → Found → Option ℕ
found_radius tools f = radius_in (tool_at tools f.tool) f.part

unfoldable pub above_words : Found → List ℕ
above_words f = codes "the shank or holder of tool " ++ decimal f.tool

unfoldable pub wide_words : ℕ → List ℕ
wide_words r = codes " (" ++ size_text (2 * r) ++ codes " mm wide)"

abbrev pub width_words : Option ℕ → List ℕ
width_words None = []
width_words (Some r) = wide_words r

-- which of the parts above the cutter is meant, its diameter says
abbrev pub upper_words : List Tool → Found → List ℕ
upper_words tools f = above_words f ++ width_words (found_radius tools f)

-- the lowest part is the tool itself
abbrev pub part_words : List Tool → Found → List ℕ
part_words tools f = if f.part == 0 then cutter_words f else upper_words tools f

unfoldable pub depth_words : Kind → Found → List ℕ
depth_words kind f = bound_words kind ++ size_text f.touch.depth ++ codes " mm deep at X "

abbrev pub deep_words : List Tool → Kind → Found → List ℕ
deep_words tools kind f = motion_line kind f ++ (part_words tools f ++ depth_words kind f)

-- from an origin to a place, in millimetres
unfoldable pub place_words : Spot → Spot → List ℕ
place_words origin p =
    sign_text (p.x -ℤ origin.x) ++ size_text (unsigned_abs (p.x -ℤ origin.x)) ++ codes " mm, Y "
    ++ sign_text (p.y -ℤ origin.y) ++ size_text (unsigned_abs (p.y -ℤ origin.y)) ++ codes " mm.\n"

unfoldable pub touch_words : Spot → List Tool → Kind → Found → List ℕ
touch_words origin tools kind f = deep_words tools kind f ++ place_words origin f.touch.place

unfoldable pub kind_fact : Kind → List ℕ
kind_fact kind =
    codes ",\n{\"fact\":\"material\",\"kind\":\"" ++ kind_words kind ++ codes "\",\"certain\":" ++ certain_words kind
    ++ codes ","

unfoldable pub depth_fact : Found → List ℕ
depth_fact f =
    codes ",\"part\":" ++ decimal f.part ++ codes ",\"depth\":" ++ decimal f.touch.depth ++ codes ",\"at\":["

-- the same in nanometres
unfoldable pub place_fact : Spot → Spot → List ℕ
place_fact origin p =
    sign_text (p.x -ℤ origin.x) ++ decimal (unsigned_abs (p.x -ℤ origin.x)) ++ codes ","
    ++ sign_text (p.y -ℤ origin.y) ++ decimal (unsigned_abs (p.y -ℤ origin.y)) ++ codes "]}"

unfoldable pub touch_fact : Spot → Kind → Found → List ℕ
touch_fact origin kind f =
    kind_fact kind ++ (command_fact f.line f.command f.tool ++ (depth_fact f ++ place_fact origin f.touch.place))

-- ---- all of them

abbrev pub line_of : Option Found → ℕ
line_of None = 0
line_of (Some f) = f.line

-- the line of the last, 0 without one
abbrev pub last_line : List Found → ℕ
last_line found = line_of (slice_get found (length found - 1))

unfoldable pub number_words : Kind → ℕ → ℕ → List ℕ
number_words kind count last =
    codes "There are " ++ decimal count ++ codes " such " ++ motion_words kind ++ codes "s, the last in line "
    ++ decimal last ++ codes ".\n"

-- their number, if not each has a line
abbrev pub count_words : ℕ → Kind → ℕ → ℕ → List ℕ
count_words most kind count last = if nat_lt most count then number_words kind count last else []

-- in words the first ones and their number, as facts all of them
abbrev pub motions_text : Form → ℕ → Spot → List Tool → Kind → List Found → List ℕ
motions_text Words most origin tools kind found =
    flat_map (touch_words origin tools kind) (take most found) ++ count_words most kind (length found) (last_line found)
motions_text Json most origin tools kind found = flat_map (touch_fact origin kind) found

-- ---- traverses

-- a traverse that surely goes through material is said with the place and the depth of its contact
abbrev pub sure_kind : Option Contact → Kind
sure_kind None = Traverse
sure_kind (Some c) = Through

abbrev pub sure_found : Found → Option Contact → Found
sure_found f None = f
sure_found f (Some c) = record f { touch = record { place = c.place; depth = c.depth } }

abbrev pub traverse_words : Spot → List Tool → FoundTraverse → List ℕ
traverse_words origin tools t = touch_words origin tools (sure_kind t.contact) (sure_found t.found t.contact)

abbrev pub traverse_fact : Spot → FoundTraverse → List ℕ
traverse_fact origin t = touch_fact origin (sure_kind t.contact) (sure_found t.found t.contact)

abbrev pub traverse_line : Option FoundTraverse → ℕ
traverse_line None = 0
traverse_line (Some t) = t.found.line

abbrev pub last_traverse : List FoundTraverse → ℕ
last_traverse ts = traverse_line (slice_get ts (length ts - 1))

abbrev pub traverses_text : Form → ℕ → Spot → List Tool → List FoundTraverse → List ℕ
traverses_text Words most origin tools ts =
    flat_map (traverse_words origin tools) (take most ts) ++ count_words most Traverse (length ts) (last_traverse ts)
traverses_text Json most origin tools ts = flat_map (traverse_fact origin) ts

-- the traverses and then the feeds
abbrev pub touches_text : Form → ℕ → Spot → List Tool → List FoundTraverse → List Found → List ℕ
touches_text form most origin tools ts feeds =
    traverses_text form most origin tools ts ++ motions_text form most origin tools Feed feeds

-- ---- a tool change below the stock's top

unfoldable pub low_words : Change → List ℕ
low_words c =
    codes "Line " ++ decimal c.line ++ codes " changes the tool below the stock's top: tool " ++ decimal c.tool
    ++ codes " is " ++ size_text c.depth ++ codes " mm below it at X "

unfoldable pub change_words : Spot → Change → List ℕ
change_words origin c = low_words c ++ place_words origin c.place

unfoldable pub low_fact : Change → List ℕ
low_fact c =
    codes ",\n{\"fact\":\"material\",\"kind\":\"change\",\"certain\":false," ++ (command_fact c.line c.command c.tool
    ++ (codes ",\"part\":0,\"depth\":" ++ decimal c.depth ++ codes ",\"at\":["))

unfoldable pub change_fact : Spot → Change → List ℕ
change_fact origin c = low_fact c ++ place_fact origin c.place

abbrev pub change_text : Form → Spot → Change → List ℕ
change_text Words origin c = change_words origin c
change_text Json origin c = change_fact origin c

-- of a command that may be one
abbrev pub change_line : Form → Spot → Option Change → List ℕ
change_line form origin None = []
change_line form origin (Some c) = change_text form origin c

-- those of a program, from a state
abbrev pub changes_text : Form → Spot → Stock → Reached → List Command → List ℕ
changes_text form origin s r commands = flat_map (change_text form origin) (changes s r 0 commands)

-- ---- feeds below the stock's bottom

unfoldable pub deepest_words : AllBelow → List ℕ
deepest_words a =
    codes "Line " ++ decimal a.deepest.line ++ codes " feeds below the stock's bottom: tool " ++ decimal a.deepest.tool
    ++ codes " is at most " ++ size_text a.deepest.depth ++ codes " mm below it."

unfoldable pub range_words : AllBelow → List ℕ
range_words a =
    codes " The first such feed is in line " ++ decimal a.first ++ codes ", the last in line " ++ decimal a.last
    ++ codes "."

-- where the others are, if there are others in other lines
abbrev pub others_words : AllBelow → List ℕ
others_words a = if a.first == a.last then [] else range_words a

abbrev pub below_words : AllBelow → List ℕ
below_words a = deepest_words a ++ (others_words a ++ codes "\n")

unfoldable pub below_fact : AllBelow → List ℕ
below_fact a =
    codes ",\n{\"fact\":\"material\",\"kind\":\"bottom\",\"certain\":false,"
    ++ (command_fact a.deepest.line a.deepest.command a.deepest.tool
    ++ (codes ",\"part\":0,\"depth\":" ++ decimal a.deepest.depth ++ codes ",\"first\":" ++ decimal a.first
    ++ codes ",\"last\":" ++ decimal a.last ++ codes "}"))

abbrev pub all_below_text : Form → AllBelow → List ℕ
all_below_text Words a = below_words a
all_below_text Json a = below_fact a

abbrev pub below_text : Form → Option AllBelow → List ℕ
below_text form None = []
below_text form (Some a) = all_below_text form a

-- the tool changes and the feeds of a program, from a state
abbrev pub depths_text : Form → Spot → Stock → Reached → List Command → List ℕ
depths_text form origin s r commands =
    changes_text form origin s r commands ++ below_text form (all_below s r 0 commands None)

-- ---- how deep straight feeds cut

-- how long a tool's cutter is, its lowest part
abbrev pub cutter_length : Tool → ℕ
cutter_length t = unsigned_abs (first_part t.parts).length

-- the length of the cutter, if it is shorter than the tool's deepest feed cuts
abbrev pub shorter : Cut → Option Tool → Option ℕ
shorter c None = None
shorter c (Some t) = if nat_lt (cutter_length t) c.depth then Some (cutter_length t) else None

abbrev pub short_cutter : List Tool → Cut → Option ℕ
short_cutter tools c = shorter c (tool_at tools c.tool)

unfoldable pub length_words : ℕ → List ℕ
length_words l = codes " Its cutter is only " ++ size_text l ++ codes " mm long."

abbrev pub short_words : Option ℕ → List ℕ
short_words None = []
short_words (Some l) = length_words l

unfoldable pub depth_sentence : Cut → List ℕ
depth_sentence c =
    codes "With tool " ++ decimal c.tool ++ codes " straight feeds cut at most " ++ size_text c.depth
    ++ codes " mm deep, the deepest in line " ++ decimal c.line ++ codes "."

unfoldable pub cut_words : List Tool → Cut → List ℕ
cut_words tools c = depth_sentence c ++ (short_words (short_cutter tools c) ++ codes "\n")

unfoldable pub length_value : ℕ → List ℕ
length_value l = codes ",\"cutter\":" ++ decimal l

abbrev pub short_value : Option ℕ → List ℕ
short_value None = []
short_value (Some l) = length_value l

unfoldable pub depth_values : Cut → List ℕ
depth_values c =
    codes ",\n{\"fact\":\"material_cut\"," ++ (command_fact c.line c.command c.tool
    ++ (codes ",\"depth\":" ++ decimal c.depth))

unfoldable pub cut_fact : List Tool → Cut → List ℕ
cut_fact tools c = depth_values c ++ (short_value (short_cutter tools c) ++ codes "}")

abbrev pub cut_text : Form → List Tool → Cut → List ℕ
cut_text Words tools c = cut_words tools c
cut_text Json tools c = cut_fact tools c

-- one of each tool
abbrev pub cuts_text : Form → List Tool → List Cut → List ℕ
cuts_text form tools cuts = flat_map (cut_text form tools) cuts

-- ---- what isn't tested

-- a size, rounded up to hundredths of a millimetre
abbrev pub rounded_up : ℕ → ℕ
rounded_up n = (n + 9999) / 10000 * 10000

-- the margin concerns traverses, and the depths that are written
abbrev pub tested_words : List Cut → List ℕ
tested_words [] = codes "Traverses were tested"
tested_words (c ∷ cs) = codes "Traverses were tested and depths measured"

unfoldable pub margin_words : Grid → List Cut → List ℕ
margin_words g cuts =
    tested_words cuts ++ codes " for each tool less " ++ size_text (rounded_up (margin g))
    ++ codes " mm of its radius.\n"

unfoldable pub margin_fact : Grid → List ℕ
margin_fact g = codes ",\n{\"fact\":\"material_margin\",\"less\":" ++ decimal (margin g) ++ codes "}"

abbrev pub margin_line : Form → Grid → List Cut → List ℕ
margin_line Words g cuts = margin_words g cuts
margin_line Json g cuts = margin_fact g

-- how wide a tool's cutter is, its lowest part
abbrev pub cutter_width : Tool → ℕ
cutter_width t = 2 * unsigned_abs (first_part t.parts).radius

unfoldable pub thin_words : Grid → Tool → List ℕ
thin_words g t =
    codes "Tool " ++ decimal t.number ++ codes " (" ++ size_text (cutter_width t)
    ++ codes " mm wide) is too thin for cells of " ++ size_text (2 * g.half)
    ++ codes " mm: its traverses were not tested.\n"

unfoldable pub thin_fact : Tool → List ℕ
thin_fact t =
    codes ",\n{\"fact\":\"material_untested\",\"tool\":" ++ decimal t.number ++ codes ",\"width\":" ++ decimal (cutter_width t)
    ++ codes "}"

abbrev pub thin_line : Form → Grid → Tool → List ℕ
thin_line Words g t = thin_words g t
thin_line Json g t = thin_fact t

-- of a tool that is too thin
abbrev pub thin_text : Form → Grid → Tool → List ℕ
thin_text form g t = if nat_lt (radius (lowest_part t)) (reduction g) then thin_line form g t else []

abbrev pub untested_text : Form → Grid → List Tool → List Cut → List ℕ
untested_text form g tools cuts = margin_line form g cuts ++ flat_map (thin_text form g) tools
