-- The text of shapes: SVG 1.1, in millimetres. Our own use of it.
use Rattle.std.specs.Prelude.{ℕ, ◌+◌, ◌-◌, ◌*◌, nat_lt, ◌/◌, ◌%◌, ◌==◌, ℤ, pos, ◌-ℤ◌, ◌*ℤ◌, unsigned_abs, List, []}
use Rattle.std.specs.Prelude.{◌∷◌, ◌++◌, flat_map, codes, decimal, Bool, true, false, if◌then◌else◌}
use Rattle.std.specs.Prelude.{length}
use Rattle.ngc_text.specs.Millimetres.{sign_text}
use Rattle.ngc_picture_shapes.specs.declared.view.View.{View}
use Rattle.ngc_picture_shapes.specs.declared.view.View.TheVariants.{Top, Front, Side, Iso}
use Rattle.ngc_picture_shapes.specs.declared.spot.Block.{Block}
use Rattle.ngc_picture_shapes.specs.declared.spot.Rectangle.{Rectangle}
use Rattle.ngc_picture_shapes.specs.declared.spot.Spot.{Spot}
use Rattle.ngc_picture_shapes.specs.declared.shape.BoxKind.{BoxKind}
use Rattle.ngc_picture_shapes.specs.declared.shape.BoxKind.TheVariants as kinds
use Rattle.ngc_picture_shapes.specs.declared.shape.Ink.{Ink}
use Rattle.ngc_picture_shapes.specs.declared.shape.Ink.TheVariants as inks
use Rattle.ngc_picture_shapes.specs.declared.shape.Mark.{Mark}
use Rattle.ngc_picture_shapes.specs.declared.shape.Mark.TheVariants as marks
use Rattle.ngc_picture_shapes.specs.declared.shape.Shape.{Shape}
use Rattle.ngc_picture_shapes.specs.declared.shape.Shape.TheVariants as shapes
use Rattle.ngc_picture_shapes.specs.declared.shape.Pane.{Pane}
use Rattle.ngc_picture_shapes.specs.declared.shape.Sheet.{Sheet}

-- a point and three digits; 48 is the code of 0
abbrev pub decimals : ℕ → List ℕ
decimals n = 46 ∷ (48 + n / 100) ∷ (48 + n / 10 % 10) ∷ (48 + n % 10) ∷ []

-- a size in micrometres as millimetres
unfoldable pub size_text : ℕ → List ℕ
size_text n = decimal (n / 1000) ++ decimals (n % 1000)

unfoldable pub length_text : ℤ → List ℕ
unfolding size_text
length_text z = sign_text z ++ size_text (unsigned_abs z)

-- and with the other sign, since SVG counts downwards
unfoldable pub down_text : ℤ → List ℕ
unfolding size_text
down_text z = sign_text (pos 0 -ℤ z) ++ size_text (unsigned_abs z)

abbrev pub spot_text : Spot → List ℕ
spot_text p = length_text p.across ++ codes " " ++ down_text p.up

abbrev pub area_text : Rectangle → List ℕ
area_text r =
    codes "M" ++ spot_text r.low ++ codes "H" ++ length_text r.high.across ++ codes "V"
    ++ down_text r.high.up ++
    codes "H" ++ length_text r.low.across ++ codes "Z"

-- the beginning of a box, by what the box is
unfoldable pub kind_text : BoxKind → List ℕ
kind_text kinds.Travel = codes "<path d=\""
kind_text kinds.ThinTravel = codes "<path stroke-width=\".1%\" d=\""
kind_text kinds.Fixture = codes "<path fill=\"#808080\" fill-opacity=\".3\" d=\""
kind_text kinds.Margin = codes "<path stroke-width=\".1%\" stroke-dasharray=\".4%\" d=\""
kind_text kinds.FaultFixture =
    codes "<path stroke=\"#E60000\" fill=\"#E60000\" fill-opacity=\".3\" d=\""
kind_text kinds.FaultTool = codes "<path stroke=\"#E60000\" d=\""

-- the outline of a box in the isometric view, counterclockwise from the bottom of its near edge
abbrev pub silhouette_text : Block → List ℕ
silhouette_text b =
    codes "\nM" ++ spot_text b.near ++ codes "L" ++ spot_text b.right ++ codes "V"
    ++ down_text b.right_top.up ++ codes "L" ++ spot_text b.far_top ++ codes "L"
    ++ spot_text b.left_top ++ codes "V" ++ down_text b.left.up ++ codes "Z"

-- and its edges at the nearest corner: the two of the top, and the near edge
abbrev pub near_edges_text : Block → List ℕ
near_edges_text b =
    codes "\nM" ++ spot_text b.left_top ++ codes "L" ++ spot_text b.near_top ++ codes "L"
    ++ spot_text b.right_top ++ codes "M" ++ spot_text b.near_top ++ codes "V"
    ++ down_text b.near.up

-- eight colours that most colour-blind readers can tell apart, on white and on black
abbrev pub colour_at : ℕ → List ℕ
colour_at rank =
    if rank == 0 then codes "#0072B2"
    else (if rank == 1 then codes "#E69F00" else (if rank == 2 then codes "#009E73"
    else (if rank == 3 then codes "#CC79A7"
    else (if rank == 4 then codes "#56B4E9" else (if rank == 5 then codes "#9030F0"
    else (if rank == 6 then codes "#604860" else codes "#C0A860"))))))

unfoldable pub colour_text : ℕ → List ℕ
colour_text rank = colour_at (rank % 8)

unfoldable pub ink_text : Ink → List ℕ
ink_text (inks.Feed rank) = colour_text rank
ink_text (inks.Traverse rank) = colour_text rank ++ codes "\" stroke-dasharray=\".6%"
ink_text inks.Fault = codes "#E60000\" stroke-width=\".4%"

-- signs in units, around a spot
abbrev pub sign_at : ℤ → Spot → List ℕ → List ℕ
sign_at unit at sign =
    codes "<g stroke-width=\".1\" transform=\"translate(" ++ spot_text at ++ codes ") scale("
    ++ length_text unit ++ codes ")\">" ++ sign ++ codes "</g>\n"

abbrev pub sign_begin : ℤ → Spot → List ℕ
sign_begin unit at =
    codes "<g stroke-width=\".1\" transform=\"translate(" ++ spot_text at ++ codes ") scale("
    ++ length_text unit ++ codes ")\">"

unfoldable pub axes_text : View → List ℕ
axes_text Top = codes "X</text><text x=\"-7.2\" y=\"-3.7\" fill=\"#808080\" stroke=\"none\">Y"
axes_text Front = codes "X</text><text x=\"-7.2\" y=\"-3.7\" fill=\"#808080\" stroke=\"none\">Z"
axes_text Side = codes "Y</text><text x=\"-7.2\" y=\"-3.7\" fill=\"#808080\" stroke=\"none\">Z"
axes_text Iso =
    codes "<tspan x=\"-2\" y=\".9\">X</tspan><tspan x=\"-7.4\" y=\".9\">Y</tspan><tspan x=\"-4.7\" y=\"-1.7\">Z</tspan>"

-- their arrows, and the beginning of their names
unfoldable pub arrows_text : View → List ℕ
arrows_text Iso =
    codes "<path d=\"M-7 1.5L-4 3L-1 1.5M-4 3V-1M-4.6 .4L-4 -1L-3.4 .4M-2.5 1.6L-1 1.5L-2 2.7M-5.5 1.6L-7 1.5L-6 2.7\"/><text fill=\"#808080\" stroke=\"none\">"
arrows_text _ =
    codes "<path d=\"M-6.5 -3V3H-1M-7.1 -1.6L-6.5 -3L-5.9 -1.6M-2.4 2.4L-1 3L-2.4 3.6\"/><text x=\"-.5\" y=\"3.7\" fill=\"#808080\" stroke=\"none\">"

-- the codes of the nine coordinate systems, G54 to G59 and G59.1 to G59.3, by their numbers from 0
abbrev pub system_text : ℕ → List ℕ
system_text i =
    if nat_lt i 6 then codes "G" ++ decimal (54 + i) else codes "G59." ++ decimal (i - 5)

-- by how many lines, of two units each, a label is moved down
unfoldable pub lines_text : ℕ → List ℕ
lines_text lines = if lines == 0 then [] else codes " dy=\"" ++ decimal (2 * lines) ++ codes "\""

abbrev pub start_text : ℕ → List ℕ
start_text lines =
    codes "<circle r=\".8\"/><text x=\"1\" y=\"-1\"" ++ lines_text lines
    ++ codes " fill=\"#808080\" stroke=\"none\">start</text>"

abbrev pub home_text : ℕ → List ℕ
home_text lines =
    codes "<path d=\"M-1 -1L1 1M-1 1L1 -1\"/><text x=\"1\" y=\"2.4\"" ++ lines_text lines
    ++ codes " fill=\"#808080\" stroke=\"none\">G28</text>"

abbrev pub second_home_text : ℕ → List ℕ
second_home_text lines =
    codes "<path d=\"M-1 0L0 -1L1 0L0 1Z\"/><text x=\"-1\" y=\"2.4\"" ++ lines_text lines
    ++ codes " text-anchor=\"end\" fill=\"#808080\" stroke=\"none\">G30</text>"

unfoldable pub moved_text : Bool → List ℕ
moved_text true = codes " G92"
moved_text false = []

-- the code of its coordinate system, and G92 after it where an axis offset is in force
abbrev pub origin_text : ℕ → Bool → ℕ → List ℕ
origin_text system is_moved lines =
    codes "<path d=\"M0 -3V0H3M-.5 -2L0 -3L.5 -2M2 -.5L3 0L2 .5\"/><text x=\"-.6\" y=\"2\"" ++
    lines_text lines
    ++ codes " text-anchor=\"end\" fill=\"#808080\" stroke=\"none\">" ++ system_text system
    ++ moved_text is_moved ++ codes "</text>"

unfoldable pub mark_text : Mark → List ℕ
mark_text (marks.Start lines) = start_text lines
mark_text (marks.Home lines) = home_text lines
mark_text (marks.SecondHome lines) = second_home_text lines
mark_text (marks.Origin system is_moved lines) = origin_text system is_moved lines
mark_text marks.Hole = codes "<circle r=\".6\"/><path d=\"M-1 0H1M0 -1V1\"/>"
mark_text (marks.Axes view) = arrows_text view ++ axes_text view ++ codes "</text>"

unfoldable pub turn_text : Bool → List ℕ
turn_text true = codes " 0 0 1 "
turn_text false = codes " 0 0 0 "

abbrev pub begin_text : Sheet → List ℕ
begin_text s =
    codes "<?xml version=\"1.0\" encoding=\"UTF-8\"?>\n<svg xmlns=\"http://www.w3.org/2000/svg\" version=\"1.1\" width=\"" ++
    length_text s.page_width ++ codes "mm\" height=\"" ++ length_text s.page_height
    ++ codes "mm\" viewBox=\""
    ++ length_text s.left ++ codes " " ++
    length_text s.top ++ codes " " ++ length_text s.width ++ codes " " ++ length_text s.height
    ++ codes "\">\n"

abbrev pub window_text : Pane → List ℕ
window_text p =
    codes "<svg x=\"" ++ length_text p.left ++ codes "\" y=\"" ++ length_text p.top
    ++ codes "\" width=\"" ++ length_text p.width ++ codes "\" height=\"" ++ length_text p.height
    ++ codes "\" viewBox=\"" ++ length_text p.left ++ codes " " ++ length_text p.top
    ++ codes " " ++ length_text p.width ++ codes " " ++ length_text p.height ++ codes "\">\n"

abbrev pub scale_text : ℤ → Spot → ℕ → List ℕ
scale_text unit at bar =
    codes "<path transform=\"translate(0 " ++ length_text (pos 6 *ℤ unit) ++ codes ")\" d=\"M"
    ++ spot_text at ++ codes "v-" ++ length_text unit ++
    codes "v" ++ length_text unit ++ codes "h" ++ size_text bar ++ codes "v-" ++ length_text unit
    ++ codes "\"/>\n"

-- what the scale measures in the isometric view
unfoldable pub scale_note_text : ℤ → View → Spot → List ℕ
scale_note_text unit Iso at =
    sign_at unit at
    (codes "<text x=\"27\" y=\"6\" fill=\"#808080\" stroke=\"none\">X, Y: measured across; Z: upwards</text>")
scale_note_text unit _ at = []

-- a number of a tool; no tool is 0
unfoldable pub tool_text : ℕ → List ℕ
tool_text number = if number == 0 then codes "no tool" else codes "T" ++ decimal number

-- a character of a text (XML 1.0, section 2.4)
abbrev pub escaped : ℕ → List ℕ
escaped c =
    if c == 38 then codes "&amp;" else (if c == 60 then codes "&lt;"
    else (if c == 62 then codes "&gt;" else (if c == 34 then codes "&quot;" else c ∷ [])))

-- a name after a number, where there is one
unfoldable pub name_text : List ℕ → List ℕ
name_text name = if length name == 0 then [] else codes " " ++ flat_map escaped name

abbrev pub shape_text : ℤ → Shape → List ℕ
shape_text unit (shapes.Begin sheet) = begin_text sheet
shape_text unit shapes.Lines =
    codes "<g fill=\"none\" stroke=\"#808080\" stroke-width=\".15%\" stroke-linecap=\"round\" stroke-linejoin=\"round\" font-family=\"sans-serif\" font-size=\"2\">\n"
shape_text unit (shapes.Outline kind r) = kind_text kind ++ area_text r ++ codes "\"/>\n"
shape_text unit (shapes.BoxBegin kind) = kind_text kind
shape_text unit (shapes.Silhouette b) = silhouette_text b
shape_text unit (shapes.NearEdges b) = near_edges_text b
shape_text unit (shapes.FaultBlock b) =
    kind_text kinds.FaultTool ++ silhouette_text b ++ codes "\"/>\n"
shape_text unit (shapes.Window pane) = window_text pane
shape_text unit shapes.WindowEnd = codes "</svg>\n"
shape_text unit (shapes.FixtureNumber at number lines) =
    sign_begin unit at
    ++ (codes "<text x=\".5\" y=\"-.5\"" ++ lines_text lines
    ++ codes " fill=\"#808080\" stroke=\"none\">" ++ decimal number)
shape_text unit (shapes.Name name) = name_text name
shape_text unit shapes.LabelEnd = codes "</text></g>\n"
shape_text unit shapes.Bodies = codes "<g stroke=\"none\" opacity=\".2\">\n"
shape_text unit (shapes.BodiesOf rank) =
    codes "<path fill=\"" ++ colour_text rank ++ codes "\" d=\""
shape_text unit (shapes.Body r) = codes "\n" ++ area_text r
shape_text unit (shapes.Path ink at) =
    codes "<path stroke=\"" ++ ink_text ink ++ codes "\" d=\"M" ++ spot_text at
shape_text unit (shapes.Line to) = codes "\nL" ++ spot_text to
shape_text unit (shapes.Round radius clockwise to) =
    codes "\nA" ++ length_text radius ++ codes " " ++ length_text radius ++ turn_text clockwise
    ++ spot_text to
shape_text unit shapes.PathEnd = codes "\"/>\n"
shape_text unit shapes.BodiesEnd = codes "</g>\n"
shape_text unit (shapes.Mark mark at) = sign_at unit at (mark_text mark)
shape_text unit (shapes.FaultNumber at fault) =
    sign_at unit at
    (codes "<text x=\"1\" y=\"1\" fill=\"#E60000\" stroke=\"none\">" ++ decimal fault
    ++ codes "</text>")
shape_text unit (shapes.Scale at bar) = scale_text unit at bar
shape_text unit (shapes.ScaleLength at bar) =
    sign_at unit at
    (codes "<text x=\"0\" y=\"8.4\" fill=\"#808080\" stroke=\"none\">"
    ++ decimal (bar / 1000) ++ codes " mm</text>")
shape_text unit (shapes.ScaleNote view at) = scale_note_text unit view at
shape_text unit (shapes.Legend at) =
    codes "<g transform=\"translate(" ++ spot_text at ++ codes ") scale(" ++ length_text unit ++
    codes ")\"><text y=\"8.4\" fill=\"#808080\" stroke=\"none\">\n<tspan x=\"0\" dy=\"3\">solid: feeds, dashed: traverses, both at the tip of the mounted tool</tspan>\n<tspan x=\"0\" dy=\"3\">start, G28, G30: the spindle nose; tools: each part's diameter x length</tspan>\n"
shape_text unit (shapes.Tool rank number) =
    codes "<tspan x=\"0\" dy=\"3\" fill=\"" ++ colour_text rank ++ codes "\">&#9632; "
    ++ tool_text number
shape_text unit (shapes.Part diameter long) =
    codes ", " ++ length_text diameter ++ codes " x " ++ length_text long
shape_text unit shapes.ToolEnd = codes "</tspan>\n"
shape_text unit (shapes.FaultLine fault command) =
    codes "<tspan x=\"0\" dy=\"3\" fill=\"#E60000\">fault " ++ decimal fault ++ codes " at command "
    ++ decimal command ++ codes "</tspan>\n"
shape_text unit shapes.End = codes "</text></g>\n</g>\n</svg>\n"

-- the text of shapes in order
abbrev pub shapes_text : ℤ → List Shape → List ℕ
shapes_text unit drawn = flat_map (shape_text unit) drawn
