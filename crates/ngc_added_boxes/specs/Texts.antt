-- The values of two options: `--fixture "left clamp=54:-30,20,-10,-5,40,15"` is a name, a coordinate
-- system and two opposite corners in millimetres; `--stock 54:0,0,-20,100,60,0` has no name. With a
-- unit they are as in `54: 0, 0, -1 in to 4, 2, 0 in`. Our own.
use Rattle.std.specs.Prelude.{ℕ, ◌+◌, ◌==◌, ℤ, int_lt, nat_le, nat_lt, Bool, true, false}
use Rattle.std.specs.Prelude.{not, ◌&&◌, List, [], ◌∷◌, ◌++◌, length, take, drop, fold, Option, Some}
use Rattle.std.specs.Prelude.{None, Result, Ok, Err, if◌then◌else◌, unsigned_abs}
use Rattle.std.specs.Int.{int_min, int_max}
use Rattle.std.specs.List.{prefix_len}
use Rattle.std.specs.Path.{rsplit_once}
use Rattle.ngc_fixed_length.specs.declared.points.Point3.{Point3}
use Rattle.ngc_machine_files.specs.Names.{name_of}
use Rattle.ngc_machine_files.specs.Ranges.{BLOCK_LIMIT, CORNER_LIMIT}
use Rattle.ngc_machine_maker.specs.Decimals.{number_in, three_texts}
use Rattle.ngc_quantities.specs.Ranges.{place_of as written_in}
use Rattle.ngc_quantities.specs.declared.fault.Fault.{Fault}
use Rattle.ngc_quantities.specs.declared.range.Place.{Place}
use Rattle.ngc_origins.specs.Texts.{begins_minus, negative, place_of, positive, system_in}
use Rattle.ngc_added_boxes.specs.Boxes.{AddedBoxes, MOST_ADDED, no_boxes}
use Rattle.ngc_added_boxes.specs.declared.boxes.AddedFixture.{AddedFixture}
use Rattle.ngc_added_boxes.specs.declared.boxes.SystemBox.{SystemBox}
use Rattle.ngc_added_boxes.specs.declared.reading.BoxMistake.{BoxMistake}
use Rattle.ngc_added_boxes.specs.declared.reading.BoxMistake.TheVariants.{NoName, NoSystem}
use Rattle.ngc_added_boxes.specs.declared.reading.BoxMistake.TheVariants.{NoCorners, Flat, TooMany}

-- ---- two corners

abbrev pub within : ℕ → Option ℕ → Option ℕ
within limit None = None
within limit (Some n) = if nat_le n limit then Some n else None

-- a size of at most `limit` nanometres, in millimetres with at most six decimals
abbrev pub size_in : ℕ → List ℕ → Option ℕ
size_in limit text = within limit (number_in 6 text)

-- a size, or a minus sign and a size
abbrev pub signed : ℕ → Bool → List ℕ → Option ℤ
signed limit true text = negative (size_in limit (drop 1 text))
signed limit false text = positive (size_in limit text)

abbrev pub coordinate_in : ℕ → List ℕ → Option ℤ
coordinate_in limit text = signed limit (begins_minus text) text

abbrev pub corner_in : ℕ → List ℕ → List ℕ → List ℕ → Option Point3
corner_in limit x y z =
    place_of (coordinate_in limit x) (coordinate_in limit y) (coordinate_in limit z)

abbrev pub is_other : ℕ → ℕ → Bool
is_other byte b = not (b == byte)

abbrev pub parted : List ℕ → List ℕ → Option (List ℕ × List ℕ)
parted before [] = None
parted before (b ∷ after) = Some (before, after)

-- the texts before and after the first such byte, if there is one
abbrev pub split_first : ℕ → List ℕ → Option (List ℕ × List ℕ)
split_first byte text =
    parted (take (prefix_len (is_other byte) text) text) (drop (prefix_len (is_other byte) text) text)

abbrev pub both_of : Option Point3 → Option Point3 → Option (Point3 × Point3)
both_of (Some p) (Some q) = Some (p, q)
both_of _ _ = None

-- from the third coordinate on: its text, and that of the second corner
abbrev pub with_third : ℕ → List ℕ → List ℕ → Option (List ℕ × List ℕ) → Option (Point3 × Point3)
with_third limit x y None = None
with_third limit x y (Some parts) =
    both_of (corner_in limit x y parts.0)
    (corner_in limit (three_texts parts.1).x (three_texts parts.1).y (three_texts parts.1).z)

-- two corners: six numbers in millimetres, separated by commas
abbrev pub plain_corners : ℕ → List ℕ → Option (Point3 × Point3)
plain_corners limit text =
    with_third limit (three_texts text).x (three_texts text).y (split_first 44 (three_texts text).z)

-- ---- corners with a unit, as a machine file of version 3 has them

-- a length of at most `limit` nanometres either way
abbrev pub near : ℕ → ℤ → Option ℤ
near limit z = if nat_le (unsigned_abs z) limit then Some z else None

abbrev pub near_place : ℕ → Place → Option Point3
near_place limit p = place_of (near limit p.x) (near limit p.y) (near limit p.z)

abbrev pub near_found : ℕ → Result Place Fault → Option Point3
near_found limit (Ok p) = near_place limit p
near_found limit (Err fault) = None

abbrev pub written_corner : ℕ → List ℕ → Option Point3
written_corner limit text = near_found limit (written_in text)

-- the first t is that of the word `to`
abbrev pub after_o : List ℕ → List ℕ → Option (List ℕ × List ℕ)
after_o before [] = None
after_o before (b ∷ after) = if b == 111 then Some (before, after) else None

abbrev pub with_to : Option (List ℕ × List ℕ) → Option (List ℕ × List ℕ)
with_to None = None
with_to (Some parts) = after_o parts.0 parts.1

abbrev pub split_to : List ℕ → Option (List ℕ × List ℕ)
split_to text = with_to (split_first 116 text)

abbrev pub corners_of : ℕ → Option (List ℕ × List ℕ) → Option (Point3 × Point3)
corners_of limit None = None
corners_of limit (Some parts) = both_of (written_corner limit parts.0) (written_corner limit parts.1)

abbrev pub written_corners : ℕ → List ℕ → Option (Point3 × Point3)
written_corners limit text = corners_of limit (split_to text)

abbrev pub or_corners : Option (Point3 × Point3) → Option (Point3 × Point3) → Option (Point3 × Point3)
or_corners (Some corners) other = Some corners
or_corners None other = other

abbrev pub corners_in : ℕ → List ℕ → Option (Point3 × Point3)
corners_in limit text = or_corners (plain_corners limit text) (written_corners limit text)

-- ---- a box

-- the lowest and the highest corner of the box that has these two
abbrev pub least : Point3 → Point3 → Point3
least p q = record { x = int_min p.x q.x; y = int_min p.y q.y; z = int_min p.z q.z }

abbrev pub greatest : Point3 → Point3 → Point3
greatest p q = record { x = int_max p.x q.x; y = int_max p.y q.y; z = int_max p.z q.z }

abbrev pub has_volume : Point3 → Point3 → Bool
has_volume low high = int_lt low.x high.x && (int_lt low.y high.y && int_lt low.z high.z)

abbrev pub box_of : ℕ → Option (Point3 × Point3) → Result SystemBox BoxMistake
box_of system None = Err NoCorners
box_of system (Some c) =
    if has_volume (least c.0 c.1) (greatest c.0 c.1)
    then Ok (record { system = system; low = least c.0 c.1; high = greatest c.0 c.1 })
    else Err Flat

abbrev pub in_system : ℕ → Option ℕ → List ℕ → Result SystemBox BoxMistake
in_system limit None text = Err NoSystem
in_system limit (Some system) text = box_of (system + 1) (corners_in limit text)

abbrev pub with_code : ℕ → Option (List ℕ × List ℕ) → List ℕ → Result SystemBox BoxMistake
with_code limit None text = box_of 0 (corners_in limit text)
with_code limit (Some parts) text = in_system limit (system_in parts.0) parts.1

-- two corners in a coordinate system, whose code a colon follows, or in the machine
abbrev pub box_in : ℕ → List ℕ → Result SystemBox BoxMistake
box_in limit text = with_code limit (split_first 58 text) text

-- ---- fixtures and material

abbrev pub fixture_of : List ℕ → Result SystemBox BoxMistake → Result AddedFixture BoxMistake
fixture_of name (Ok place) = Ok (record { name = name; place = place })
fixture_of name (Err mistake) = Err mistake

abbrev pub named : Option (List ℕ) → List ℕ → Result AddedFixture BoxMistake
named None text = Err NoName
named (Some name) text = fixture_of name (box_in CORNER_LIMIT text)

abbrev pub with_name : Option (List ℕ × List ℕ) → List ℕ → Result AddedFixture BoxMistake
with_name None text = fixture_of [] (box_in CORNER_LIMIT text)
with_name (Some parts) text = named (name_of parts.0) parts.1

-- a box whose name ends at the last equals sign, or one without a name
abbrev pub fixture_in : List ℕ → Result AddedFixture BoxMistake
fixture_in text = with_name (rsplit_once 61 text) text

-- with one more fixture
abbrev pub with_fixture : AddedBoxes → Result AddedFixture BoxMistake → Result AddedBoxes BoxMistake
with_fixture b (Ok f) =
    if nat_lt (length b.fixtures) MOST_ADDED
    then Ok (record b { fixtures = b.fixtures ++ f ∷ [] }) else Err TooMany
with_fixture b (Err mistake) = Err mistake

abbrev pub with_text : AddedBoxes → List ℕ → Result AddedBoxes BoxMistake
with_text b text = with_fixture b (fixture_in text)

abbrev pub and_text : Result AddedBoxes BoxMistake → List ℕ → Result AddedBoxes BoxMistake
and_text (Ok b) text = with_text b text
and_text (Err mistake) text = Err mistake

-- the fixtures that these texts write, in their order, or the first mistake
abbrev pub parsed_fixtures : List (List ℕ) → Result AddedBoxes BoxMistake
parsed_fixtures texts = fold and_text (Ok no_boxes) texts

abbrev pub stock_of : AddedBoxes → Result SystemBox BoxMistake → Result AddedBoxes BoxMistake
stock_of b (Ok place) =
    Ok (record b {
      stock = Some (record { system = place.system; low = place.low; high = place.high });
    })
stock_of b (Err mistake) = Err mistake

-- with the block of material that a text writes
abbrev pub with_stock : AddedBoxes → List ℕ → Result AddedBoxes BoxMistake
with_stock b text = stock_of b (box_in BLOCK_LIMIT text)

abbrev pub and_stock : Result AddedBoxes BoxMistake → Option (List ℕ) → Result AddedBoxes BoxMistake
and_stock (Ok b) None = Ok b
and_stock (Ok b) (Some text) = with_stock b text
and_stock (Err mistake) stock = Err mistake

-- what the values of both options add, or the first mistake
abbrev pub parsed_boxes : List (List ℕ) → Option (List ℕ) → Result AddedBoxes BoxMistake
parsed_boxes fixtures stock = and_stock (parsed_fixtures fixtures) stock
