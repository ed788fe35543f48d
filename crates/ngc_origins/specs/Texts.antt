-- An origin as an option writes it: a coordinate system and a place in millimetres, as
-- 54=60,40,-140, or with a unit, as G54=2.5, 1, -3 in. Our own.
use Rattle.std.specs.Prelude.{ℕ, ℤ, pos, ◌-ℤ◌, ◌==◌, ◌||◌, Bool, true, false, not, nat_le, List, []}
use Rattle.std.specs.Prelude.{◌∷◌, codes, fold, take, drop, slice_get, slice_set, Option}
use Rattle.std.specs.Prelude.{Some, None, Result, Ok, Err, replicate, if◌then◌else◌, unsigned_abs}
use Rattle.std.specs.List.{prefix_len}
use Rattle.std.specs.Str.{bytes_eq}
use Rattle.ngc_fixed_length.specs.declared.modes.System.{System}
use Rattle.ngc_fixed_length.specs.declared.modes.System.TheVariants as systems
use Rattle.ngc_fixed_length.specs.declared.points.Point3.{Point3}
use Rattle.ngc_machine_files.specs.Ranges.{NEAR_LIMIT}
use Rattle.ngc_machine_maker.specs.Decimals.{number_in, three_texts}
use Rattle.ngc_quantities.specs.Ranges.{place_of as written_in}
use Rattle.ngc_quantities.specs.declared.fault.Fault.{Fault}
use Rattle.ngc_quantities.specs.declared.range.Place.{Place}
use Rattle.ngc_origins.specs.declared.reading.OriginMistake.{OriginMistake}
use Rattle.ngc_origins.specs.declared.reading.OriginMistake.TheVariants.{NoSystem, NoPlace, Twice}

-- ---- a place

-- a size of at most 1000 mm, with at most six decimals, in nanometres
abbrev pub small : Option ℕ → Option ℕ
small None = None
small (Some n) = if nat_le n NEAR_LIMIT then Some n else None

abbrev pub size_in : List ℕ → Option ℕ
size_in text = small (number_in 6 text)

abbrev pub positive : Option ℕ → Option ℤ
positive None = None
positive (Some n) = Some (pos n)

abbrev pub negative : Option ℕ → Option ℤ
negative None = None
negative (Some n) = Some (pos 0 -ℤ pos n)

-- a size, or a minus sign and a size
abbrev pub signed : Bool → List ℕ → Option ℤ
signed true text = negative (size_in (drop 1 text))
signed false text = positive (size_in text)

abbrev pub begins_minus : List ℕ → Bool
begins_minus [] = false
begins_minus (b ∷ bs) = b == 45

abbrev pub coordinate_in : List ℕ → Option ℤ
coordinate_in text = signed (begins_minus text) text

abbrev pub place_of : Option ℤ → Option ℤ → Option ℤ → Option Point3
place_of (Some x) (Some y) (Some z) = Some (record { x = x; y = y; z = z })
place_of _ _ _ = None

-- three coordinates in millimetres, separated by commas
abbrev pub plain_place : List ℕ → Option Point3
plain_place text = place_of (coordinate_in (three_texts text).x) (coordinate_in (three_texts text).y)
    (coordinate_in (three_texts text).z)

-- a length of at most 1000 mm either way
abbrev pub near : ℤ → Option ℤ
near z = if nat_le (unsigned_abs z) NEAR_LIMIT then Some z else None

abbrev pub near_place : Place → Option Point3
near_place p = place_of (near p.x) (near p.y) (near p.z)

abbrev pub near_found : Result Place Fault → Option Point3
near_found (Ok p) = near_place p
near_found (Err fault) = None

-- three lengths as a machine file of version 3 has them
abbrev pub written_place : List ℕ → Option Point3
written_place text = near_found (written_in text)

abbrev pub or_place : Option Point3 → Option Point3 → Option Point3
or_place (Some p) other = Some p
or_place None other = other

abbrev pub place_in : List ℕ → Option Point3
place_in text = or_place (plain_place text) (written_place text)

-- ---- a coordinate system

-- a code without the G that it may begin with
abbrev pub begins_g : List ℕ → Bool
begins_g [] = false
begins_g (b ∷ bs) = (b == 71) || (b == 103)

abbrev pub number_of : List ℕ → List ℕ
number_of code = if begins_g code then drop 1 code else code

-- the position of a system among the nine of a machine file, by the number of its code
abbrev pub numbered : List ℕ → Option ℕ
numbered code =
    if bytes_eq code (codes "54") then Some 0 else
    if bytes_eq code (codes "55") then Some 1 else
    if bytes_eq code (codes "56") then Some 2 else
    if bytes_eq code (codes "57") then Some 3 else
    if bytes_eq code (codes "58") then Some 4 else
    if bytes_eq code (codes "59") then Some 5 else
    if bytes_eq code (codes "59.1") then Some 6 else
    if bytes_eq code (codes "59.2") then Some 7 else
    if bytes_eq code (codes "59.3") then Some 8 else None

abbrev pub system_in : List ℕ → Option ℕ
system_in code = numbered (number_of code)

-- ---- the texts of all options

abbrev pub is_no_equals : ℕ → Bool
is_no_equals b = not (b == 61)

-- the texts before and after the first equals sign; without one the second is empty
abbrev pub before_equals : List ℕ → List ℕ
before_equals text = take (prefix_len is_no_equals text) text

abbrev pub after_equals : List ℕ → List ℕ
after_equals text = drop 1 (drop (prefix_len is_no_equals text) text)

-- the origins of the nine systems that replace those of a machine file
abbrev pub OriginList : Type 0
OriginList = List (Option Point3)

abbrev pub no_origins : OriginList
no_origins = replicate 9 None

abbrev pub is_given : Option (Option Point3) → Bool
is_given (Some (Some place)) = true
is_given _ = false

-- the position of a system among the nine
abbrev pub position_of : System → ℕ
position_of systems.First = 0
position_of systems.Second = 1
position_of systems.Third = 2
position_of systems.Fourth = 3
position_of systems.Fifth = 4
position_of systems.Sixth = 5
position_of systems.Seventh = 6
position_of systems.Eighth = 7
position_of systems.Ninth = 8

abbrev pub replaces : OriginList → System → Bool
replaces origins system = is_given (slice_get origins (position_of system))

-- with one more origin, unless that of the system is replaced already
abbrev pub with_origin : OriginList → ℕ → Point3 → Result OriginList OriginMistake
with_origin origins system place =
    if is_given (slice_get origins system) then Err Twice
    else Ok (slice_set origins system (Some place))

abbrev pub with_place : OriginList → ℕ → Option Point3 → Result OriginList OriginMistake
with_place origins system None = Err NoPlace
with_place origins system (Some place) = with_origin origins system place

abbrev pub with_system : OriginList → Option ℕ → List ℕ → Result OriginList OriginMistake
with_system origins None text = Err NoSystem
with_system origins (Some system) text = with_place origins system (place_in (after_equals text))

-- with the origin that one more text writes
abbrev pub with_text : OriginList → List ℕ → Result OriginList OriginMistake
with_text origins text = with_system origins (system_in (before_equals text)) text

abbrev pub and_text : Result OriginList OriginMistake → List ℕ → Result OriginList OriginMistake
and_text (Ok origins) text = with_text origins text
and_text (Err mistake) text = Err mistake

-- the origins that these texts write, each for a system of its own, or the first mistake
abbrev pub parsed_origins : List (List ℕ) → Result OriginList OriginMistake
parsed_origins texts = fold and_text (Ok no_origins) texts
