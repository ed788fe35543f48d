-- Two quantities with "to" between them, and three with commas. If an earlier one has no unit, the
-- unit of the last one counts, unless that is a sum of terms with different units. Our own.
use Rattle.std.specs.Prelude.{ℕ, nat_eq, pos, int_lt, ◌+◌, List, take, drop, codes, None, Result, Ok}
use Rattle.std.specs.Prelude.{Bool, if◌then◌else◌}
use Rattle.std.specs.List.{starts_with}
use Rattle.ngc_quantities.specs.declared.fault.Cause.TheVariants as causes
use Rattle.ngc_quantities.specs.declared.fault.Fault.{Fault}
use Rattle.ngc_quantities.specs.declared.range.Place.{Place}
use Rattle.ngc_quantities.specs.declared.range.Range.{Range}
use Rattle.ngc_quantities.specs.declared.unit.Kind.{Kind}
use Rattle.ngc_quantities.specs.declared.unit.Kind.TheVariants as kinds
use Rattle.ngc_quantities.specs.declared.written.Whole.{Whole}
use Rattle.ngc_quantities.specs.Numbers.{and_then}
use Rattle.ngc_quantities.specs.Quantities.{short_length, amount_in}
use Rattle.ngc_quantities.specs.Texts.{mark_index, after_index, before, after}
use Rattle.ngc_quantities.specs.Written.{fault}

-- ---- ranges: no unit of a range has a t in its name, so "to" is at the first t

abbrev pub to_index : List ℕ → Result ℕ Fault
to_index text =
    let index = mark_index 116 text in
    if starts_with nat_eq (drop index text) (codes "to") then Ok index else fault (index + 1) causes.NoTo

-- from the low end to the high end, which isn't below it
abbrev pub range_between : Whole → Whole → Result Range Fault
range_between low high =
    if int_lt high.amount low.amount then fault high.column causes.Reversed
    else Ok (record { low = low.amount; high = high.amount })

-- the high end is read first, for its unit
abbrev pub range_of : Kind → List ℕ → Result Range Fault
range_of kind text =
    and_then (short_length text) (λ _.
    and_then (to_index text) (λ index.
    and_then (amount_in kind None (index + 2) (drop (index + 2) text)) (λ high.
    and_then (amount_in kind high.unit 0 (take index text)) (λ low.
    range_between low high))))

abbrev pub length_range_of : List ℕ → Result Range Fault
length_range_of text = range_of kinds.Length text

abbrev pub speed_range_of : List ℕ → Result Range Fault
speed_range_of text = range_of kinds.Speed text

abbrev pub turning_range_of : List ℕ → Result Range Fault
turning_range_of text = range_of kinds.Turning text

-- ---- limits: a range, or from 0 up to one quantity

abbrev pub has_to : List ℕ → Bool
has_to text = starts_with nat_eq (drop (mark_index 116 text) text) (codes "to")

abbrev pub up_to : Kind → List ℕ → Result Range Fault
up_to kind text =
    and_then (short_length text) (λ _.
    and_then (amount_in kind None 0 text) (λ most.
    Ok (record { low = pos 0; high = most.amount })))

abbrev pub limits_of : Kind → List ℕ → Result Range Fault
limits_of kind text = if has_to text then range_of kind text else up_to kind text

abbrev pub speed_limits_of : List ℕ → Result Range Fault
speed_limits_of text = limits_of kinds.Speed text

abbrev pub turning_limits_of : List ℕ → Result Range Fault
turning_limits_of text = limits_of kinds.Turning text

-- ---- places: X, Y and Z

abbrev pub place_by : ℕ → List ℕ → List ℕ → ℕ → List ℕ → Result Place Fault
place_by at_y x y at_z z =
    and_then (amount_in kinds.Length None at_z z) (λ z.
    and_then (amount_in kinds.Length z.unit 0 x) (λ x.
    and_then (amount_in kinds.Length z.unit at_y y) (λ y.
    Ok (record { x = x.amount; y = y.amount; z = z.amount }))))

abbrev pub place_of : List ℕ → Result Place Fault
place_of text =
    let rest = after 44 text in
    and_then (short_length text) (λ _.
    place_by (after_index text) (before 44 text) (before 44 rest)
    (after_index text + after_index rest) (after 44 rest))
