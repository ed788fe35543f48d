-- A text with one unit: blanks, a number, blanks, a unit and maybe a word, blanks. The number has no
-- bytes but digits, point, signs, slash and blanks, so it ends where the unit begins. Our own.
use Rattle.std.specs.Prelude.{ℕ, ◌+◌, ◌*◌, ◌/◌, ◌%◌, ◌==◌, ◌&&◌, ◌||◌, nat_lt, Bool, not, ℤ, pos, neg_ℤ, true, false}
use Rattle.std.specs.Prelude.{List, length, take, drop, Option, Some, None, Result, Ok, Err, if◌then◌else◌}
use Rattle.std.specs.Char.{is_ascii_digit}
use Rattle.std.specs.List.{prefix_len}
use Rattle.std.specs.Str.{bytes_eq}
use Rattle.ngc_quantities.specs.declared.fault.Cause.{Cause}
use Rattle.ngc_quantities.specs.declared.fault.Cause.TheVariants as causes
use Rattle.ngc_quantities.specs.declared.fault.Fault.{Fault}
use Rattle.ngc_quantities.specs.declared.unit.Ending.{Ending}
use Rattle.ngc_quantities.specs.declared.unit.Kind.{Kind}
use Rattle.ngc_quantities.specs.declared.unit.Unit.{Unit}
use Rattle.ngc_quantities.specs.declared.unit.TheConstants as tables
use Rattle.ngc_quantities.specs.declared.written.Wanted.{Wanted}
use Rattle.ngc_quantities.specs.declared.written.Written.{Written}
use Rattle.ngc_quantities.specs.declared.written.Whole.{Whole}
use Rattle.ngc_quantities.specs.Numbers.{and_then, number_in}
use Rattle.ngc_quantities.specs.Texts.{is_blank, unblanked, first_word, after_word, begins, has}
use Rattle.ngc_quantities.specs.Near.{meant}
use Rattle.ngc_quantities.specs.Units.{units_of, size_of, most_of, is_inch, named, ending_text}

abbrev pub fault : {T : Type 0} → ℕ → Cause → Result T Fault
fault column cause = Err (record { column = column; cause = cause })

-- a result whose refusal gets a column
abbrev pub placed : {T : Type 0} → ℕ → Result T Cause → Result T Fault
placed column (Ok x) = Ok x
placed column (Err cause) = fault column cause

-- ---- the parts of the text

abbrev pub is_sign : ℕ → Bool
is_sign b = (b == 43) || (b == 45)

abbrev pub is_of_number : ℕ → Bool
is_of_number b =
    is_ascii_digit b || (is_blank b || (is_sign b || ((b == 46) || (b == 47))))

abbrev pub number_length : List ℕ → ℕ
number_length text = prefix_len is_of_number text

abbrev pub number_text : List ℕ → List ℕ
number_text text = unblanked (take (number_length text) text)

abbrev pub unit_text : List ℕ → List ℕ
unit_text text = drop (number_length text) text

-- ---- the unit, with the kind that is wanted, and the unit that counts if there is none

abbrev pub unit_missing : Kind → Option Unit → Result Unit Cause
unit_missing kind None = Err (causes.NoUnit kind)
unit_missing kind (Some unit) = Ok unit

abbrev pub unit_unknown : Kind → List ℕ → Option Unit → Result Unit Cause
unit_unknown kind word (Some unit) = Err (causes.OtherKind kind unit)
unit_unknown kind word None = Err (causes.UnknownUnit kind (meant word (units_of kind)))

abbrev pub unit_found : Kind → List ℕ → Option Unit → Result Unit Cause
unit_found kind word (Some unit) = Ok unit
unit_found kind word None = unit_unknown kind word (named word tables.ALL)

unfoldable pub unit_in : Kind → Option Unit → List ℕ → Result Unit Cause
unit_in kind otherwise word =
    if length word == 0 then unit_missing kind otherwise else (
    if begins 44 word then Err causes.Comma
    else unit_found kind word (named word (units_of kind)))

-- a fraction is of inches
abbrev pub fraction_of : Bool → Unit → Result Unit Cause
fraction_of is_fraction unit =
    if is_fraction && not (is_inch unit) then Err causes.FractionUnit else Ok unit

-- after the unit is the word, or nothing if it has no bytes
abbrev pub ends_with : List ℕ → List ℕ → Bool
ends_with word rest =
    bytes_eq (first_word (unblanked rest)) word
    && (length (unblanked (after_word (unblanked rest))) == 0)

abbrev pub ending_in : Ending → List ℕ → Result Ending Cause
ending_in ending rest =
    if ends_with (ending_text ending) rest then Ok ending else Err (causes.OtherEnding ending)

-- ---- the text, whose first byte is in column at + 1

abbrev pub number_column : ℕ → List ℕ → ℕ
number_column at text = at + prefix_len is_blank text + 1

abbrev pub unit_column : ℕ → List ℕ → ℕ
unit_column at text = at + number_length text + 1

abbrev pub ending_column : ℕ → List ℕ → ℕ
ending_column at text = unit_column at text + length (first_word (unit_text text))

unfoldable pub written_in : Wanted → ℕ → List ℕ → Result Written Fault
written_in wanted at text =
    and_then (placed (number_column at text) (number_in (number_text text))) (λ number.
    and_then (placed (unit_column at text) (unit_in wanted.kind wanted.otherwise (first_word (unit_text text)))) (λ unit.
    and_then (placed (unit_column at text) (fraction_of (has 47 (number_text text)) unit)) (λ _.
    and_then (placed (ending_column at text) (ending_in wanted.ending (after_word (unit_text text)))) (λ _.
    Ok (record { number = number; unit = unit; column = number_column at text })))))

-- ---- whole numbers of base units

abbrev pub signed : Bool → ℕ → ℤ
signed true n = neg_ℤ (pos n)
signed false n = pos n

-- the whole numbers next to a ratio between them, the lower first
abbrev pub between : Bool → ℕ → Cause
between true n = causes.Between (signed true (n + 1)) (signed true n)
between false n = causes.Between (signed false n) (signed false (n + 1))

-- an amount is its number times its unit
abbrev pub amount_of : Bool → ℕ → ℕ → Result ℤ Cause
amount_of negative top bottom =
    if not (top % bottom == 0) then Err (between negative (top / bottom))
    else Ok (signed negative (top / bottom))

unfoldable pub whole_of : Kind → Written → Result ℤ Cause
whole_of kind w =
    if nat_lt (most_of kind * w.number.ratio.bottom) (w.number.ratio.top * size_of w.unit)
    then Err (causes.TooLarge kind)
    else amount_of w.number.negative (w.number.ratio.top * size_of w.unit) w.number.ratio.bottom

-- the amount, its unit, and where it begins
unfoldable pub whole_in : Wanted → ℕ → List ℕ → Result Whole Fault
whole_in wanted at text =
    and_then (written_in wanted at text) (λ w.
    and_then (placed w.column (whole_of wanted.kind w)) (λ amount.
    Ok (record { amount = amount; unit = Some w.unit; column = w.column })))
