-- Sums of lengths: 60 mm + 12.5 mm, -140 mm + 1/2 in. Each term is a whole number of nanometres. Our own.
use Rattle.std.specs.Prelude.{ℕ, zero, suc, ℤ, ◌+◌, ◌==◌, ◌&&◌, Bool, true, false, nat_lt, ◌+ℤ◌, ◌-ℤ◌, unsigned_abs}
use Rattle.std.specs.Prelude.{List, [], ◌∷◌, length, take, drop, slice_index, Option, Some, None, Result, Ok, if◌then◌else◌}
use Rattle.std.specs.Prelude.{◌-◌, ◌||◌, not}
use Rattle.std.specs.Char.{is_ascii_alphabetic}
use Rattle.std.specs.List.{prefix_len}
use Rattle.ngc_quantities.specs.declared.fault.Cause.TheVariants as causes
use Rattle.ngc_quantities.specs.declared.fault.Fault.{Fault}
use Rattle.ngc_quantities.specs.declared.unit.Ending.TheVariants as endings
use Rattle.ngc_quantities.specs.declared.unit.Kind.TheVariants as kinds
use Rattle.ngc_quantities.specs.declared.unit.Unit.{Unit}
use Rattle.ngc_quantities.specs.declared.written.Whole.{Whole}
use Rattle.ngc_quantities.specs.Numbers.{and_then, has_sign}
use Rattle.ngc_quantities.specs.Texts.{is_blank, unblanked}
use Rattle.ngc_quantities.specs.Units.{most_of, size_of}
use Rattle.ngc_quantities.specs.Written.{fault, is_sign, number_column, whole_in}

-- ---- operators: a plus or a minus with a blank on each side

-- whether a text begins with an operator and the blanks next to it
abbrev pub begins_operator : List ℕ → Bool
begins_operator (before ∷ sign ∷ after ∷ _) = is_blank before && (is_sign sign && is_blank after)
begins_operator _ = false

-- the index of the last operator, or 0 if there is none. None is at index 0
unfoldable pub last_operator : List ℕ → ℕ
last_operator [] = 0
last_operator (b ∷ rest) =
    let later = last_operator rest in
    if nat_lt 0 later then suc later else (
    if begins_operator (b ∷ rest) then 1 else 0)

-- ---- signs between two lengths that are no operators: -92.7 +12.7 mm, 20 mm+16 mm

-- what is before such a sign: a blank, or a letter of the first length's unit. So 1-1/2 in is no difference
abbrev pub ends_length : ℕ → Bool
ends_length b = is_blank b || is_ascii_alphabetic b

abbrev pub is_no_sign : ℕ → Bool
is_no_sign b = not (is_sign b)

-- the index of the first sign after the first byte; if there is none, it is at least the length
abbrev pub sign_index : List ℕ → ℕ
sign_index text = suc (prefix_len is_no_sign (drop 1 text))

abbrev pub loose_sign : List ℕ → Option ℕ
loose_sign text =
    if nat_lt (sign_index text) (length text) && ends_length (slice_index text (sign_index text - 1))
    then Some (sign_index text) else None

-- ---- terms

-- a length without operators and without a sign at this index. If it has no unit, the other unit counts
unfoldable pub term_by : Option ℕ → Option Unit → ℕ → List ℕ → Result Whole Fault
term_by (Some index) otherwise at text = fault (number_column at text + index) causes.NoBlanks
term_by None otherwise at text =
    whole_in (record { kind = kinds.Length; otherwise = otherwise; ending = endings.Nothing }) at text

unfoldable pub term_in : Option Unit → ℕ → List ℕ → Result Whole Fault
term_in otherwise at text = term_by (loose_sign (unblanked text)) otherwise at text

-- one after an operator, which has no sign of its own
unfoldable pub later_term : Option Unit → ℕ → List ℕ → Result Whole Fault
later_term otherwise at text =
    if has_sign (unblanked text) then fault (number_column at text) causes.NoNumber
    else term_in otherwise at text

-- ---- sums

-- the unit of both, or none
abbrev pub same_unit : Unit → Unit → Option Unit
same_unit first last = if size_of first == size_of last then Some first else None

abbrev pub common : Option Unit → Option Unit → Option Unit
common (Some first) (Some last) = same_unit first last
common _ _ = None

-- the amount of what is before an operator, with the term after it added or subtracted
abbrev pub joined_amount : Bool → Whole → Whole → ℤ
joined_amount true first last = first.amount -ℤ last.amount
joined_amount false first last = first.amount +ℤ last.amount

abbrev pub is_minus_at : ℕ → List ℕ → Bool
is_minus_at index text = slice_index text index == 45

abbrev pub joined : Bool → Whole → Whole → Whole
joined is_minus first last =
    record {
      amount = joined_amount is_minus first last;
      unit = common first.unit last.unit;
      column = first.column;
    }

-- A sum is a term, or a sum, an operator and a term. A term without a unit has that of the next term with
-- one, and if there is none the other unit: so the last term is read first. n is at least the number of
-- operators
unfoldable pub sum_by : ℕ → Option Unit → ℕ → List ℕ → Result Whole Fault
sum_by zero otherwise at text = term_in otherwise at text
sum_by (suc n) otherwise at text =
    let index = last_operator text in
    if index == 0 then term_in otherwise at text else (
    and_then (later_term otherwise (at + (index + 1)) (drop (index + 1) text)) (λ last.
    and_then (sum_by n last.unit at (take index text)) (λ first.
    Ok (joined (is_minus_at index text) first last))))

-- a sum is at most the greatest length, and so is each term
abbrev pub not_too_large : Whole → Result Whole Fault
not_too_large sum =
    if nat_lt (most_of kinds.Length) (unsigned_abs sum.amount)
    then fault sum.column (causes.TooLarge kinds.Length)
    else Ok sum

unfoldable pub sum_in : Option Unit → ℕ → List ℕ → Result Whole Fault
sum_in otherwise at text = and_then (sum_by (length text) otherwise at text) not_too_large
