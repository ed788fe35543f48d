-- Numbers in options and settings: digits, with at most one point among them, as 188.976.
use Rattle.std.specs.Prelude.{ℕ, ◌+◌, ◌-◌, ◌*◌, ◌^◌, ◌==◌, ◌&&◌, ◌||◌, nat_lt, nat_le, Bool, not}
use Rattle.std.specs.Prelude.{List, length, take, drop, slice_index, fold, Option, Some, None}
use Rattle.std.specs.Prelude.{if◌then◌else◌}
use Rattle.std.specs.Char.{is_ascii_digit}
use Rattle.std.specs.List.{list_all, prefix_len}
use Rattle.ngc_machine_maker.specs.declared.figures.PerAxis.{PerAxis}

abbrev pub begins : ℕ → List ℕ → Bool
begins byte text = nat_lt 0 (length text) && (slice_index text 0 == byte)

-- the digits before the point
abbrev pub whole_digits : List ℕ → List ℕ
whole_digits text = take (prefix_len is_ascii_digit text) text

-- the rest: nothing, or a point and the decimals
abbrev pub after_whole : List ℕ → List ℕ
after_whole text = drop (prefix_len is_ascii_digit text) text

abbrev pub decimals : List ℕ → List ℕ
decimals text = drop 1 (after_whole text)

-- a text that is a number with at most `places` decimals
abbrev pub is_number : ℕ → List ℕ → Bool
is_number places text =
    ((length (after_whole text) == 0) || begins 46 (after_whole text))
    && (list_all is_ascii_digit (decimals text)
    && (nat_le (length (decimals text)) places
    && nat_lt 0 (length (whole_digits text) + length (decimals text))))

-- the number that digits write
abbrev pub digits_value : List ℕ → ℕ
digits_value digits = fold (λ n d. 10 * n + (d - 48)) 0 digits

-- the number in units of which 10 ^ places make one, as 188976 of 188.976 for 3 places
abbrev pub value_in : ℕ → List ℕ → ℕ
value_in places text =
    digits_value (whole_digits text) * 10 ^ places
    + digits_value (decimals text) * 10 ^ (places - length (decimals text))

-- the number, if it is less than 2 ^ 32 such units
unfoldable pub number_in : ℕ → List ℕ → Option ℕ
number_in places text =
    if is_number places text && nat_lt (value_in places text) 4294967296
    then Some (value_in places text) else None

-- ---- three numbers, separated by commas

abbrev pub is_no_comma : ℕ → Bool
is_no_comma b = not (b == 44)

abbrev pub before_comma : List ℕ → List ℕ
before_comma text = take (prefix_len is_no_comma text) text

abbrev pub after_comma : List ℕ → List ℕ
after_comma text = drop 1 (drop (prefix_len is_no_comma text) text)

-- the texts of the three axes; without a comma the texts after it are empty
abbrev pub three_texts : List ℕ → PerAxis (List ℕ)
three_texts text =
    record {
      x = before_comma text;
      y = before_comma (after_comma text);
      z = after_comma (after_comma text);
    }

abbrev pub three_by : {T : Type 0} → Option T → Option T → Option T → Option (PerAxis T)
three_by (Some x) (Some y) (Some z) = Some (record { x = x; y = y; z = z })
three_by _ _ _ = None

abbrev pub numbers_in : ℕ → List ℕ → Option (PerAxis ℕ)
numbers_in places text =
    three_by (number_in places (three_texts text).x) (number_in places (three_texts text).y)
    (number_in places (three_texts text).z)
