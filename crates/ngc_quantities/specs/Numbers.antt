-- Numbers as people write them: 5, -12.5, +.5, 1/8, 1 1/2. Our own.
use Rattle.std.specs.Prelude.{ℕ, ◌+◌, ◌-◌, ◌*◌, ◌^◌, ◌==◌, ◌&&◌, ◌||◌, ◌≤◌, ◌<◌, nat_lt, nat_le, Bool, not}
use Rattle.std.specs.Prelude.{List, length, take, drop, fold, Result, Ok, Err, if◌then◌else◌}
use Rattle.std.specs.Char.{is_ascii_digit}
use Rattle.std.specs.List.{list_all, prefix_len}
use Rattle.ngc_quantities.specs.declared.fault.Cause.{Cause}
use Rattle.ngc_quantities.specs.declared.fault.Cause.TheVariants as causes
use Rattle.ngc_quantities.specs.declared.number.Number.{Number}
use Rattle.ngc_quantities.specs.declared.number.Ratio.{Ratio}
use Rattle.ngc_quantities.specs.Texts.{unblanked, first_word, after_word, begins, has, before, after}

-- the first refusal, or the next result for the value
abbrev pub and_then : {T U E : Type 0} → Result T E → (T → Result U E) → Result U E
and_then (Err refusal) f = Err refusal
and_then (Ok x) f = f x

-- ---- digits

-- the number that digits write
abbrev pub digits_value : List ℕ → ℕ
digits_value digits = fold (λ n d. 10 * n + (d - 48)) 0 digits

-- the number that a text of digits writes, which is less than 10^12; no digits write 0
unfoldable pub digits_in : List ℕ → Result ℕ Cause
digits_in text =
    if not (list_all is_ascii_digit text) then Err causes.NoNumber else (
    if nat_le 1000000000000 (digits_value text) then Err causes.ManyDigits
    else Ok (digits_value text))

-- the same, with at least one digit
abbrev pub some_digits_in : List ℕ → Result ℕ Cause
some_digits_in text = if length text == 0 then Err causes.NoNumber else digits_in text

-- ---- decimals

abbrev pub whole_digits : List ℕ → List ℕ
whole_digits text = take (prefix_len is_ascii_digit text) text

-- the rest: nothing, or a point and the decimals
abbrev pub after_whole : List ℕ → List ℕ
after_whole text = drop (prefix_len is_ascii_digit text) text

abbrev pub decimals : List ℕ → List ℕ
decimals text = drop 1 (after_whole text)

-- digits, with at most one point before, among or after them
abbrev pub is_decimal : List ℕ → Bool
is_decimal text =
    ((length (after_whole text) == 0) || begins 46 (after_whole text))
    && nat_lt 0 (length (whole_digits text) + length (decimals text))

-- a number with n decimals is a ratio over 10^n: 12.34 is 1234 / 100. n is at most 12
abbrev pub decimal_over : ℕ → List ℕ → Result Ratio Cause
decimal_over power text =
    and_then (digits_in (whole_digits text)) (λ whole.
    and_then (digits_in (decimals text)) (λ part.
    Ok (record { top = whole * power + part; bottom = power })))

unfoldable pub decimal_in : List ℕ → Result Ratio Cause
decimal_in text =
    if not (is_decimal text) then Err causes.NoNumber else (
    if nat_lt 12 (length (decimals text)) then Err causes.ManyDigits
    else decimal_over (10 ^ length (decimals text)) text)

-- ---- fractions

abbrev pub over : ℕ → ℕ → Result Ratio Cause
over top bottom =
    if bottom == 0 then Err causes.ZeroBelow else Ok (record { top = top; bottom = bottom })

-- 1/8: digits, a slash, digits
unfoldable pub fraction_in : List ℕ → Result Ratio Cause
fraction_in text =
    and_then (some_digits_in (before 47 text)) (λ top.
    and_then (some_digits_in (after 47 text)) (λ bottom.
    over top bottom))

-- 1 1/2: the whole number, and the fraction that is added to it
abbrev pub mixed_in : List ℕ → List ℕ → Result Ratio Cause
mixed_in first second =
    and_then (some_digits_in first) (λ whole.
    and_then (fraction_in second) (λ part.
    Ok (record { top = whole * part.bottom + part.top; bottom = part.bottom })))

-- ---- numbers with a sign

abbrev pub has_sign : List ℕ → Bool
has_sign text = begins 43 text || begins 45 text

abbrev pub unsigned : List ℕ → List ℕ
unsigned text = if has_sign text then drop 1 text else text

abbrev pub one_word : List ℕ → Result Ratio Cause
one_word word = if has 47 word then fraction_in word else decimal_in word

-- a word, and the text after it without blanks: nothing, or the fraction, and blanks at most
abbrev pub ratio_in : List ℕ → List ℕ → Result Ratio Cause
ratio_in word rest =
    if length rest == 0 then one_word word else (
    if not (length (unblanked (after_word rest)) == 0) then Err causes.NoNumber
    else mixed_in word (first_word rest))

-- a text that begins with no blank: a sign, and a number of one word or of two
unfoldable pub number_in : List ℕ → Result Number Cause
number_in text =
    and_then (ratio_in (unsigned (first_word text)) (unblanked (after_word text))) (λ ratio.
    Ok (record { negative = begins 45 text; ratio = ratio }))

-- what every ratio here is: its parts are not too large to multiply by a unit
pub record IsRatio (ratio : Ratio) : Type 0 where
  pub top : ratio.top ≤ 2000000000000000000000000
  pub some : 0 < ratio.bottom
  pub bottom : ratio.bottom ≤ 1000000000000
