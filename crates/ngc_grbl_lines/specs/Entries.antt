-- What stands on a line that a terminal saved of a controller with Grbl. Grbl prints a setting as
-- $100=250.000, and a place as [G54:10.000,20.000,-5.000]. Terminals add blanks, comments after the
-- value, and a prefix such as a time or an arrow. Which of these are read is our own.
use Rattle.std.specs.Prelude.{ℕ, ◌==◌, ◌&&◌, ◌||◌, not, nat_lt, Bool, List, [], length, take, drop}
use Rattle.std.specs.Prelude.{◌∷◌, true, false, if◌then◌else◌}
use Rattle.std.specs.Char.{is_ascii_digit}
use Rattle.std.specs.List.{prefix_len}
use Rattle.ngc_grbl_lines.specs.Lines.{before, from, after, is_blank, without_blanks}

abbrev pub begins : ℕ → List ℕ → Bool
begins byte [] = false
begins byte (b ∷ rest) = b == byte

-- a line without its comment, which begins with ( or ;, or with # as the first byte of the line
unfoldable pub content : List ℕ → List ℕ
content line =
    if begins 35 (without_blanks line) then [] else before 40 (before 59 line)

-- ---- a setting: what stands before the first $ is a prefix

unfoldable pub after_dollar : List ℕ → List ℕ
after_dollar line = after 36 (content line)

abbrev pub digits : List ℕ → List ℕ
digits text = take (prefix_len is_ascii_digit text) text

-- from the equals sign on
unfoldable pub after_number : List ℕ → List ℕ
after_number line =
    without_blanks (drop (prefix_len is_ascii_digit (after_dollar line)) (after_dollar line))

-- the digits of a setting's number: none, if the line has no setting
unfoldable pub setting_number : List ℕ → List ℕ
setting_number line = if begins 61 (after_number line) then digits (after_dollar line) else []

-- up to a blank or the end of the line
abbrev pub is_of_word : ℕ → Bool
is_of_word b = not (is_blank b || ((b == 13) || (b == 10)))

abbrev pub word : List ℕ → List ℕ
word text = take (prefix_len is_of_word text) text

-- the value of a line's setting
unfoldable pub setting_value : List ℕ → List ℕ
setting_value line = word (without_blanks (drop 1 (after_number line)))

-- ---- a place, in brackets: one pair of brackets may precede it, as that of a time

-- G and a digit
abbrev pub is_place : List ℕ → Bool
is_place text = begins 71 text && nat_lt 0 (length (digits (drop 1 text)))

abbrev pub place_after : List ℕ → List ℕ
place_after text = if is_place text then text else []

-- what follows the first of these brackets, as G54:10.000,20.000,-5.000]
unfoldable pub place_text : List ℕ → List ℕ
place_text line =
    let text = after 91 (content line) in
    if is_place text then text else place_after (after 91 (after 93 text))

-- its name, as G54
unfoldable pub place_name : List ℕ → List ℕ
place_name line = before 58 (before 93 (place_text line))

-- its coordinates, as 10.000,20.000,-5.000: none, if the bracket isn't closed
unfoldable pub place_values : List ℕ → List ℕ
place_values line =
    let text = place_text line in
    if nat_lt 0 (length (from 93 text)) then after 58 (before 93 text) else []
