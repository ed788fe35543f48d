-- The text of a line: it does not depend on white space and the case of letters (NISTIR 6556, 3.3:
-- outside comments, spaces and tabs may be anywhere, even inside numbers, and the case of letters
-- does not matter). Our own: a carriage return is white space if it is the line's last byte, and
-- ';' outside parentheses begins a comment up to the line's end.
use Rattle.std.specs.Prelude.{ℕ, ◌-◌, ◌+◌, List, [], ◌∷◌, ◌++◌, length, Option, Some, None, Bool}
use Rattle.std.specs.Prelude.{◌==◌, ◌&&◌, ◌||◌, nat_le, slice_index, if◌then◌else◌}
use Rattle.std.specs.Option.{option_to_list, option_map}
use Rattle.ngc_line_reader.specs.declared.text.Place.{Place}
use Rattle.ngc_line_reader.specs.declared.text.Place.TheVariants.{Outside, InComment, InRemark}

-- the place of the byte after b: '(' opens a comment, ')' closes it, ';' begins a remark, which
-- nothing closes
abbrev pub place_after : Place → ℕ → Place
place_after Outside b = if b == 40 then InComment else (if b == 59 then InRemark else Outside)
place_after InComment b = if b == 41 then Outside else InComment
place_after InRemark b = InRemark

-- a space, a tab, or a carriage return that is the line's last byte
abbrev pub is_blank : ℕ → Bool → Bool
is_blank b last = (b == 32) || ((b == 9) || ((b == 13) && last))

abbrev pub upper : ℕ → ℕ
upper b = if nat_le 97 b && nat_le b 122 then b - 32 else b

-- the byte's part in the text: outside comments nothing for a blank, and letters in upper case;
-- inside comments every byte unchanged
abbrev pub kept : Place → ℕ → Bool → Option ℕ
kept Outside b last = if is_blank b last then None else Some (upper b)
kept InComment b last = Some b
kept InRemark b last = Some b

abbrev pub text_from : Place → List ℕ → List ℕ
text_from place [] = []
text_from place (b ∷ rest) =
    option_to_list (kept place b (length rest == 0)) ++ text_from (place_after place b) rest

-- the text of a line, without its line feed
abbrev pub text : List ℕ → List ℕ
text line = text_from Outside line

-- the column of each byte of the text, from this column on
abbrev pub columns_from : Place → ℕ → List ℕ → List ℕ
columns_from place column [] = []
columns_from place column (b ∷ rest) = option_to_list
    (option_map (λ (_ : ℕ). column) (kept place b (length rest == 0)))
    ++ columns_from (place_after place b) (column + 1) rest

-- the column, from 1, that each byte of a line's text has in the line
abbrev pub columns : List ℕ → List ℕ
columns line = columns_from Outside 1 line

-- the column of the byte of the text with `left` bytes from it on
abbrev pub place_in : List ℕ → ℕ → ℕ
place_in columns left = slice_index columns (length columns - left)
