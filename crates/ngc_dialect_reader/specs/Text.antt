-- The text of a line: what it says apart from white space, comments and the case of letters
-- (NISTIR 6556, 3.3: outside comments, spaces and tabs may be anywhere, even inside numbers, and the
-- case of letters does not matter). Our own: a carriage return is white space if it is the line's
-- last byte; ';' begins a comment up to the line's end; of a comment in parentheses its '(' stays, so
-- that it joins nothing.
use Rattle.std.specs.Prelude.{ℕ, ◌-◌, ◌+◌, List, [], ◌∷◌, ◌++◌, length, Option, Some, None, Bool}
use Rattle.std.specs.Prelude.{◌==◌, ◌&&◌, ◌||◌, nat_le, nat_lt, not, false, if◌then◌else◌}
use Rattle.std.specs.Option.{option_to_list, is_some}
use Rattle.ngc_dialect_reader.specs.declared.text.Place.{Place}
use Rattle.ngc_dialect_reader.specs.declared.text.Place.TheVariants.{Outside, InComment, InRemark}
use Rattle.ngc_dialect_reader.specs.declared.fault.Cause.{Cause}
use Rattle.ngc_dialect_reader.specs.declared.fault.Cause.TheVariants as causes
use Rattle.ngc_dialect_reader.specs.declared.fault.LineFault.{LineFault}

-- the place of the byte after b
abbrev pub place_after : Place → ℕ → Place
place_after Outside b = if b == 40 then InComment else (if b == 59 then InRemark else Outside)
place_after InComment b = if b == 41 then Outside else InComment
place_after InRemark b = InRemark

-- a space, a tab, or a carriage return that is the line's last byte
abbrev pub is_blank : ℕ → Bool → Bool
is_blank b last = (b == 32) || ((b == 9) || ((b == 13) && last))

abbrev pub upper : ℕ → ℕ
upper b = if nat_le 97 b && nat_le b 122 then b - 32 else b

-- the byte's part in the text
abbrev pub kept : Place → ℕ → Bool → Option ℕ
kept Outside b last = if is_blank b last || (b == 59) then None else Some (upper b)
kept InComment b last = None
kept InRemark b last = None

abbrev pub text_from : Place → List ℕ → List ℕ
text_from place [] = []
text_from place (b ∷ rest) =
    option_to_list (kept place b (length rest == 0)) ++ text_from (place_after place b) rest

-- the text of a line, without its line feed
abbrev pub text : List ℕ → List ℕ
text line = text_from Outside line

-- The column of the byte of the text with `left` bytes from it on; at the text's end, the column
-- after the line's last byte.
abbrev pub column_from : Place → ℕ → ℕ → List ℕ → ℕ
column_from place column left [] = column
column_from place column left (b ∷ rest) =
    if is_some (kept place b (length rest == 0)) && (length (text_from place (b ∷ rest)) == left)
    then column else column_from (place_after place b) (column + 1) left rest

abbrev pub column_in : List ℕ → ℕ → ℕ
column_in line left = column_from Outside 1 left line

-- why the line has no text

-- a byte below 32, or 127, that isn't white space
abbrev pub is_control : ℕ → Bool → Bool
is_control b last = (nat_lt b 32 || (b == 127)) && not (is_blank b last)

abbrev pub is_nested : Place → ℕ → Bool
is_nested Outside b = false
is_nested InComment b = b == 40
is_nested InRemark b = false

abbrev pub opened_after : Place → ℕ → ℕ → ℕ
opened_after Outside opened column = column
opened_after InComment opened column = opened
opened_after InRemark opened column = opened

abbrev pub end_fault : Bool → Place → ℕ → Option LineFault
end_fault closed Outside opened = None
end_fault closed InRemark opened = None
end_fault closed InComment opened =
    if closed then Some (record { cause = causes.CommentNotClosed; column = opened }) else None

-- The first fault from the left: a control character, a comment in a comment, or one that isn't
-- closed if it must be. `opened` is the column of the last byte outside comments.
abbrev pub text_fault : Bool → Place → ℕ → ℕ → List ℕ → Option LineFault
text_fault closed place opened column [] = end_fault closed place opened
text_fault closed place opened column (b ∷ rest) =
    if is_control b (length rest == 0)
    then Some (record { cause = causes.ControlCharacter; column = column }) else (
    if is_nested place b then Some (record { cause = causes.CommentInComment; column = column }) else
    text_fault closed (place_after place b) (opened_after place opened column) (column + 1) rest)

abbrev pub fault_in : Bool → List ℕ → Option LineFault
fault_in closed line = text_fault closed Outside 0 1 line
