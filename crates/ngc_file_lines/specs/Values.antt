-- The value of a key on its line. Our own.
use Rattle.std.specs.Prelude.{ℕ, ◌+◌, ◌-◌, ◌==◌, nat_lt, List, length, take, drop, Bool, not, Option, Some, None, [], ◌∷◌, false}
use Rattle.std.specs.Prelude.{◌&&◌, ◌||◌, if◌then◌else◌}
use Rattle.std.specs.List.{prefix_len}
use Rattle.ngc_file_lines.specs.declared.value.Value.{Value}
use Rattle.ngc_file_lines.specs.Lines.{unindented, begins, gives}

-- the line after its key
abbrev pub after_key : List ℕ → List ℕ → List ℕ
after_key key line = drop (length key) (unindented line)

-- the line from the value on
abbrev pub value_of : List ℕ → List ℕ → List ℕ
value_of key line = unindented (drop 1 (unindented (after_key key line)))

-- the column, from 1, in which a rest of a line begins
abbrev pub column_of : List ℕ → List ℕ → ℕ
column_of rest line = length line - length rest + 1

-- the column of the value, and the line from there on, if the line begins with the key and `=`
abbrev pub value_in : List ℕ → List ℕ → Option (ℕ × List ℕ)
value_in key line =
    if gives key line && begins (61 ∷ []) (after_key key line)
    then Some (column_of (value_of key line) line, value_of key line) else None

abbrev pub is_other : ℕ → ℕ → Bool
is_other mark b = not (b == mark)

-- from a mark through the next one
abbrev pub through : ℕ → List ℕ → List ℕ
through mark value = take (2 + prefix_len (is_other mark) (drop 1 value)) value

-- no blank, no control character, and no mark of a comment
abbrev pub is_bare : ℕ → Bool
is_bare b = nat_lt 32 b && not (b == 35)

abbrev pub starts : ℕ → List ℕ → Bool
starts mark [] = false
starts mark (b ∷ rest) = b == mark

-- three quotation marks, which begin a text of several lines
abbrev pub is_long : List ℕ → Bool
is_long (a ∷ b ∷ c ∷ rest) = (a == 34 || a == 39) && (b == a && c == a)
is_long _ = false

-- the value as it is written: a text from its quotation mark through the next one, and any other
-- value up to a blank or a comment. Of a text of several lines it is empty
abbrev pub token : List ℕ → List ℕ
token value =
    if is_long value then [] else (
    if starts 34 value then through 34 value else (
    if starts 39 value then through 39 value
    else take (prefix_len is_bare value) value))

abbrev pub placed : Value → ℕ × List ℕ
placed value = (value.column, value.text.now)
