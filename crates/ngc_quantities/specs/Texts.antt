-- Parts of a text. Our own.
use Rattle.std.specs.Prelude.{ℕ, ◌+◌, min, ◌==◌, ◌||◌, Bool, not, nat_lt, List, length, take, drop}
use Rattle.std.specs.Prelude.{slice_index, ◌&&◌}
use Rattle.std.specs.List.{prefix_len}

-- a space or a tab
abbrev pub is_blank : ℕ → Bool
is_blank b = (b == 32) || (b == 9)

abbrev pub is_of_word : ℕ → Bool
is_of_word b = not (is_blank b)

-- a text without the blanks at its beginning
abbrev pub unblanked : List ℕ → List ℕ
unblanked text = drop (prefix_len is_blank text) text

-- the bytes before the first blank, and those from it on
abbrev pub first_word : List ℕ → List ℕ
first_word text = take (prefix_len is_of_word text) text

abbrev pub after_word : List ℕ → List ℕ
after_word text = drop (prefix_len is_of_word text) text

abbrev pub begins : ℕ → List ℕ → Bool
begins byte text = nat_lt 0 (length text) && (slice_index text 0 == byte)

abbrev pub is_other : ℕ → ℕ → Bool
is_other mark b = not (b == mark)

-- the number of bytes before the first mark, which is all of them if there is none
abbrev pub mark_index : ℕ → List ℕ → ℕ
mark_index mark text = prefix_len (is_other mark) text

abbrev pub has : ℕ → List ℕ → Bool
has mark text = nat_lt (mark_index mark text) (length text)

abbrev pub before : ℕ → List ℕ → List ℕ
before mark text = take (mark_index mark text) text

abbrev pub after : ℕ → List ℕ → List ℕ
after mark text = drop 1 (drop (mark_index mark text) text)

-- the index of the text after the first comma, or of the end
abbrev pub after_index : List ℕ → ℕ
after_index text = min (mark_index 44 text + 1) (length text)
