-- The line that says what a job file added, as
-- ngc: plate/ngc.toml adds --machine=plate/../mill.toml --dialect=mach3
-- Our own.
use Rattle.std.specs.Prelude.{ℕ, ◌==◌, List, [], ◌∷◌, ◌++◌, codes, Bool, if◌then◌else◌}
use Rattle.std.specs.List.{list_any}
use Rattle.ngc_text.specs.Shown.{shown_text}

abbrev pub is_blank : ℕ → Bool
is_blank b = b == 32

abbrev pub mark_of : List ℕ → List ℕ
mark_of word = if list_any is_blank word then codes "\"" else []

-- a word after a blank, in quotation marks if it has a blank of its own
abbrev pub word_text : List ℕ → List ℕ
word_text word = codes " " ++ mark_of word ++ shown_text word ++ mark_of word

abbrev pub words_text : List (List ℕ) → List ℕ
words_text [] = []
words_text (word ∷ words) = word_text word ++ words_text words

abbrev pub line_text : List ℕ → List (List ℕ) → List ℕ
line_text name added = codes "ngc: " ++ shown_text name ++ codes " adds" ++ words_text added ++ codes "\n"

abbrev pub note_text : List ℕ → List (List ℕ) → List ℕ
note_text name [] = []
note_text name (word ∷ words) = line_text name (word ∷ words)
