-- The words after a command: which are values, which is the file of --job, and which may be the program.
-- A place is a word's number, from 0. Our own.
use Rattle.std.specs.Prelude.{ℕ, zero, suc, List, [], ◌∷◌, ◌++◌, length, get_or, codes, Option, None, is_some}
use Rattle.std.specs.Prelude.{Bool, false, not, ◌&&◌, ◌||◌, if◌then◌else◌}
use Rattle.std.specs.Str.{bytes_eq}
use Rattle.ngc_job_words.specs.Commands.{Text}
use Rattle.ngc_job_words.specs.Words.{is_plain, takes_value, value_in, with_some}

-- the word at a place, and nothing after the last one
abbrev pub word_at : List Text → ℕ → Text
word_at words i = get_or words i []

-- the word at this place is the value of the option before it
abbrev pub is_value : List Text → ℕ → Bool
is_value words zero = false
is_value words (suc i) = not (is_value words i) && takes_value (word_at words i)

-- --job is at this place, and its file is the next word
abbrev pub is_job : List Text → ℕ → Bool
is_job words i = not (is_value words i) && bytes_eq (word_at words i) (codes "--job")

-- the word at this place is the file of the --job before it
abbrev pub is_file : List Text → ℕ → Bool
is_file words zero = false
is_file words (suc i) = is_job words i

-- the file in the word at this place, as in --job=plate.toml
abbrev pub file_in : List Text → ℕ → Option Text
file_in words i = if is_value words i then None else value_in (codes "--job") (word_at words i)

abbrev pub is_of_job : List Text → ℕ → Bool
is_of_job words i = is_job words i || is_file words i || is_some (file_in words i)

-- the word at this place is no option, and no value of one
abbrev pub is_plain_at : List Text → ℕ → Bool
is_plain_at words i = not (is_value words i) && is_plain (word_at words i)

-- ---- lists of words

-- what f makes of each place before this one
abbrev pub before : (ℕ → List Text) → ℕ → List Text
before f zero = []
before f (suc i) = before f i ++ f i

abbrev pub at_all : (List Text → ℕ → List Text) → List Text → List Text
at_all f words = before (f words) (length words)

abbrev pub plain_at : List Text → ℕ → List Text
plain_at words i = if is_plain_at words i then word_at words i ∷ [] else []

abbrev pub file_at : List Text → ℕ → List Text
file_at words i = if is_file words i then word_at words i ∷ [] else with_some (file_in words i) []

abbrev pub kept_at : List Text → ℕ → List Text
kept_at words i = if is_of_job words i then [] else word_at words i ∷ []

abbrev pub named_at : List Text → ℕ → List Text
named_at words i =
    if is_plain_at words i then codes "--program" ∷ word_at words i ∷ [] else kept_at words i

-- the words that are no options, and no values of one
abbrev pub plain_words : List Text → List Text
plain_words words = at_all plain_at words

-- the files of --job
abbrev pub job_files : List Text → List Text
job_files words = at_all file_at words

-- the last word is --job, without its file
abbrev pub lacks_file : List Text → Bool
lacks_file words = is_file words (length words)

-- the words without --job and its files
abbrev pub kept_words : List Text → List Text
kept_words words = at_all kept_at words

-- these, with --program before each plain word
abbrev pub named_words : List Text → List Text
named_words words = at_all named_at words
