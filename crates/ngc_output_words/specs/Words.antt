-- The words of a command line without `--out FILE`. Our own.
use Rattle.std.specs.Prelude.{◌≡◌, ℕ, List, [], ◌∷◌, ◌++◌, Bool, true, false, ◌&&◌, Option, Some, None, if◌then◌else◌}
use Rattle.std.specs.Prelude.{codes, drop, fold, length, take}
use Rattle.std.specs.Str.{bytes_eq}

abbrev pub Text : Type 0
Text = List ℕ

-- The words that a command reads, the files that `--out` names, and whether the word after `--out` is missing.
pub record Words : Type 0 where
  pub rest : List Text
  pub files : List Text
  pub is_open : Bool

abbrev pub begins_with : Text → Text → Bool
begins_with prefix word = bytes_eq (take (length prefix) word) prefix

abbrev pub is_adapt : List Text → Bool
is_adapt [] = false
is_adapt (command ∷ rest) = bytes_eq command (codes "adapt")

-- A word of `ngc adapt`, which knows `--dialect` as `--from`.
abbrev pub adapt_words : Text → List Text
adapt_words word =
    if bytes_eq word (codes "--dialect") then codes "--from" ∷ []
    else if begins_with (codes "--dialect=") word then codes "--from" ∷ drop 10 word ∷ []
    else word ∷ []

-- a word after others, as the command reads it
abbrev pub command_words : List Text → Text → List Text
command_words rest word = if is_adapt rest then adapt_words word else word ∷ []

abbrev pub with_word : Words → Text → Words
with_word words word =
    if words.is_open then record { rest = words.rest; files = words.files ++ word ∷ []; is_open = false }
    else if bytes_eq word (codes "--out") then record { rest = words.rest; files = words.files; is_open = true }
    else if begins_with (codes "--out=") word
    then record { rest = words.rest; files = words.files ++ drop 6 word ∷ []; is_open = false }
    else record { rest = words.rest ++ command_words words.rest word; files = words.files; is_open = false }

abbrev pub no_words : Words
no_words = record { rest = []; files = []; is_open = false }

-- the words of a command line
abbrev pub words_of : List Text → Words
words_of words = fold with_word no_words words

-- the file that `--out` names, once or not at all
abbrev pub IsFile : List Text → Option Text → Type 0
IsFile files None = files ≡ []
IsFile files (Some file) = files ≡ file ∷ []
