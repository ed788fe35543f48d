-- The words of a command line. Our own.
use Rattle.std.specs.Prelude.{ℕ, ◌==◌, List, [], ◌∷◌, ◌++◌, length, take, drop, codes}
use Rattle.std.specs.Prelude.{Option, Some, None, option_and_then, is_some, unwrap_or}
use Rattle.std.specs.Prelude.{Bool, true, false, not, ◌&&◌, ◌||◌, if◌then◌else◌}
use Rattle.std.specs.List.{list_any}
use Rattle.std.specs.Str.{bytes_eq}
use Rattle.ngc_job_words.specs.Commands.{Text}

abbrev pub begins_with : Text → Text → Bool
begins_with prefix word = bytes_eq (take (length prefix) word) prefix

-- what is after a prefix
abbrev pub after : Text → Text → Option Text
after prefix word = if begins_with prefix word then Some (drop (length prefix) word) else None

-- the value of an option in the same word, as in --machine=mill.toml
abbrev pub value_in : Text → Text → Option Text
value_in name word = option_and_then (after (codes "=")) (after name word)

-- a word is an option, by itself or with its value
abbrev pub is_option : Text → Text → Bool
is_option name word = bytes_eq word name || is_some (value_in name word)

abbrev pub has : Text → List Text → Bool
has name words = list_any (is_option name) words

abbrev pub with_some : Option Text → List Text → List Text
with_some None values = values
with_some (Some value) values = value ∷ values

-- the values of an option: each is in the option's word, or it is the next word. `is_open` says that the
-- first word is one
abbrev pub values_from : Bool → Text → List Text → List Text
values_from is_open name [] = []
values_from true name (word ∷ words) = word ∷ values_from false name words
values_from false name (word ∷ words) =
    if bytes_eq word name then values_from true name words
    else with_some (value_in name word) (values_from false name words)

abbrev pub values_of : Text → List Text → List Text
values_of name words = values_from false name words

-- ---- a word that is no option

-- the options without a value
abbrev pub is_flag : Text → Bool
is_flag word =
    bytes_eq word (codes "--delete") || bytes_eq word (codes "--all")
    || bytes_eq word (codes "--json") || bytes_eq word (codes "--bodies")
    || bytes_eq word (codes "--whole") || bytes_eq word (codes "--map")
    || bytes_eq word (codes "--warnings") || bytes_eq word (codes "--feed-ring")
    || bytes_eq word (codes "--abort")

abbrev pub is_equals : ℕ → Bool
is_equals b = b == 61

-- the next word is the value of this one
abbrev pub takes_value : Text → Bool
takes_value word = begins_with (codes "--") word && not (list_any is_equals word) && not (is_flag word)

-- of a word that is no value; 45 is a minus sign
abbrev pub is_plain : Text → Bool
is_plain [] = false
is_plain (b ∷ rest) = not (b == 45)
