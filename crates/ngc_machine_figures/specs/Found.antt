-- Tables without unknown keys. An unknown key is found before any other mistake of its table, since a
-- key that is misspelled is missing as well. Our own.
use Rattle.std.specs.Prelude.{ℕ, List, Bool, Option, Some, None, Result, Ok, Err, if◌then◌else◌}
use Rattle.std.specs.List.{list_any}
use Rattle.std.specs.Str.{bytes_eq}
use Rattle.toml.specs.Data.{Data, table, Members, no_members, member}
use Rattle.ngc_machine_figures.specs.declared.key.Key.{Key}
use Rattle.ngc_machine_figures.specs.declared.refusal.FileRefusal.{FileRefusal}
use Rattle.ngc_machine_figures.specs.declared.refusal.Wrong.TheVariants as wrongs
use Rattle.ngc_machine_figures.specs.Keys.{name_of}
use Rattle.ngc_machine_figures.specs.Near.{meant}
use Rattle.ngc_machine_figures.specs.Words.{key_word}

unfoldable pub is_known : List Key → List ℕ → Bool
is_known keys word = list_any (λ key. bytes_eq word (name_of key)) keys

-- the first key of a table that is none of these
abbrev pub first_unknown : List Key → Members → Option (List ℕ)
first_unknown keys no_members = None
first_unknown keys (member word value members) =
    if is_known keys word then first_unknown keys members else Some word

-- 40 bytes of it are kept
abbrev pub unknown : Key → List Key → List ℕ → FileRefusal
unknown key keys word =
    record { key = key; wrong = wrongs.Unknown (key_word word) (meant word keys) }

abbrev pub none_unknown : Key → List Key → Option (List ℕ) → Result (Unit {0}) FileRefusal
none_unknown key keys None = Ok tt
none_unknown key keys (Some word) = Err (unknown key keys word)

unfoldable pub known_in : Key → List Key → Members → Result (Unit {0}) FileRefusal
known_in key keys members = none_unknown key keys (first_unknown keys members)

-- a table, whose own key is the first one, with no keys but these
unfoldable pub only_known : Key → List Key → Data → Result (Unit {0}) FileRefusal
only_known key keys (table members) = known_in key keys members
only_known key keys _ = Err (record { key = key; wrong = wrongs.NoTable })
