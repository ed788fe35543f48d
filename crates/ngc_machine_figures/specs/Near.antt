-- Which key a word means: that with this name or another one, or that with nearly this name. Capitals
-- don't count. Our own.
use Rattle.std.specs.Prelude.{ℕ, ◌==◌, Bool, ◌||◌, List, find, Option, None, if◌then◌else◌}
use Rattle.std.specs.List.{count_by}
use Rattle.std.specs.Option.{option_or}
use Rattle.std.specs.Str.{str_eq_ignore_ascii_case}
use Rattle.ngc_quantities.specs.Near.{is_nearly}
use Rattle.ngc_machine_figures.specs.declared.key.Key.{Key}
use Rattle.ngc_machine_figures.specs.Keys.{name_of, other_name_of}

unfoldable pub is_called : List ℕ → Key → Bool
is_called word key =
    str_eq_ignore_ascii_case word (name_of key) || str_eq_ignore_ascii_case word (other_name_of key)

abbrev pub is_near : List ℕ → Key → Bool
is_near word key = is_nearly word (name_of key)

-- the one key that is near, or none if there are two
abbrev pub nearest : List ℕ → List Key → Option Key
nearest word keys =
    if count_by (is_near word) keys == 1 then find (is_near word) keys else None

-- the key of a table that a word means
unfoldable pub meant : List ℕ → List Key → Option Key
meant word keys = option_or (find (is_called word) keys) (nearest word keys)
