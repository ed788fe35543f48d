-- When a word is nearly a name: by one letter more, less or other, or by two neighbours in each other's
-- place. Capitals don't count. Our own.
use Rattle.std.specs.Prelude.{ℕ, ◌==◌, ◌&&◌, ◌||◌, Bool, false, List, ◌∷◌, drop, find, Option, None, if◌then◌else◌}
use Rattle.std.specs.Char.{eq_ignore_ascii_case}
use Rattle.std.specs.List.{common_prefix_len, count_by}
use Rattle.std.specs.Option.{option_or}
use Rattle.std.specs.Str.{str_eq_ignore_ascii_case}
use Rattle.ngc_quantities.specs.declared.unit.Unit.{Unit}
use Rattle.ngc_quantities.specs.Units.{name_of, known}

-- the same letters, in capitals or not
unfoldable pub is_same_letter : ℕ → ℕ → Bool
is_same_letter a b = eq_ignore_ascii_case a b

unfoldable pub is_same : List ℕ → List ℕ → Bool
is_same a b = str_eq_ignore_ascii_case a b

-- the first two letters are in each other's place, and the rest is the same
abbrev pub is_swapped : List ℕ → List ℕ → Bool
is_swapped (a ∷ b ∷ rest) (c ∷ d ∷ others) =
    is_same_letter a d && (is_same_letter b c && is_same rest others)
is_swapped _ _ = false

-- texts from the first letter in which they differ on, of which no more than this letter differs
abbrev pub is_one_off : List ℕ → List ℕ → Bool
is_one_off word name =
    is_same (drop 1 word) (drop 1 name)
    || (is_same (drop 1 word) name || (is_same word (drop 1 name) || is_swapped word name))

-- the number of letters with which both begin
abbrev pub shared_length : List ℕ → List ℕ → ℕ
shared_length word name = common_prefix_len is_same_letter word name

unfoldable pub is_nearly : List ℕ → List ℕ → Bool
is_nearly word name =
    let shared = shared_length word name in
    is_one_off (drop shared word) (drop shared name)

abbrev pub is_near : List ℕ → Unit → Bool
is_near word unit = is_nearly word (name_of unit)

-- the one unit that is near, or none if there are two
abbrev pub nearest : List ℕ → List Unit → Option Unit
nearest word units =
    if count_by (is_near word) units == 1 then find (is_near word) units else None

-- the unit of a list that a word means: by a name, or nearly
abbrev pub meant : List ℕ → List Unit → Option Unit
meant word units = option_or (known word units) (nearest word units)
