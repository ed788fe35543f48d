-- The names of fixtures and tools. Our own.
use Rattle.std.specs.Prelude.{ℕ, ◌≤◌, ◌-◌, nat_le, ◌≡◌, List, [], ◌++◌, length, take, drop, replicate}
use Rattle.std.specs.Prelude.{Option, Some, None, Bool, ◌&&◌, if◌then◌else◌}
use Rattle.std.specs.List.{All, list_all}
use Rattle.std.proofs.Math.Path.{◌∙◌, ap, sym, subst}
use Rattle.std.proofs.lemmas.List.{length-take-le, take-append-drop}
use Rattle.ngc_machine_files.specs.declared.name.Name.TheInside.{Inside}

-- a printable ASCII character
abbrev pub is_printable : ℕ → Bool
is_printable c = nat_le 32 c && nat_le c 126

-- 1 to 40 printable characters
abbrev pub is_name : List ℕ → Bool
is_name text = nat_le 1 (length text) && nat_le (length text) 40 && list_all is_printable text

-- the text itself, if it is a name
abbrev pub name_of : List ℕ → Option (List ℕ)
name_of text = if is_name text then Some text else None

-- the characters of a name, none without a name
abbrev pub name_from : Option (List ℕ) → List ℕ
name_from None = []
name_from (Some name) = name

pub record IsPrintable (c : ℕ) : Type 0 where
  pub least : 32 ≤ c
  pub greatest : c ≤ 126

-- a name, or no characters
pub record IsName (name : List ℕ) : Type 0 where
  pub greatest : length name ≤ 40
  pub printable : All IsPrintable name

-- ---- the stored form: 40 bytes, of which `count` are used

abbrev pub used : Inside → List ℕ
used n = take n.count n.characters

pub record IsKept (n : Inside) : Type 0 where
  pub places : length n.characters ≡ 40
  pub greatest : n.count ≤ 40
  pub rest : drop n.count n.characters ≡ replicate (40 - n.count) 0
  pub printable : All IsPrintable (take n.count n.characters)

abbrev pub kept : List ℕ → Inside
kept name = record { characters = name ++ replicate (40 - length name) 0; count = length name }

-- storing a name loses nothing
pub kept-used : (n : Inside) → IsKept n → kept (used n) ≡ n
kept-used n h =
    let size : length (take n.count n.characters) ≡ n.count =
    length-take-le n.count n.characters (subst (λ m. n.count ≤ m) (sym h.places) h.greatest) in
    ap (λ m. record { characters = take n.count n.characters ++ replicate (40 - m) 0; count = m }) size
    ∙ ap (λ rest. record { characters = take n.count n.characters ++ rest; count = n.count }) (sym h.rest)
    ∙ ap (λ all. record { characters = all; count = n.count }) (take-append-drop n.count n.characters)
