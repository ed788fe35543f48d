-- Reading values of a TOML tree, with tests of their kind and length. Our own.
use Rattle.std.specs.Prelude.{ℕ, List, [], ◌∷◌, ℤ, Option, Some, None, Bool, true, false, ◌&&◌}
use Rattle.std.specs.Prelude.{if◌then◌else◌, codes}
use Rattle.std.specs.List.{list_any}
use Rattle.std.specs.Str.{is_utf8, bytes_eq}
use Rattle.toml.specs.Parse.{parse_document}
use Rattle.toml.specs.Data.{Data, array, table, Items, no_items, item, Members, no_members, member}
use Rattle.toml.specs.Data.{get, as_integer, as_str}
use Rattle.ngc_machine_files.specs.declared.machine.Rapids.{Rapids}
use Rattle.ngc_machine_files.specs.declared.machine.Rapids.TheVariants.{Straight, Free}
use Rattle.ngc_machine_files.specs.declared.machine_contents.Coordinates.{Coordinates}
use Rattle.ngc_dialect_names.specs.Names.{named_dialect}
use Rattle.ngc_dialect_names.specs.declared.dialect.Dialect.{Dialect}
use Rattle.ngc_machine_files.specs.Names.{name_of}

infixl 10 ◌>>=◌
abbrev pub ◌>>=◌ : {A B : Type 0} → Option A → (A → Option B) → Option B
(Some x) >>= f = f x
None >>= f = None

-- the tree of a document, if the bytes are one
abbrev pub tree_of : List ℕ → Option Data
tree_of bytes =
    (if is_utf8 bytes then parse_document bytes else None) >>= (λ members. Some (table members))

-- the key is one of the list
abbrev pub is_one_of : List (List ℕ) → List ℕ → Bool
is_one_of keys key = list_any (bytes_eq key) keys

abbrev pub only : List (List ℕ) → Members → Bool
only keys no_members = true
only keys (member key value members) = is_one_of keys key && only keys members

-- a table without keys other than those of the list
abbrev pub has_only : List (List ℕ) → Data → Bool
has_only keys (table members) = only keys members
has_only keys _ = false

abbrev pub known : List (List ℕ) → Data → Option Data
known keys tree = if has_only keys tree then Some tree else None

-- the whole number of a key
abbrev pub whole_at : List ℕ → Data → Option ℤ
whole_at key tree = get key tree >>= as_integer

-- an array of three whole numbers
abbrev pub coordinates : Data → Option Coordinates
coordinates (array (item a (item b (item c no_items)))) = do
  x ← as_integer a
  y ← as_integer b
  z ← as_integer c
  Some (record { x = x; y = y; z = z })
coordinates _ = None

abbrev pub coordinates_at : List ℕ → Data → Option Coordinates
coordinates_at key tree = get key tree >>= coordinates

-- reads each item in the same manner
abbrev pub each : {A : Type 0} → (Data → Option A) → Items → Option (List A)
each read no_items = Some []
each read (item value items) = do
  x ← read value
  xs ← each read items
  Some (x ∷ xs)

abbrev pub list_of : {A : Type 0} → (Data → Option A) → Data → Option (List A)
list_of read (array items) = each read items
list_of read _ = None

-- the value of a key, or a default if the key is missing
abbrev pub or_missing : {A : Type 0} → A → (Data → Option A) → Option Data → Option A
or_missing default read None = Some default
or_missing default read (Some value) = read value

-- the whole number of a key, or a default if the key is missing
abbrev pub whole_or : ℤ → List ℕ → Data → Option ℤ
whole_or default key tree = or_missing default as_integer (get key tree)

-- a text, and whether it is a name
abbrev pub named : Data → Option (Option (List ℕ))
named value = as_str value >>= (λ text. Some (name_of text))

-- the name of the key `name`, without characters if the key is missing
abbrev pub name_at : Data → Option (Option (List ℕ))
name_at tree = or_missing (Some []) named (get (codes "name") tree)

abbrev pub rapids_named : List ℕ → Option Rapids
rapids_named text =
    if bytes_eq text (codes "straight") then Some Straight
    else (if bytes_eq text (codes "free") then Some Free else None)

-- the traverses of the key `rapids`, straight if the key is missing
abbrev pub rapids_at : Data → Option Rapids
rapids_at tree = or_missing Straight (λ value. as_str value >>= rapids_named) (get (codes "rapids") tree)

-- a text that names a language
abbrev pub dialect_of : Data → Option (Option Dialect)
dialect_of value = do
  text ← as_str value
  d ← named_dialect text
  Some (Some d)

-- the language of the key `dialect`, if there is one
abbrev pub dialect_at : Data → Option (Option Dialect)
dialect_at tree = or_missing None dialect_of (get (codes "dialect") tree)

-- the items of a key, none if the key is missing
abbrev pub list_at : {A : Type 0} → (Data → Option A) → List ℕ → Data → Option (List A)
list_at read key tree = or_missing [] (list_of read) (get key tree)
