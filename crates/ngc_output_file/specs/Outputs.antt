-- The files that a command writes. Our own.
use Rattle.std.specs.Prelude.{◌≡◌, ◌≢◌, ℕ, List, Option, Some, IfSome}

-- the bytes of a file by its name, where they are known
abbrev pub OutputBytes : Type 0
OutputBytes = List ℕ → Option (List ℕ)

-- no file is changed
abbrev pub KeepsAll : OutputBytes → OutputBytes → Type 0
KeepsAll old new = (name : List ℕ) → new name ≡ old name

-- the named file has these bytes, where they are known, and no other file is changed
pub record IsWritten (old new : OutputBytes) (name : List ℕ) (text : Option (List ℕ)) : Type 0 where
  pub written : IfSome text (λ bytes. new name ≡ Some bytes)
  pub others : (other : List ℕ) → other ≢ name → new other ≡ old other
