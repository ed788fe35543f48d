-- Text that is collected before it is written.
use Rattle.std.specs.Prelude.{◌≡◌, ℕ, ◌+◌, ◌≤◌, List, ◌++◌, length, Option}
use Rattle.std.specs.Io.KnownBytes.{Appends}

-- the greatest number of collected bytes
abbrev pub CHUNK_SIZE : ℕ
CHUNK_SIZE = 16384

-- the greatest number of bytes of a line
abbrev pub LINE_SPACE : ℕ
LINE_SPACE = 512

pub record HasSpaceForLine (chunk : List ℕ) : Type 0 where
  pub room : length chunk + LINE_SPACE ≤ CHUNK_SIZE

-- a prefix of the collected text is written, and the rest of it is still collected
abbrev pub WritesPrefix : Option (List ℕ) → Option (List ℕ) → List ℕ → List ℕ → Type 0
WritesPrefix old new before after = (bs : List ℕ) × Appends old new bs × (before ≡ bs ++ after)
