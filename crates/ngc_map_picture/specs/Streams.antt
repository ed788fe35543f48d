-- The state of a stream between two bytes of its data.
use Rattle.std.specs.Prelude.{◌≡◌, ℕ, ◌%◌, ◌<◌, List, ◌++◌, length, Option}
use Rattle.std.specs.Io.KnownBytes.{Appends}
use Rattle.ngc_map_picture.specs.Checks.{first_sum, second_sum}
use Rattle.ngc_map_picture.specs.Blocks.{SIZE, full_blocks, rest}
use Rattle.ngc_map_picture.specs.declared.sums.Sums.{Sums}
use Rattle.ngc_map_picture.specs.declared.stream.Stream.{Stream}

-- the sums of some data
pub record AreSums (s : Sums) (bytes : List ℕ) : Type 0 where
  pub low_sum : s.low ≡ first_sum bytes % 65521
  pub high_sum : s.high ≡ second_sum bytes % 65521

-- some data are added: the blocks that are full with them are written, the rest waits, and the sums
-- are those of the earlier data and these
pub record AddsData (old new : Option (List ℕ)) (before after : Stream) (bytes : List ℕ) : Type 0 where
  pub wrote : Appends old new (full_blocks (before.waiting.items ++ bytes))
  pub left : after.waiting.items ≡ rest (before.waiting.items ++ bytes)
  pub short : length after.waiting.items < SIZE
  pub summed : (earlier : List ℕ) → AreSums before.sums earlier → AreSums after.sums (earlier ++ bytes)
