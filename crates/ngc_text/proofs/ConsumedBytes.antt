-- The total that a source lost.
use Rattle.std.proofs.Common.{ℕ, ◌+◌, ◌≤◌, List, ◌++◌, length, take, Option, arith, length-append, length-take}
use Rattle.std.proofs.KnownBytes.{Consumes-trans}
use Rattle.std.specs.Io.KnownBytes.{Consumes}
use Rattle.ngc_text.specs.Input.{ConsumesAtMost}

-- the bytes that were read, and then a prefix of a chunk
pub lost_more : (old mid new : Option (List ℕ)) (read chunk : List ℕ) (n limit size : ℕ) → Consumes old mid read → Consumes mid new (take n chunk) →
    length read ≤ limit → length chunk ≤ size → ConsumesAtMost old new (limit + size)
lost_more old mid new read chunk n limit size first second within fits =
    (read ++ take n chunk, Consumes-trans old mid new read (take n chunk) first second, omega (arith, length-append read (take n chunk), length-take n chunk))
