-- A picture with a palette as a PNG file: ISO/IEC 15948, 5.2, 11.2 and 11.3.
use Rattle.std.specs.Prelude.{ℕ, List, [], ◌∷◌, ◌++◌, codes}
use Rattle.std.specs.Int.{w32, to_be_bytes}
use Rattle.ngc_map_picture.specs.Blocks.{chunk, stream}

abbrev pub signature : List ℕ
signature = 137 ∷ 80 ∷ 78 ∷ 71 ∷ 13 ∷ 10 ∷ 26 ∷ 10 ∷ []

-- the width and the height in pixels, 8 bits for each pixel, a palette, the only methods of
-- compression and of filters, and no interlace
abbrev pub header : ℕ → ℕ → List ℕ
header width height =
    to_be_bytes w32 width ++ to_be_bytes w32 height ++ 8 ∷ 3 ∷ 0 ∷ 0 ∷ 0 ∷ []

-- the chunks before the rows
unfoldable pub settings : ℕ → ℕ → List ℕ → List ℕ
settings width height palette = chunk (codes "IHDR") (header width height) ++ chunk (codes "PLTE") palette

unfoldable pub last_chunk : List ℕ
last_chunk = chunk (codes "IEND") []

-- The scanlines are the rows of pixels from the top down, each after a byte that names its filter.
unfoldable pub png : ℕ → ℕ → List ℕ → List ℕ → List ℕ
png width height palette scanlines =
    (signature ++ settings width height palette) ++ (stream scanlines ++ last_chunk)
