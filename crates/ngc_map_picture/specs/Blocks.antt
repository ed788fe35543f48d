-- Data as a stream of blocks that are stored without compression (RFC 1950, 2.2; RFC 1951, 3.2.4),
-- in the chunks of a PNG file (ISO/IEC 15948, 5.3 and 11.2.4).
use Rattle.std.specs.Prelude.{ℕ, zero, suc, ◌-◌, ◌*◌, ◌/◌, List, [], ◌∷◌, ◌++◌, length, take, drop, codes}
use Rattle.std.specs.Int.{w16, w32, to_be_bytes, to_le_bytes}
use Rattle.ngc_map_picture.specs.Checks.{crc, adler}

-- a chunk of a kind: the length of its data, the kind, the data, and the check of both
unfoldable pub chunk : List ℕ → List ℕ → List ℕ
chunk kind bytes = to_be_bytes w32 (length bytes) ++ kind ++ bytes ++ to_be_bytes w32 (crc (kind ++ bytes))

-- a stored block begins with 1 if it is the last one and with 0 otherwise, its length, and the
-- complement of its length
abbrev pub block_head : ℕ → ℕ → List ℕ
block_head last size = last ∷ to_le_bytes w16 size ++ to_le_bytes w16 (65535 - size)

abbrev pub block : ℕ → List ℕ → List ℕ
block last bytes = chunk (codes "IDAT") (block_head last (length bytes) ++ bytes)

-- the number of bytes of each block but the last: our own
abbrev pub SIZE : ℕ
SIZE = 16000

-- the first n blocks of some data
unfoldable pub blocks : ℕ → List ℕ → List ℕ
blocks zero bytes = []
blocks (suc n) bytes = block 0 (take SIZE bytes) ++ blocks n (drop SIZE bytes)

-- all full blocks of some data
abbrev pub full_blocks : List ℕ → List ℕ
full_blocks bytes = blocks (length bytes / SIZE) bytes

-- the data after its full blocks, fewer than SIZE bytes
abbrev pub rest : List ℕ → List ℕ
rest bytes = drop (length bytes / SIZE * SIZE) bytes

-- a stream begins with its method and its window
abbrev pub begun : List ℕ
begun = chunk (codes "IDAT") (120 ∷ 1 ∷ [])

-- the data as chunks: the full blocks, the last block, and the checksum of all data
unfoldable pub ended : List ℕ → List ℕ
ended bytes = full_blocks bytes ++ (block 1 (rest bytes) ++ chunk (codes "IDAT") (to_be_bytes w32 (adler bytes)))

unfoldable pub stream : List ℕ → List ℕ
stream bytes = begun ++ ended bytes
