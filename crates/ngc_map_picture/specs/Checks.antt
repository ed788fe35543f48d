-- The two checks of a PNG file: the cyclic redundancy check of a chunk (ISO/IEC 15948, 5.5), and
-- the Adler-32 checksum of its data (RFC 1950, 8.2).
use Rattle.std.specs.Prelude.{ℕ, zero, suc, ◌+◌, ◌*◌, ◌/◌, ◌%◌, Bool, true, false, not, ◌==◌, if◌then◌else◌}
use Rattle.std.specs.Prelude.{List, [], ◌∷◌, ◌++◌, length, map, replicate, sum}
use Rattle.std.specs.List.{flat_map, list_any}

-- A polynomial over the field of two elements is the list of its coefficients, that of the highest
-- power first. Sums and differences of such polynomials are the same.

-- the lowest k bits of a number, the lowest first
unfoldable pub bits : ℕ → ℕ → List Bool
bits zero n = []
bits (suc k) n = (n % 2 == 1) ∷ bits k (n / 2)

-- the number with these bits
unfoldable pub number : List Bool → ℕ
number [] = 0
number (b ∷ bs) = (if b then 1 else 0) + 2 * number bs

-- the sum of two coefficients: 1 if they differ
abbrev pub differ : Bool → Bool → Bool
differ false b = b
differ true b = not b

-- a polynomial is added to the first coefficients of another one
unfoldable pub added : List Bool → List Bool → List Bool
added [] ys = []
added (x ∷ xs) [] = x ∷ xs
added (x ∷ xs) (y ∷ ys) = differ x y ∷ added xs ys

-- the generator is the sum of x^32 and these powers of x
abbrev pub powers : List ℕ
powers = 26 ∷ 23 ∷ 22 ∷ 16 ∷ 12 ∷ 11 ∷ 10 ∷ 8 ∷ 7 ∷ 5 ∷ 4 ∷ 2 ∷ 1 ∷ 0 ∷ []

-- its coefficients of the powers below k
unfoldable pub coefficients : ℕ → List Bool
coefficients zero = []
coefficients (suc k) = list_any (λ p. p == k) powers ∷ coefficients k

-- The division by the generator, as far as n coefficients of the quotient: the first coefficient of
-- the polynomial is one of the quotient, and that multiple of the generator is subtracted.
unfoldable pub divided : ℕ → List Bool → List Bool
divided zero p = p
divided (suc n) [] = []
divided (suc n) (c ∷ cs) = divided n (if c then added cs (coefficients 32) else cs)

-- a message as a polynomial; each byte begins with its lowest bit
abbrev pub message : List ℕ → List Bool
message bytes = flat_map (bits 8) bytes

-- 32 zeros follow the message, and its first 32 coefficients are inverted
unfoldable pub remainder : List ℕ → List Bool
remainder bytes =
    divided (length (message bytes)) (added (message bytes ++ replicate 32 false) (replicate 32 true))

-- the coefficients of the remainder are inverted; that of the highest power is the lowest bit
unfoldable pub crc : List ℕ → ℕ
crc bytes = number (map not (remainder bytes))

-- the sum of the bytes and 1
abbrev pub first_sum : List ℕ → ℕ
first_sum bytes = 1 + sum bytes

-- the sum of the first sums of all prefixes that have a byte: a byte is in its own and in each longer one
abbrev pub second_sum : List ℕ → ℕ
second_sum [] = 0
second_sum (b ∷ bs) = 1 + b * suc (length bs) + second_sum bs

unfoldable pub adler : List ℕ → ℕ
adler bytes = second_sum bytes % 65521 * 65536 + first_sum bytes % 65521
