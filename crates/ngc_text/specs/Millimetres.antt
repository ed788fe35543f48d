-- Numbers with up to six decimals: nanometres as millimetres. Our own.
use Rattle.std.specs.Prelude.{ℕ, ◌+◌, ◌/◌, ◌%◌, ◌==◌, ℤ, pos, negsuc, unsigned_abs, List, [], ◌∷◌}
use Rattle.std.specs.Prelude.{◌++◌, take, codes, decimal, if◌then◌else◌}

-- a point and six digits; 48 is the code of the digit 0
abbrev pub decimals : ℕ → List ℕ
decimals n =
    46 ∷ (48 + n / 100000) ∷ (48 + n / 10000 % 10) ∷ (48 + n / 1000 % 10) ∷ (48 + n / 100 % 10)
    ∷ (48 + n / 10 % 10) ∷ (48 + n % 10) ∷ []

-- how many of these bytes are written: no zeros at the end, and no point without digits
abbrev pub kept : ℕ → ℕ
kept n =
    if n == 0 then 0
    else (if n % 100000 == 0 then 2 else (if n % 10000 == 0 then 3 else (if n % 1000 == 0 then 4
    else (if n % 100 == 0 then 5 else (if n % 10 == 0 then 6 else 7)))))

-- a whole number and millionths
unfoldable pub number_text : ℕ → ℕ → List ℕ
number_text whole millionths = decimal whole ++ take (kept millionths) (decimals millionths)

-- a size in nanometres as millimetres
abbrev pub size_text : ℕ → List ℕ
size_text n = number_text (n / 1000000) (n % 1000000)

abbrev pub sign_text : ℤ → List ℕ
sign_text (pos n) = []
sign_text (negsuc n) = codes "-"

-- and a length
unfoldable pub length_text : ℤ → List ℕ
length_text z = sign_text z ++ size_text (unsigned_abs z)

-- with its unit
unfoldable pub mm_text : ℤ → List ℕ
mm_text z = length_text z ++ codes " mm"
