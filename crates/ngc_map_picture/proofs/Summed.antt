-- The sums of data, as they come.
use Rattle.std.proofs.Common.{◌≡◌, ℕ, suc, ◌+◌, ◌*◌, ◌%◌, List, [], ◌∷◌, ◌++◌, length, refl, ◌∙◌, arith, length-append}
use Rattle.std.specs.Prelude.{sum}
use Rattle.std.proofs.lemmas.List.Sums.{sum_by-cons, sum_by_push}
use Rattle.ngc_map_picture.specs.Checks.{second_sum}
use Rattle.ngc_map_picture.specs.Streams.{AreSums}
use Rattle.ngc_map_picture.specs.declared.sums.Sums.{Sums}

sum_more : (bytes : List ℕ) (b : ℕ) → sum (bytes ++ b ∷ []) ≡ sum bytes + b
sum_more bytes b = sum_by_push (λ x. x) bytes b

second_more : (bytes : List ℕ) (b : ℕ) → second_sum (bytes ++ b ∷ []) ≡ second_sum bytes + (1 + sum bytes + b)
second_more [] b = omega arith
second_more (x ∷ bytes) b =
    let less = second_more bytes b in
    let longer : length (bytes ++ b ∷ []) ≡ suc (length bytes) = length-append bytes (b ∷ []) ∙ omega arith in
    let whole : second_sum ((x ∷ bytes) ++ b ∷ []) ≡ 1 + x * suc (suc (length bytes)) + (second_sum bytes + (1 + sum bytes + b)) = rw (longer, less) refl in
    let head : second_sum (x ∷ bytes) ≡ 1 + x * suc (length bytes) + second_sum bytes = refl in
    let total : sum (x ∷ bytes) ≡ x + sum bytes = sum_by-cons (λ x. x) x bytes in
    omega (arith, whole, head, total)

low_more : (s b : ℕ) → ((1 + s) % 65521 + b) % 65521 ≡ (1 + (s + b)) % 65521
low_more s b = omega arith

high_more : (a s b : ℕ) → (a % 65521 + ((1 + s) % 65521 + b) % 65521) % 65521 ≡ (a + (1 + s + b)) % 65521
high_more a s b = omega arith

pub summed_more : (s t : Sums) (bytes : List ℕ) (b : ℕ) → t.low ≡ (s.low + b) % 65521 → t.high ≡ (s.high + (s.low + b) % 65521) % 65521 → AreSums s bytes →
    AreSums t (bytes ++ b ∷ [])
summed_more s t bytes b low high are = record {
  low_sum = rw (low, are.low_sum, sum_more bytes b) (low_more (sum bytes) b);
  high_sum = rw (high, are.high_sum, are.low_sum, second_more bytes b) (high_more (second_sum bytes) (sum bytes) b);
}
