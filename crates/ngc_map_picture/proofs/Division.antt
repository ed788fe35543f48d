-- The division of a message, with the next 32 coefficients as a number.
use Rattle.std.proofs.Common.{◌≡◌, ℕ, zero, suc, ◌+◌, ◌-◌, ◌*◌, ◌/◌, ◌%◌, ◌^◌, ◌<◌, ◌≤◌, ◌⊎◌, inl, inr, Bool, true, false, List, [], ◌∷◌, ◌++◌, length, refl, ap, sym, ◌∙◌, subst, arith, append_assoc, length-append}
use Rattle.std.specs.Prelude.{◌==◌, not, map, replicate, bit_xor}
use Rattle.std.specs.Int.Bits.{xor_zero_l, xor_zero_r}
use Rattle.std.proofs.lemmas.Grind.{flat_map-append}
use Rattle.std.proofs.Math.Nat.{pow-suc}
use Rattle.std.proofs.lemmas.Nat.{xor_mod, xor_shr, xor_comm}
use Rattle.ngc_map_picture.specs.Checks.{bits, number, differ, added, coefficients, divided, message, remainder, crc}
use Rattle.ngc_map_picture.specs.Registers.{Divides}

even_or_odd : (n : ℕ) → (n % 2 ≡ 0) ⊎ (n % 2 ≡ 1)
even_or_odd n = grind arith

odd_sum : (a b : ℕ) → (bit_xor a b % 2 == 1) ≡ differ (a % 2 == 1) (b % 2 == 1)
odd_sum a b =
    let e : bit_xor a b % 2 ≡ bit_xor (a % 2) (b % 2) = xor_mod a b 1 in
    elim (even_or_odd a) [
      | inl p ↦ elim (even_or_odd b) [ inl q ↦ rw (e, p, q) refl | inr q ↦ rw (e, p, q) refl ]
      | inr p ↦ elim (even_or_odd b) [ inl q ↦ rw (e, p, q) refl | inr q ↦ rw (e, p, q) refl ]
    ]

half_sum : (a b : ℕ) → bit_xor a b / 2 ≡ bit_xor (a / 2) (b / 2)
half_sum a b = xor_shr a b 1

half_below : (k d : ℕ) → d < 2 ^ suc k → d / 2 < 2 ^ k
half_below k d h = let p : 2 ^ suc k ≡ 2 ^ k * 2 = pow-suc 2 k in omega (arith, h, p)

none_below : (d : ℕ) → d < 2 ^ zero → d ≡ 0
none_below d h = omega (arith, h)

differ_false : (a : Bool) → differ a false ≡ a
differ_false true = refl
differ_false false = refl

differ_regrouped : (a b c : Bool) → differ (differ a b) c ≡ differ a (differ b c)
differ_regrouped false b c = refl
differ_regrouped true false c = refl
differ_regrouped true true false = refl
differ_regrouped true true true = refl

added_nothing : (xs : List Bool) → added xs [] ≡ xs
unfolding added
added_nothing [] = refl
added_nothing (x ∷ xs) = refl

-- a coefficient that is 0 more
padded : (k : ℕ) (later : List Bool) (d : ℕ) → d < 2 ^ k → added later (bits k d) ≡ added later (bits (suc k) d)
unfolding added bits
padded k [] d h = refl
padded zero (t ∷ ts) d h = rw (none_below d h, differ_false t, added_nothing ts) refl
padded (suc k) (t ∷ ts) d h = ap (λ (l : List Bool). differ t (d % 2 == 1) ∷ l) (padded k ts (d / 2) (half_below k d h))

-- two numbers are added as one
summed : (k : ℕ) (later : List Bool) (d e : ℕ) → d < 2 ^ k → added (added later (bits k d)) (bits (suc k) e) ≡ added later (bits (suc k) (bit_xor d e))
unfolding added bits
summed k [] d e h = refl
summed zero (t ∷ ts) d e h = rw (none_below d h, xor_zero_l e) refl
summed (suc k) (t ∷ ts) d e h =
    rw (odd_sum d e, half_sum d e, differ_regrouped t (d % 2 == 1) (e % 2 == 1), summed k ts (d / 2) (e / 2) (half_below k d h)) refl

-- the coefficients of a number are added to zeros in its place
entered : (k m b c : ℕ) (later : List Bool) → b < 2 ^ k → k ≤ m → added (bits k b ++ later) (bits m c) ≡ added (replicate k false ++ later) (bits m (bit_xor c b))
unfolding added bits
entered zero m b c later h l = rw (none_below b h, xor_zero_r c) refl
entered (suc k) zero b c later h l = absurd (omega (arith, l))
entered (suc k) (suc m) b c later h l =
    rw (xor_comm c b, odd_sum b c, half_sum b c, xor_comm (b / 2) (c / 2), entered k m (b / 2) (c / 2) later (half_below k b h) (omega (arith, l))) refl

-- zeros take the bits of a number
pub alone : (k c : ℕ) → added (replicate k false) (bits k c) ≡ bits k c
unfolding added bits
alone zero c = refl
alone (suc k) c = ap (λ (l : List Bool). (c % 2 == 1) ∷ l) (alone k (c / 2))

first_bit : (k c : ℕ) → bits (suc k) c ≡ (c % 2 == 1) ∷ bits k (c / 2)
unfolding bits
first_bit k c = refl

-- the generator is subtracted if the first coefficient is 1
step_odd : (k n : ℕ) (later : List Bool) (c g : ℕ) → c < 2 ^ suc k → c % 2 ≡ 1 → coefficients 32 ≡ bits (suc k) g →
    divided (suc n) (added (false ∷ later) (bits (suc k) c)) ≡ divided n (added later (bits (suc k) (bit_xor (c / 2) g)))
unfolding added divided
step_odd k n later c g h odd is = rw (first_bit k c) (rw (odd, is) (ap (divided n) (summed k later (c / 2) g (half_below k c h))))

step_even : (k n : ℕ) (later : List Bool) (c : ℕ) → c < 2 ^ suc k → c % 2 ≡ 0 →
    divided (suc n) (added (false ∷ later) (bits (suc k) c)) ≡ divided n (added later (bits (suc k) (c / 2)))
unfolding added divided
step_even k n later c h even = rw (first_bit k c) (rw even (ap (divided n) (padded k later (c / 2) (half_below k c h))))

generator_is : coefficients 32 ≡ bits 32 3988292384
unfolding coefficients bits
generator_is = refl

one_more : (n : ℕ) → 1 + n ≡ suc n
one_more n = omega arith

pub divides_odd : (c : ℕ) → c < 2 ^ 32 → c % 2 ≡ 1 → Divides (false ∷ []) c (bit_xor (c / 2) 3988292384)
divides_odd c h odd later n = rw (one_more n) (step_odd 31 n later c 3988292384 h odd generator_is)

pub divides_even : (c : ℕ) → c < 2 ^ 32 → c % 2 ≡ 0 → Divides (false ∷ []) c (c / 2)
divides_even c h even later n = rw (one_more n) (step_even 31 n later c h even)

pub divides_none : (c : ℕ) → Divides [] c c
divides_none c later n = ap (λ i. divided i (added later (bits 32 c))) (none n) where
  none : (n : ℕ) → 0 + n ≡ n
  none n = omega arith

pub divides_both : (a b : List Bool) (old mid new : ℕ) → Divides a old mid → Divides b mid new → Divides (a ++ b) old new
divides_both a b old mid new first second later n =
    rw (append_assoc a b later, length-append a b) (rw (regrouped (length a) (length b) n) (first (b ++ later) (length b + n) ∙ second later n)) where
      regrouped : (i j n : ℕ) → i + j + n ≡ i + (j + n)
      regrouped i j n = omega arith

eight : (b : ℕ) → length (bits 8 b) ≡ 8
unfolding bits
eight b = refl

-- a byte enters, and then eight zeros
pub divides_byte : (b c new : ℕ) → b < 256 → Divides (replicate 8 false) (bit_xor c b) new → Divides (bits 8 b) c new
divides_byte b c new h zeros later n =
    rw (eight b) (ap (divided (8 + n)) (entered 8 32 b c later h (omega arith)) ∙ zeros later n)

-- each bit is inverted
pub inverted : (k n : ℕ) → n < 2 ^ k → number (map not (bits k n)) + n + 1 ≡ 2 ^ k
unfolding bits number
inverted zero n h = omega (arith, none_below n h)
inverted (suc k) n h =
    let p : 2 ^ suc k ≡ 2 ^ k * 2 = pow-suc 2 k in
    let less = inverted k (n / 2) (half_below k n h) in
    elim (even_or_odd n) [ inl q ↦ rw q (omega (arith, p, less, q)) | inr q ↦ rw q (omega (arith, p, less, q)) ]

trues : replicate 32 true ≡ bits 32 4294967295
unfolding bits
trues = refl

-- what a register holds after the whole message is the remainder
pub remains : (bytes : List ℕ) (register : ℕ) → Divides (message bytes) 4294967295 register → remainder bytes ≡ bits 32 register
unfolding remainder divided
remains bytes register divides =
    rw trues (ap (λ n. divided n (added (message bytes ++ replicate 32 false) (bits 32 4294967295))) (sym (same (length (message bytes))))
    ∙ divides (replicate 32 false) 0 ∙ alone 32 register) where
      same : (n : ℕ) → n + 0 ≡ n
      same n = omega arith

pub message_both : (a b : List ℕ) → message (a ++ b) ≡ message a ++ message b
message_both a b = flat_map-append (bits 8) a b

pub check_is : (bytes : List ℕ) (register : ℕ) → register < 2 ^ 32 → Divides (message bytes) 4294967295 register → 2 ^ 32 - 1 - register ≡ crc bytes
unfolding crc
check_is bytes register h divides = rw (remains bytes register divides) (omega (arith, h, inverted 32 register h))

-- of three parts
pub check_of_parts : (a b c : List ℕ) (first second third : ℕ) → third < 2 ^ 32 → Divides (message a) 4294967295 first → Divides (message b) first second →
    Divides (message c) second third → 2 ^ 32 - 1 - third ≡ crc (a ++ (b ++ c))
check_of_parts a b c first second third h one two three =
    let P : List Bool → Type 0 = λ m. Divides m 4294967295 third in
    check_is (a ++ (b ++ c)) third h (subst P (sym (message_both a (b ++ c) ∙ ap (λ l. message a ++ l) (message_both b c)))
    (divides_both (message a) (message b ++ message c) 4294967295 first third one (divides_both (message b) (message c) first second third two three)))
