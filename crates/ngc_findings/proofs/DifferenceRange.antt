-- A difference of two coordinates fits in 64 bits.
use Rattle.std.proofs.Common.{arith, ◌-ℤ◌, ◌≡◌, ◌≤◌, ℤ, FitsSigned, unsigned_abs, to_z, of_z, w64, ap, refl, ◌∙◌}
use Rattle.std.proofs.lemmas.Int.{ints, to_z-of_z, fits_signed_from_abs}

small : (a b : ℤ) → unsigned_abs a ≤ 107374182400000 → unsigned_abs b ≤ 107374182400000 → FitsSigned w64 (a -ℤ b)
small a b ha hb = fits_signed_from_abs w64 (a -ℤ b) (omega (arith, ints, ha, hb))

same : (a x : ℤ) → unsigned_abs a ≤ 107374182400000 → a ≡ x → to_z w64 (of_z w64 a) ≡ x
same a x ha e = to_z-of_z w64 a (fits_signed_from_abs w64 a (omega (arith, ints, ha))) ∙ e

pub apart-fits : (a b : ℤ) → unsigned_abs a ≤ 107374182400000 → unsigned_abs b ≤ 107374182400000 →
    FitsSigned w64 (to_z w64 (of_z w64 a) -ℤ to_z w64 (of_z w64 b))
apart-fits a b ha hb = rw (same a a ha refl, same b b hb refl) (small a b ha hb)

pub apart-is : (a b x y : ℤ) → unsigned_abs a ≤ 107374182400000 → unsigned_abs b ≤ 107374182400000 → a ≡ x → b ≡ y →
    to_z w64 (of_z w64 (to_z w64 (of_z w64 a) -ℤ to_z w64 (of_z w64 b))) ≡ x -ℤ y
apart-is a b x y ha hb ea eb = to_z-of_z w64 _ (apart-fits a b ha hb) ∙ ap (λ z. z -ℤ to_z w64 (of_z w64 b)) (same a x ha ea)
    ∙ ap (λ z. x -ℤ z) (same b y hb eb)
