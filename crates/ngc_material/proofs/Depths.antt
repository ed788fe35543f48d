-- How far a tip is below a top, by how far it is from a bottom.
use Rattle.std.proofs.Common.{◌≡◌, ℕ, ◌+◌, ◌-◌, ℤ, pos, negsuc, ◌+ℤ◌, ◌-ℤ◌, ◌≤ℤ◌, ◌<ℤ◌, unsigned_abs, inl, inr, refl, sym, ◌∙◌, ap, arith}
use Rattle.std.proofs.lemmas.Bool.{cases_lt}
use Rattle.std.proofs.lemmas.Int.{ints}
use Rattle.ngc_stock.specs.Stocks.{natural_of}

natural_at : (z : ℤ) (n : ℕ) → z ≡ pos n → n ≡ natural_of z
natural_at z n e = sym (ap natural_of e)

none_below : (z : ℤ) → z ≤ℤ pos 0 → 0 ≡ natural_of z
none_below (pos n) h = omega (arith, ints, h)
none_below (negsuc n) h = refl

pub below_bottom : (tip bottom : ℤ) (height apart : ℕ) → tip <ℤ bottom → apart ≡ unsigned_abs (tip -ℤ bottom) → height + apart ≡ natural_of ((bottom +ℤ pos height) -ℤ tip)
below_bottom tip bottom height apart h e = natural_at ((bottom +ℤ pos height) -ℤ tip) (height + apart) (omega (arith, ints, h, e))

pub above_bottom : (tip bottom : ℤ) (height apart : ℕ) → bottom ≤ℤ tip → apart ≡ unsigned_abs (tip -ℤ bottom) → height - apart ≡ natural_of ((bottom +ℤ pos height) -ℤ tip)
above_bottom tip bottom height apart h e =
    elim (cases_lt apart height) [
      | inl less ↦ natural_at ((bottom +ℤ pos height) -ℤ tip) (height - apart) (omega (arith, ints, h, e, less))
      | inr more ↦ (
          let z : height - apart ≡ 0 = omega (arith, more) in
          z ∙ none_below ((bottom +ℤ pos height) -ℤ tip) (omega (arith, ints, h, e, more)))
    ]

pub depth_below : (tip bottom : ℤ) (apart : ℕ) → tip <ℤ bottom → apart ≡ unsigned_abs (tip -ℤ bottom) → apart ≡ natural_of (bottom -ℤ tip)
depth_below tip bottom apart h e = natural_at (bottom -ℤ tip) apart (omega (arith, ints, h, e))

pub no_depth_below : (tip bottom : ℤ) → bottom ≤ℤ tip → 0 ≡ natural_of (bottom -ℤ tip)
no_depth_below tip bottom h = none_below (bottom -ℤ tip) (omega (arith, ints, h))
