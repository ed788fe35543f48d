-- Bytes and their letters.
use Rattle.std.proofs.Common.{◌≡◌, ◌≢◌, ℕ, ◌≤◌, ◌<◌, Bool, true, false, cond, List, [], ◌∷◌, Some, refl, ap, sym, ◌∙◌, arith}
use Rattle.std.specs.Prelude.{find, ◌==◌}
use Rattle.std.specs.Char.{is_ascii_digit}
use Rattle.std.proofs.lemmas.Bool.{eqb-true}
use Rattle.ngc_line_reader.specs.declared.letter.Letter.{Letter}
use Rattle.ngc_line_reader.specs.declared.letter.Letter.TheVariants as letters
use Rattle.ngc_line_reader.specs.Letter.{letter_byte, all_letters, letter_of}

-- only a letter's own byte is read as it
pub letter_again : (l : Letter) → letter_of (letter_byte l) ≡ Some l
unfolding letter_of
letter_again letters.A = refl
letter_again letters.B = refl
letter_again letters.C = refl
letter_again letters.D = refl
letter_again letters.F = refl
letter_again letters.G = refl
letter_again letters.H = refl
letter_again letters.I = refl
letter_again letters.J = refl
letter_again letters.K = refl
letter_again letters.L = refl
letter_again letters.M = refl
letter_again letters.P = refl
letter_again letters.Q = refl
letter_again letters.R = refl
letter_again letters.S = refl
letter_again letters.T = refl
letter_again letters.X = refl
letter_again letters.Y = refl
letter_again letters.Z = refl

some_is : (x y : Letter) → Some x ≡ Some y → x ≡ y
some_is x y e = cc

found_is : (b : ℕ) (ls : List Letter) (l : Letter) → find (λ x. letter_byte x == b) ls ≡ Some l → letter_byte l ≡ b
found_is b [] l e = absurd cc
found_is b (x ∷ ls) l e = by_test (letter_byte x == b) refl (found_is b ls l) e where
  by_test : (t : Bool) → (letter_byte x == b) ≡ t → (find (λ x. letter_byte x == b) ls ≡ Some l → letter_byte l ≡ b) →
      cond t (Some x) (find (λ x. letter_byte x == b) ls) ≡ Some l → letter_byte l ≡ b
  by_test true t later e = ap letter_byte (sym (some_is x l e)) ∙ eqb-true (letter_byte x) b t
  by_test false t later e = later e

pub letter_is : (b : ℕ) (l : Letter) → letter_of b ≡ Some l → b ≡ letter_byte l
unfolding letter_of
letter_is b l e = sym (found_is b all_letters l e)

pub letter_unique : (l m : Letter) → letter_byte l ≡ letter_byte m → l ≡ m
letter_unique l m e = let same : Some l ≡ Some m = sym (letter_again l) ∙ ap letter_of e ∙ letter_again m in cc

pub letter_bounds : (l : Letter) → 65 ≤ letter_byte l
letter_bounds letters.A = omega arith
letter_bounds letters.B = omega arith
letter_bounds letters.C = omega arith
letter_bounds letters.D = omega arith
letter_bounds letters.F = omega arith
letter_bounds letters.G = omega arith
letter_bounds letters.H = omega arith
letter_bounds letters.I = omega arith
letter_bounds letters.J = omega arith
letter_bounds letters.K = omega arith
letter_bounds letters.L = omega arith
letter_bounds letters.M = omega arith
letter_bounds letters.P = omega arith
letter_bounds letters.Q = omega arith
letter_bounds letters.R = omega arith
letter_bounds letters.S = omega arith
letter_bounds letters.T = omega arith
letter_bounds letters.X = omega arith
letter_bounds letters.Y = omega arith
letter_bounds letters.Z = omega arith

pub letter_no_digit : (l : Letter) → is_ascii_digit (letter_byte l) ≡ false
letter_no_digit letters.A = refl
letter_no_digit letters.B = refl
letter_no_digit letters.C = refl
letter_no_digit letters.D = refl
letter_no_digit letters.F = refl
letter_no_digit letters.G = refl
letter_no_digit letters.H = refl
letter_no_digit letters.I = refl
letter_no_digit letters.J = refl
letter_no_digit letters.K = refl
letter_no_digit letters.L = refl
letter_no_digit letters.M = refl
letter_no_digit letters.P = refl
letter_no_digit letters.Q = refl
letter_no_digit letters.R = refl
letter_no_digit letters.S = refl
letter_no_digit letters.T = refl
letter_no_digit letters.X = refl
letter_no_digit letters.Y = refl
letter_no_digit letters.Z = refl

-- no letter has this byte
abbrev pub NoLetter : ℕ → Type 0
NoLetter c = (l : Letter) → letter_byte l ≢ c

pub low_no_letter : (c : ℕ) → c < 65 → NoLetter c
low_no_letter c h l e = omega (arith, letter_bounds l, e)

pub N_no_letter : NoLetter 78
N_no_letter letters.A e = omega (arith, e)
N_no_letter letters.B e = omega (arith, e)
N_no_letter letters.C e = omega (arith, e)
N_no_letter letters.D e = omega (arith, e)
N_no_letter letters.F e = omega (arith, e)
N_no_letter letters.G e = omega (arith, e)
N_no_letter letters.H e = omega (arith, e)
N_no_letter letters.I e = omega (arith, e)
N_no_letter letters.J e = omega (arith, e)
N_no_letter letters.K e = omega (arith, e)
N_no_letter letters.L e = omega (arith, e)
N_no_letter letters.M e = omega (arith, e)
N_no_letter letters.P e = omega (arith, e)
N_no_letter letters.Q e = omega (arith, e)
N_no_letter letters.R e = omega (arith, e)
N_no_letter letters.S e = omega (arith, e)
N_no_letter letters.T e = omega (arith, e)
N_no_letter letters.X e = omega (arith, e)
N_no_letter letters.Y e = omega (arith, e)
N_no_letter letters.Z e = omega (arith, e)
