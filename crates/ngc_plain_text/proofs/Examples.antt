-- Worked examples, evaluated.
use Rattle.std.proofs.Common.{◌≡◌, pos, negsuc, [], ◌∷◌, refl}
use Rattle.std.specs.Prelude.{codes}
use Rattle.std.specs.Fmt.{digits}
use Rattle.ngc_text.specs.Millimetres.{length_text, number_text}
use Rattle.ngc_line_reader.specs.declared.letter.Letter.TheVariants as letters
use Rattle.ngc_plain_text.specs.Text.{word_text, line_text, program_text}

whole_number : word_text (letters.G, pos 0) ≡ codes "G0"
unfolding digits length_text number_text
whole_number = refl

tenth_of_a_code : word_text (letters.G, pos 59100000) ≡ codes "G59.1"
unfolding digits length_text number_text
tenth_of_a_code = refl

below_zero : word_text (letters.X, negsuc 1499999) ≡ codes "X-1.5"
unfolding digits length_text number_text
below_zero = refl

one_millionth : word_text (letters.Z, negsuc 0) ≡ codes "Z-0.000001"
unfolding digits length_text number_text
one_millionth = refl

six_decimals : word_text (letters.X, pos 12345678) ≡ codes "X12.345678"
unfolding digits length_text number_text
six_decimals = refl

zeros_inside : word_text (letters.Y, pos 1000200) ≡ codes "Y1.0002"
unfolding digits length_text number_text
zeros_inside = refl

greatest : word_text (letters.F, pos 1000000000000000) ≡ codes "F1000000000"
unfolding digits length_text number_text
greatest = refl

three_words : line_text ((letters.G, pos 1000000) ∷ (letters.X, negsuc 1499999) ∷ (letters.F, pos 100000000) ∷ []) ≡ codes "G1 X-1.5 F100"
unfolding digits length_text number_text
three_words = refl

two_lines : program_text (((letters.G, pos 0) ∷ (letters.Z, pos 5000000) ∷ []) ∷ [] ∷ ((letters.M, pos 2000000) ∷ []) ∷ []) ≡ codes "G0 Z5\n\nM2\n"
unfolding digits length_text number_text
two_lines = refl
