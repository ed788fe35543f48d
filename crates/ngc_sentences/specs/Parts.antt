-- The text of the parts of a sentence. Our own.
use Rattle.std.specs.Prelude.{ℕ, ◌*◌, ◌/◌, ◌%◌, List, [], ◌∷◌, ◌++◌, codes, decimal, Bool, true, false}
use Rattle.std.specs.Fmt.{signed_decimal}
use Rattle.ngc_text.specs.Millimetres.{number_text, size_text, length_text, mm_text}
use Rattle.ngc_sentences.specs.declared.part.Part.{Part}
use Rattle.ngc_sentences.specs.declared.part.Part.TheVariants.{Text, Number, Signed, Size, Length, Millimetres}
use Rattle.ngc_sentences.specs.declared.part.Part.TheVariants.{Thousandths, Tool, Clock, Seconds}

-- a number below 100, and one below 1000
abbrev pub two_digits : ℕ → List ℕ
two_digits n = decimal (n / 10) ++ decimal (n % 10)

abbrev pub three_digits : ℕ → List ℕ
three_digits n = decimal (n / 100) ++ two_digits (n % 100)

-- hours, minutes and seconds
abbrev pub clock_text : ℕ → List ℕ
clock_text seconds = decimal (seconds / 3600) ++ codes ":" ++ two_digits (seconds / 60 % 60)
    ++ codes ":" ++ two_digits (seconds % 60)

abbrev pub thousandths_text : ℕ → List ℕ
thousandths_text n = number_text (n / 1000) (1000 * (n % 1000))

abbrev pub part_text : Part → List ℕ
part_text (Text text) = text.now
part_text (Number n) = decimal n
part_text (Signed z) = signed_decimal z
part_text (Size n) = size_text n
part_text (Length z) = length_text z
part_text (Millimetres z) = mm_text z
part_text (Thousandths n) = thousandths_text n
part_text (Tool n) = codes "tool " ++ decimal n
part_text (Clock s n) = clock_text s ++ codes "." ++ three_digits n
part_text (Seconds s n) = decimal s ++ codes "." ++ three_digits n

-- the text of parts after another text; the fold is from the left, as `a ++ b ++ c` is
abbrev pub continued : List ℕ → List Part → List ℕ
continued text [] = text
continued text (part ∷ parts) = continued (text ++ part_text part) parts

-- the text of a sentence
abbrev pub parts_text : List Part → List ℕ
parts_text [] = []
parts_text (part ∷ parts) = continued (part_text part) parts

abbrev pub is_text : Part → Bool
is_text (Text text) = true
is_text _ = false
