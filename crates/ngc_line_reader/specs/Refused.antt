-- The text of a line that is refused for one of its limits (our own).
use Rattle.std.specs.Prelude.{ℕ, ◌≡◌, List, [], ◌∷◌, ◌++◌}
use Rattle.std.specs.List.{AllByRecursion}
use Rattle.ngc_fixed_length.specs.Limits.{IsValue}
use Rattle.ngc_line_reader.specs.declared.letter.Letter.{Letter}
use Rattle.ngc_line_reader.specs.Letter.{letter_byte}
use Rattle.ngc_line_reader.specs.Text.{text}
use Rattle.ngc_line_reader.specs.Grammar.{Numeral, IsNumeral, numeral_text, Item, IsItem}
use Rattle.ngc_line_reader.specs.Grammar.{items_text, Stops}
use Rattle.ngc_line_reader.specs.Numbers.{numeral_value}
use Rattle.ngc_line_reader.specs.Held.{word_count}

-- the line contains a whole number that is too large: the byte before it and the text after it are
-- no parts of a number
pub record HasTooLarge (s : List ℕ) : Type 0 where
  pub front : List ℕ
  pub mark : ℕ
  pub number : Numeral
  pub end : List ℕ
  pub is : IsNumeral number
  pub large : ¬ IsValue (numeral_value number)
  pub parted : Stops (mark ∷ [])
  pub whole : Stops end
  pub written : s ≡ front ++ (mark ∷ (numeral_text number ++ end))

-- after a front, the line contains items with n words, and then another word's letter
pub record HasWords (n : ℕ) (s : List ℕ) : Type 0 where
  pub front : List ℕ
  pub items : List Item
  pub letter : Letter
  pub end : List ℕ
  pub are : AllByRecursion IsItem items
  pub count : word_count items ≡ n
  pub written : s ≡ front ++ (items_text items ++ (letter_byte letter ∷ end))

abbrev pub WritesTooLarge : List ℕ → Type 0
WritesTooLarge line = HasTooLarge (text line)

abbrev pub WritesManyWords : List ℕ → Type 0
WritesManyWords line = HasWords 64 (text line)
