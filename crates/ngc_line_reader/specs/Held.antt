-- The representation of a reading in a Line: words and settings in the order in which they are
-- written (NISTIR 6556, 3.3.6), with their columns, and the tokens of all values in one list. The
-- limits are our own.
use Rattle.std.specs.Prelude.{ℕ, ◌+◌, ◌≤◌, ◌≡◌, List, [], ◌∷◌, ◌++◌, length}
use Rattle.std.specs.Option.{option_map}
use Rattle.ngc_line_reader.specs.declared.token.Token.{Token}
use Rattle.ngc_line_reader.specs.declared.line.RawWord.{RawWord}
use Rattle.ngc_line_reader.specs.declared.line.RawSetting.{RawSetting}
use Rattle.ngc_line_reader.specs.declared.line.Line.{Line}
use Rattle.ngc_line_reader.specs.Text.{columns, place_in}
use Rattle.ngc_line_reader.specs.Grammar.{Item, word, setting, comment, Reading, Reads, optional_part}
use Rattle.ngc_line_reader.specs.Grammar.{real_text, items_text}
use Rattle.ngc_line_reader.specs.Numbers.{digits_value}
use Rattle.ngc_line_reader.specs.Tokens.{symbols_of, tokens_of, IsWithinLimit}

-- the tokens of an item's values, and of all items' values; end is the text after them
abbrev pub item_tokens : (ℕ → ℕ) → Item → List ℕ → List Token
item_tokens place (word letter value) end = tokens_of place value end
item_tokens place (setting index value) end =
    tokens_of place index (61 ∷ (real_text value ++ end)) ++ tokens_of place value end
item_tokens place (comment bytes) end = []

abbrev pub all_tokens : (ℕ → ℕ) → List Item → List ℕ → List Token
all_tokens place [] end = []
all_tokens place (item ∷ items) end =
    item_tokens place item (items_text items ++ end) ++ all_tokens place items end

-- the number of tokens of an item
abbrev pub token_count : Item → ℕ
token_count (word letter value) = length (symbols_of value)
token_count (setting index value) = length (symbols_of index) + length (symbols_of value)
token_count (comment bytes) = 0

-- The words, with their columns and the indexes at which their tokens begin. The first item's
-- tokens begin at first; end is the text after the items; place maps the number of bytes from a
-- byte on to the byte's column.
abbrev pub words_from : (ℕ → ℕ) → ℕ → List Item → List ℕ → List RawWord
words_from place first [] end = []
words_from place first (word letter value ∷ items) end =
    record {
      letter = letter;
      column = place (length (items_text (word letter value ∷ items) ++ end));
      first = first;
    } ∷ words_from place (first + token_count (word letter value)) items end
words_from place first (setting index value ∷ items) end =
    words_from place (first + token_count (setting index value)) items end
words_from place first (comment bytes ∷ items) end = words_from place first items end

-- the same for settings
abbrev pub settings_from : (ℕ → ℕ) → ℕ → List Item → List ℕ → List RawSetting
settings_from place first [] end = []
settings_from place first (word letter value ∷ items) end =
    settings_from place (first + token_count (word letter value)) items end
settings_from place first (setting index value ∷ items) end =
    record {
      column = place (length (items_text (setting index value ∷ items) ++ end));
      index = first;
      value = first + length (symbols_of index);
    }
    ∷ settings_from place (first + token_count (setting index value)) items end
settings_from place first (comment bytes ∷ items) end = settings_from place first items end

pub record Holds (bytes : List ℕ) (line : Line) (r : Reading) : Type 0 where
  pub deleted : line.deleted ≡ r.deleted
  pub number : line.number ≡ option_map digits_value r.number
  pub words : line.words.items ≡ words_from (place_in (columns bytes)) 0 r.items
      (optional_part 59 r.remark)
  pub settings : line.settings.items ≡ settings_from (place_in (columns bytes)) 0 r.items
      (optional_part 59 r.remark)
  pub tokens : line.tokens.items ≡ all_tokens (place_in (columns bytes)) r.items
      (optional_part 59 r.remark)

-- each number written in the items is a value
abbrev pub IsItemWithinLimit : Item → Type 0
IsItemWithinLimit (word letter value) = IsWithinLimit value
IsItemWithinLimit (setting index value) = IsWithinLimit index × IsWithinLimit value
IsItemWithinLimit (comment bytes) = Unit {0}

abbrev pub AllWithinLimit : List Item → Type 0
AllWithinLimit [] = Unit {0}
AllWithinLimit (item ∷ items) = IsItemWithinLimit item × AllWithinLimit items

-- the number of words
abbrev pub item_words : Item → ℕ
item_words (word letter value) = 1
item_words (setting index value) = 0
item_words (comment bytes) = 0

abbrev pub word_count : List Item → ℕ
word_count [] = 0
word_count (item ∷ items) = item_words item + word_count items

-- numbers in range, and no more words than a line may have
abbrev pub WithinLimits : Reading → Type 0
WithinLimits r = AllWithinLimit r.items × (word_count r.items ≤ 64)

-- The bytes have a reading, its numbers are in range, and line holds it.
pub record HoldsReading (bytes : List ℕ) (line : Line) : Type 0 where
  pub reading : Reading
  pub reads : Reads bytes reading
  pub limit : AllWithinLimit reading.items
  pub holds : Holds bytes line reading
