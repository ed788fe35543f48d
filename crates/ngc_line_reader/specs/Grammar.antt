-- The contents of a line, and how they are written (NISTIR 6556, 3.3, "Format of a line"). A line
-- is, in order, an optional '/' (block delete), an optional line number, and words, parameter
-- settings and comments in any number and order. Here each is a tree, and its text has no white
-- space and has letters in upper case. Our own: the remark after ';', and that a sign is allowed
-- only before digits, so that -#1 and -[..] cannot be written.
use Rattle.std.specs.Prelude.{ℕ, ◌≡◌, ◌≢◌, ◌≤◌, ◌<◌, List, [], ◌∷◌, ◌++◌, length, Option, Some}
use Rattle.std.specs.Prelude.{None, Bool, false, IsTrue, if◌then◌else◌, ◌+◌}
use Rattle.std.specs.Char.{is_ascii_digit}
use Rattle.std.specs.List.{AllByRecursion}
use Rattle.ngc_line_reader.specs.declared.token.Operator.{Operator}
use Rattle.ngc_line_reader.specs.declared.token.Operator.TheVariants.{Add, Subtract, Multiply}
use Rattle.ngc_line_reader.specs.declared.token.Operator.TheVariants.{Divide}
use Rattle.ngc_line_reader.specs.declared.letter.Letter.{Letter}
use Rattle.ngc_line_reader.specs.Letter.{letter_byte}
use Rattle.ngc_line_reader.specs.Text.{text}

pub data Sign : Type 0 where
  bare : Sign
  plus : Sign
  minus : Sign

-- a number as it is written (3.3.2.1): an optional sign, digits, and further digits if there is a
-- point
pub record Numeral : Type 0 where
  pub sign : Sign
  pub whole : List ℕ
  pub decimals : Option (List ℕ)

-- A real value: a number; a parameter's value, by its index (3.3.2.2); an expression in brackets
-- (3.3.2.3), as its first value and what follows it there: the bracket's end, or an operator, a
-- value and what follows that.
mutual
  pub data Real : Type 0 where
    number : Numeral → Real
    parameter : Real → Real
    bracket : Real → Rest → Real

  pub data Rest : Type 0 where
    close : Rest
    next : Operator → Real → Rest → Rest

-- a word, its letter and value (3.3.2); a setting, its index and value (3.3.3); a comment in
-- parentheses (3.3.4)
pub data Item : Type 0 where
  word : Letter → Real → Item
  setting : Real → Real → Item
  comment : List ℕ → Item

-- a line: whether it begins with '/', its number's digits (3.3.1), its items, and the text after a
-- semicolon
pub record Reading : Type 0 where
  pub deleted : Bool
  pub number : Option (List ℕ)
  pub items : List Item
  pub remark : Option (List ℕ)

-- the text of each part

abbrev pub sign_text : Sign → List ℕ
sign_text bare = []
sign_text plus = 43 ∷ []
sign_text minus = 45 ∷ []

-- nothing, or the byte in front and the bytes
abbrev pub optional_part : ℕ → Option (List ℕ) → List ℕ
optional_part front None = []
optional_part front (Some bytes) = front ∷ bytes

abbrev pub numeral_text : Numeral → List ℕ
numeral_text n = sign_text n.sign ++ (n.whole ++ optional_part 46 n.decimals)

abbrev pub operator_byte : Operator → ℕ
operator_byte Add = 43
operator_byte Subtract = 45
operator_byte Multiply = 42
operator_byte Divide = 47

abbrev mutual
  pub real_text : Real → List ℕ
  real_text (number n) = numeral_text n
  real_text (parameter index) = 35 ∷ real_text index
  real_text (bracket first rest) = 91 ∷ (real_text first ++ rest_text rest)

  pub rest_text : Rest → List ℕ
  rest_text close = 93 ∷ []
  rest_text (next operator value rest) =
      operator_byte operator ∷ (real_text value ++ rest_text rest)

abbrev pub item_text : Item → List ℕ
item_text (word letter value) = letter_byte letter ∷ real_text value
item_text (setting index value) = 35 ∷ (real_text index ++ (61 ∷ real_text value))
item_text (comment bytes) = 40 ∷ (bytes ++ (41 ∷ []))

abbrev pub items_text : List Item → List ℕ
items_text [] = []
items_text (item ∷ items) = item_text item ++ items_text items

abbrev pub spelling : Reading → List ℕ
spelling r = (if r.deleted then 47 ∷ [] else [])
    ++ (optional_part 78 r.number ++ (items_text r.items ++ optional_part 59 r.remark))

-- what is allowed

abbrev pub IsDigits : List ℕ → Type 0
IsDigits ds = AllByRecursion (λ d. IsTrue (is_ascii_digit d)) ds

abbrev pub digits_of : Option (List ℕ) → List ℕ
digits_of None = []
digits_of (Some ds) = ds

-- digits, and at least one
abbrev pub IsNumeral : Numeral → Type 0
IsNumeral n = IsDigits n.whole × IsDigits (digits_of n.decimals) ×
    (0 < length n.whole + length (digits_of n.decimals))

abbrev mutual
  pub IsReal : Real → Type 0
  IsReal (number n) = IsNumeral n
  IsReal (parameter index) = IsReal index
  IsReal (bracket first rest) = IsReal first × IsRest rest

  pub IsRest : Rest → Type 0
  IsRest close = Unit {0}
  IsRest (next operator value rest) = IsReal value × IsRest rest

-- a comment contains any bytes except parentheses, so comments do not nest
abbrev pub IsItem : Item → Type 0
IsItem (word letter value) = IsReal value
IsItem (setting index value) = IsReal index × IsReal value
IsItem (comment bytes) = AllByRecursion (λ b. (b ≢ 40) × (b ≢ 41)) bytes

-- one to five digits
abbrev pub IsLineNumber : Option (List ℕ) → Type 0
IsLineNumber None = Unit {0}
IsLineNumber (Some ds) = IsDigits ds × (0 < length ds) × (length ds ≤ 5)

abbrev pub IsReading : Reading → Type 0
IsReading r = IsLineNumber r.number × AllByRecursion IsItem r.items

-- The line has this reading: the reading's text is the line's text.
abbrev pub Reads : List ℕ → Reading → Type 0
Reads line r = IsReading r × (spelling r ≡ text line)

-- no text has two readings
abbrev pub OneReading : Type 0
OneReading = (line : List ℕ) (r s : Reading) → Reads line r → Reads line s → r ≡ s

-- a text that does not continue a number
abbrev pub Stops : List ℕ → Type 0
Stops [] = Unit {0}
Stops (b ∷ bs) = (is_ascii_digit b ≡ false) × (b ≢ 46)
