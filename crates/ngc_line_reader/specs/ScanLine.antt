-- Reading the items of a line from left to right, with the first fault that they have (our own: the
-- manual names no faults).
use Rattle.std.specs.Prelude.{ℕ, zero, suc, ◌+◌, ◌==◌, ◌&&◌, ◌||◌, nat_le, not, List, [], ◌∷◌, ◌++◌}
use Rattle.std.specs.Prelude.{length, drop, slice_index, Option, Some, None, Bool, Result, Ok, Err}
use Rattle.std.specs.Prelude.{if◌then◌else◌}
use Rattle.std.specs.Char.{is_ascii_digit}
use Rattle.std.specs.List.{prefix_len}
use Rattle.ngc_line_reader.specs.declared.token.Token.{Token}
use Rattle.ngc_line_reader.specs.declared.fault.FaultKind.{FaultKind}
use Rattle.ngc_line_reader.specs.declared.fault.FaultKind.TheVariants.{UnknownCharacter, BadNumber}
use Rattle.ngc_line_reader.specs.declared.fault.FaultKind.TheVariants.{BadWord, BadLineNumber}
use Rattle.ngc_line_reader.specs.declared.fault.FaultKind.TheVariants.{CommentNotClosed}
use Rattle.ngc_line_reader.specs.declared.fault.FaultKind.TheVariants.{CommentNested, Bracket}
use Rattle.ngc_line_reader.specs.declared.fault.FaultKind.TheVariants.{TooManyWords}
use Rattle.ngc_line_reader.specs.declared.fault.LineFault.{LineFault}
use Rattle.ngc_line_reader.specs.declared.fault.ItemRefusal.{ItemRefusal}
use Rattle.ngc_line_reader.specs.declared.fault.ItemRefusal.TheVariants.{OfItem, AtByte}
use Rattle.ngc_line_reader.specs.declared.line.RawWord.{RawWord}
use Rattle.ngc_line_reader.specs.declared.line.RawSetting.{RawSetting}
use Rattle.ngc_line_reader.specs.declared.line.Line.{Line}
use Rattle.ngc_line_reader.specs.declared.letter.Letter.{Letter}
use Rattle.ngc_line_reader.specs.Letter.{letter_of}
use Rattle.ngc_line_reader.specs.Numbers.{digits_value}
use Rattle.ngc_line_reader.specs.Scan.{◌>>=◌, begins, refusal, digits_at, after_digits, real_at}

-- the contents read so far
pub record Parts : Type 0 where
  pub words : List RawWord
  pub settings : List RawSetting
  pub tokens : List Token

abbrev pub parts_of : Line → Parts
parts_of line =
    record { words = line.words.items; settings = line.settings.items; tokens = line.tokens.items }

abbrev pub no_parts : Parts
no_parts = record { words = []; settings = []; tokens = [] }

abbrev pub with_word : (ℕ → ℕ) → Parts → Letter → List ℕ → List Token → Parts
with_word place found letter s tokens =
    record {
      words = found.words
          ++ (record { letter = letter; column = place (length s); first = length found.tokens }
          ∷ []);
      settings = found.settings;
      tokens = tokens;
    }

abbrev pub with_setting : (ℕ → ℕ) → Parts → List ℕ → List Token → List Token → Parts
with_setting place found s index value =
    record {
      words = found.words;
      settings =
          found.settings
          ++ (record {
            column = place (length s);
            index = length found.tokens;
            value = length index;
          }
          ∷ []);
      tokens = value;
    }

-- a word, whose letter is the first byte of s
unfoldable pub word_at : (ℕ → ℕ) → ℕ → Parts → Letter → List ℕ → Result (Parts × List ℕ) ItemRefusal
word_at place room found letter s =
    if length found.words == 64 then Err (OfItem TooManyWords) else (
    real_at place room found.tokens (drop 1 s) >>= λ x.
    Ok (with_word place found letter s x.0, x.1))

-- a setting's value, after its index
unfoldable pub value_after : (ℕ → ℕ) → ℕ → Parts → List ℕ → List Token → List ℕ →
    Result (Parts × List ℕ) ItemRefusal
value_after place room found s index r =
    if begins 61 r
    then (real_at place room index (drop 1 r) >>= λ x.
    Ok (with_setting place found s index x.0, x.1)) else Err (refusal BadNumber r)

unfoldable pub setting_at : (ℕ → ℕ) → ℕ → Parts → List ℕ → Result (Parts × List ℕ) ItemRefusal
setting_at place room found s =
    real_at place room found.tokens (drop 1 s) >>= λ x. value_after place room found s x.0 x.1

abbrev pub is_comment_byte : ℕ → Bool
is_comment_byte b = not (b == 40) && not (b == 41)

abbrev pub after_comment : List ℕ → List ℕ
after_comment s = drop (prefix_len is_comment_byte s) s

-- the text after a comment
abbrev pub comment_at : List ℕ → Result (List ℕ) ItemRefusal
comment_at s =
    if begins 41 (after_comment (drop 1 s)) then Ok (drop 1 (after_comment (drop 1 s))) else (
    if begins 40 (after_comment (drop 1 s)) then Err (OfItem CommentNested)
    else Err (OfItem CommentNotClosed))

-- why no item begins with this byte: a letter; a number; a bracket; another character
abbrev pub start_fault : ℕ → FaultKind
start_fault b =
    if nat_le 65 b && nat_le b 90 then BadWord else (
    if is_ascii_digit b || (b == 43) || (b == 45) || (b == 46) then BadNumber else (
    if (b == 91) || (b == 93) then Bracket else UnknownCharacter))

-- the result for a letter, or else for another item
abbrev pub by_letter : {A : Type 0} → Option Letter → (Letter → A) → A → A
by_letter None word other = other
by_letter (Some letter) word other = word letter

-- an item that begins with no letter
unfoldable pub other_item_at : (ℕ → ℕ) → ℕ → Parts → List ℕ → Result (Parts × List ℕ) ItemRefusal
other_item_at place room found s =
    if begins 35 s then setting_at place room found s else (
    if begins 40 s then (comment_at s >>= λ r. Ok (found, r)) else
    Err (OfItem (start_fault (slice_index s 0))))

unfoldable pub item_at : (ℕ → ℕ) → ℕ → Parts → List ℕ → Result (Parts × List ℕ) ItemRefusal
item_at place room found s = by_letter (letter_of (slice_index s 0))
    (λ letter. word_at place room found letter s) (other_item_at place room found s)

abbrev pub fault_at : FaultKind → ℕ → LineFault
fault_at kind column = record { kind = kind; column = column }

-- a refusal with its column: that of the item at s, or of the unknown character
abbrev pub refused_at : (ℕ → ℕ) → List ℕ → ItemRefusal → LineFault
refused_at place s (OfItem kind) = fault_at kind (place (length s))
refused_at place s (AtByte left) = fault_at UnknownCharacter (place left)

abbrev pub located : {A : Type 0} → (ℕ → ℕ) → List ℕ → Result A ItemRefusal → Result A LineFault
located place s (Ok x) = Ok x
located place s (Err e) = Err (refused_at place s e)

unfoldable pub items_at : (ℕ → ℕ) → ℕ → Parts → List ℕ → Result Parts LineFault
items_at place zero found s = Err (fault_at BadWord 0)
items_at place (suc room) found s =
    if length s == 0 then Ok found else (
    if begins 59 s then Ok found else (
    located place s (item_at place room found s) >>= λ x. items_at place room x.0 x.1))

-- a line number's digits, and the rest
abbrev pub numbered : List ℕ → List ℕ → Result (Option ℕ × List ℕ) ItemRefusal
numbered ds r =
    if length ds == 0 then Err (refusal BadLineNumber r) else (
    if nat_le 6 (length ds) then Err (OfItem BadLineNumber) else (
    if begins 46 r then Err (OfItem BadLineNumber) else Ok (Some (digits_value ds), r)))

unfoldable pub line_number_at : List ℕ → Result (Option ℕ × List ℕ) ItemRefusal
line_number_at s =
    if begins 78 s then numbered (digits_at (drop 1 s)) (after_digits (drop 1 s)) else Ok (None, s)

-- the contents of a line
pub record ParsedLine : Type 0 where
  pub deleted : Bool
  pub number : Option ℕ
  pub parts : Parts

abbrev pub parsed_line_of : Line → ParsedLine
parsed_line_of line = record { deleted = line.deleted; number = line.number; parts = parts_of line }

abbrev pub after_slash : List ℕ → List ℕ
after_slash s = if begins 47 s then drop 1 s else s

unfoldable pub text_at : (ℕ → ℕ) → List ℕ → Result ParsedLine LineFault
text_at place s =
    located place (after_slash s) (line_number_at (after_slash s)) >>= λ x.
    items_at place (length s + 1) no_parts x.1 >>= λ parts.
    Ok (record { deleted = begins 47 s; number = x.0; parts = parts })
