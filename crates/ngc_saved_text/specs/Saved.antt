-- A text as an editor saves it, and as it is read. The byte order mark of UTF-8 is RFC 3629's, section 6; what
-- is left out of a text is our own.
use Rattle.std.specs.Prelude.{ℕ, List, [], ◌∷◌, ◌++◌, Bool, true, false, Option, if◌then◌else◌, option_map, take, drop}
use Rattle.std.specs.Prelude.{◌==◌, ◌&&◌, ◌||◌, ◌≡◌, IfSome, length, nat_le, nat_lt}
use Rattle.std.specs.Str.{bytes_eq}
use Rattle.ngc_saved_text.specs.declared.returns.Held.{Held}
use Rattle.ngc_saved_text.specs.declared.returns.Held.TheVariants as held

-- the byte order mark in UTF-8: EF BB BF
abbrev pub byte_order_mark : List ℕ
byte_order_mark = 239 ∷ 187 ∷ 191 ∷ []

abbrev pub has_mark : List ℕ → Bool
has_mark text = bytes_eq (take 3 text) byte_order_mark

-- a text without the byte order mark at its beginning
abbrev pub without_mark : List ℕ → List ℕ
without_mark text = if has_mark text then drop 3 text else text

-- a text begins with a line feed
abbrev pub begins_with_feed : List ℕ → Bool
begins_with_feed [] = false
begins_with_feed (byte ∷ rest) = byte == 10

-- a byte is a carriage return, and a line feed follows
abbrev pub is_line_end : ℕ → List ℕ → Bool
is_line_end byte rest = (byte == 13) && begins_with_feed rest

abbrev pub ends_line : List ℕ → Bool
ends_line [] = false
ends_line (byte ∷ rest) = is_line_end byte rest

-- a text without each carriage return that a line feed follows
abbrev pub without_returns : List ℕ → List ℕ
without_returns [] = []
without_returns (byte ∷ rest) =
    if is_line_end byte rest then without_returns rest else byte ∷ without_returns rest

-- a text has a carriage return that a line feed follows
abbrev pub has_return : List ℕ → Bool
has_return [] = false
has_return (byte ∷ rest) = is_line_end byte rest || has_return rest

-- the text of all bytes is made of those at the front, `count` of them, and of those from `place` on
abbrev pub IsMoved : List ℕ → List ℕ → ℕ → ℕ → Type 0
IsMoved all bytes count place = without_returns all ≡ take count bytes ++ without_returns (drop place bytes)

-- What is read of a saved text. A text in lines of a fixed form, as a certificate is, has no carriage
-- returns at the ends of its lines.
abbrev pub read_text : Bool → List ℕ → List ℕ
read_text in_lines text =
    if in_lines then without_returns (without_mark text) else without_mark text

-- These first bytes of a text don't tell whether it has the mark. Bytes from FE up begin the marks of UTF-16, FE FF
-- and FF FE.
abbrev pub is_undecided : List ℕ → Bool
is_undecided [] = true
is_undecided (byte ∷ rest) = (byte == 239 || nat_le 254 byte) && nat_lt (length rest) 2

-- what is given out of the first bytes, if they are all or tell
abbrev pub given_of : List ℕ → List ℕ
given_of front = if bytes_eq front byte_order_mark then [] else front

-- the first bytes and those that are left tell that these are given out
abbrev pub IsTold : List ℕ → Option (List ℕ) → Type 0
IsTold front known = IfSome known (λ rest. without_mark (front ++ rest) ≡ given_of front ++ rest)

-- ---- what is left of a source

-- The bytes that are left after those that were held back, where the source's are known. The mark is looked
-- for at the beginning alone.
abbrev pub unmarked_rest : Bool → List ℕ → List ℕ → List ℕ
unmarked_rest is_at_start front rest = if is_at_start then without_mark (front ++ rest) else front ++ rest

abbrev pub unmarked_remaining : Bool → List ℕ → Option (List ℕ) → Option (List ℕ)
unmarked_remaining is_at_start front known = option_map (unmarked_rest is_at_start front) known

-- a carriage return that was held back until the next byte is known, or a byte that isn't one
abbrev pub unreturned_rest : Held → List ℕ → List ℕ
unreturned_rest held.Nothing rest = without_returns rest
unreturned_rest held.Return rest = without_returns (13 ∷ rest)
unreturned_rest (held.Byte byte) rest = byte ∷ without_returns rest

abbrev pub unreturned_remaining : Held → Option (List ℕ) → Option (List ℕ)
unreturned_remaining held known = option_map (unreturned_rest held) known
