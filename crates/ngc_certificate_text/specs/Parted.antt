-- A certificate's text that arrives in pieces of any size: the part that is already certain. Our
-- own: a fault is returned as soon as it is certain.
use Rattle.std.specs.Prelude.{◌≡◌, ℕ, ◌<◌, ◌==◌, nat_le, List, [], ◌∷◌, ◌++◌, length, IsTrue, Bool}
use Rattle.std.specs.Prelude.{not, if◌then◌else◌}
use Rattle.std.specs.List.{list_all}
use Rattle.ngc_certificate_text.specs.ParsedPart.{lines_of}

-- The bytes that are certain whatever follows, after the beginning of a line: those of lines that a
-- line feed ends, and of a line that already has more than 256 bytes.
abbrev pub certain_after : List ℕ → List ℕ → List ℕ
certain_after line [] = if nat_le (length line) 256 then [] else line
certain_after line (b ∷ bytes) =
    if b == 10 then line ++ (10 ∷ certain_after [] bytes) else certain_after (line ++ (b ∷ [])) bytes

abbrev pub firm : List ℕ → List ℕ
firm bytes = certain_after [] bytes

-- the lines of the certain bytes and of others after them
abbrev pub firm_lines : List ℕ → List ℕ → List (List ℕ)
firm_lines rest bytes = lines_of (firm bytes ++ rest)

-- ---- lines

-- no byte is a line feed
abbrev pub is_feedless : List ℕ → Bool
is_feedless bytes = list_all (λ b. not (b == 10)) bytes

-- bytes that a line feed splits
pub record IsSplit (bytes line afterwards : List ℕ) : Type 0 where
  pub feedless : IsTrue (is_feedless line)
  pub parts : bytes ≡ line ++ (10 ∷ afterwards)

-- the first of some lines begins in this way
pub record GoesOn (lines : List (List ℕ)) (line : List ℕ) : Type 0 where
  pub more : List ℕ
  pub afterwards : List (List ℕ)
  pub split : lines ≡ (line ++ more) ∷ afterwards

-- A way to split bytes into lines: a line feed ends one, and one that is already too long continues
-- with whatever follows.
pub record PartsLines (lines : List ℕ → List (List ℕ)) : Type 0 where
  pub ends : (line rest : List ℕ) → IsTrue (is_feedless line) →
      lines (line ++ (10 ∷ rest)) ≡ line ∷ lines rest
  pub long : (line rest : List ℕ) → IsTrue (is_feedless line) → 256 < length line →
      GoesOn (lines (line ++ rest)) line
  pub some : (bytes : List ℕ) → GoesOn (lines bytes) []
