-- What reads a line's text from left to right: it takes the parts so far and the text that is left,
-- and answers the same, or why the text can't be read from there (our own).
use Rattle.std.specs.Prelude.{ℕ, ◌==◌, ◌&&◌, ◌||◌, nat_le, not, false, List, [], ◌∷◌, ◌++◌, length, drop}
use Rattle.std.specs.Prelude.{Option, Some, None, Bool, Result, Ok, Err, if◌then◌else◌}
use Rattle.std.specs.List.{prefix_len}
use Rattle.ngc_line_reader.specs.Scan.{begins}
use Rattle.ngc_dialect_reader.specs.declared.fault.Cause.{Cause}
use Rattle.ngc_dialect_reader.specs.declared.fault.Cause.TheVariants as causes
use Rattle.ngc_dialect_reader.specs.declared.fault.Refusal.{Refusal}
use Rattle.ngc_dialect_reader.specs.declared.part.Part.{Part}
use Rattle.ngc_dialect_reader.specs.declared.part.PartKind.{PartKind}
use Rattle.ngc_dialect_reader.specs.declared.part.Name.{Name}
use Rattle.ngc_dialect_reader.specs.Number.{refusal}

abbrev pub Answer : Type 0
Answer = Result (List Part × List ℕ) Refusal

abbrev pub Reader : Type 0
Reader = List Part → List ℕ → Answer

-- a line has at most 128 parts
abbrev pub PARTS : ℕ
PARTS = 128

-- the parts with one more, which begins at s
abbrev pub add : PartKind → List ℕ → List Part → Result (List Part) Refusal
add kind s found =
    if length found == 128 then Err (refusal causes.TooManyParts (length s))
    else Ok (found ++ (record { kind = kind; left = length s } ∷ []))

-- the same, with what is left
abbrev pub added : PartKind → List ℕ → List Part → List ℕ → Answer
added kind s found rest =
    if length found == 128 then Err (refusal causes.TooManyParts (length s))
    else Ok (found ++ (record { kind = kind; left = length s } ∷ []), rest)

-- the rest after an expected byte; `from` is the text that it closes
abbrev pub closed : ℕ → Cause → List ℕ → List ℕ → Result (List ℕ) Refusal
closed byte cause from s =
    if begins byte s then Ok (drop 1 s) else (
    if length s == 0 then Err (refusal cause (length from))
    else Err (refusal causes.UnexpectedCharacter (length s)))

-- the rest after a byte that must be there
abbrev pub needed : ℕ → Cause → List ℕ → Result (List ℕ) Refusal
needed byte cause s = if begins byte s then Ok (drop 1 s) else Err (refusal cause (length s))

abbrev pub is_letter : ℕ → Bool
is_letter b = nat_le 65 b && nat_le b 90

abbrev pub begins_letter : List ℕ → Bool
begins_letter [] = false
begins_letter (b ∷ s) = is_letter b

abbrev pub word_length : List ℕ → ℕ
word_length s = prefix_len is_letter s

-- A name: all bytes up to '>', at least one, and no comment. s is the text after '<'.
abbrev pub is_in_name : ℕ → Bool
is_in_name b = not (b == 62) && not (b == 40)

abbrev pub name_length : List ℕ → ℕ
name_length s = prefix_len is_in_name s

abbrev pub name_at : List ℕ → Result (Name × List ℕ) Refusal
name_at s =
    if not (name_length s == 0) && begins 62 (drop (name_length s) s)
    then Ok (record { left = length s; size = name_length s }, drop 1 (drop (name_length s) s))
    else Err (refusal causes.NameNotClosed (length s))

abbrev pub is_mark : ℕ → Bool
is_mark b = b == 40

-- the text without the comments at its front
abbrev pub after_comments : List ℕ → List ℕ
after_comments s = drop (prefix_len is_mark s) s

-- nothing but comments may follow
abbrev pub ended : List Part → List ℕ → Answer
ended found s =
    if length (after_comments s) == 0 then Ok (found, [])
    else Err (refusal causes.TextAfterEnd (length (after_comments s)))
