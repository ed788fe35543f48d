-- The lines of a file, in order.
use Rattle.std.proofs.Common.{◌≡◌, ℕ, Option, ◌+◌, ◌<◌, ◌≤◌, List, [], ◌∷◌, length, Bool, true, false, cond, refl, ap, ◌∙◌, arith}
use Rattle.std.specs.Prelude.{◌==◌, ◌-◌, nat_le}
use Rattle.ngc_file_lines.specs.Lines.{longer_first, lines_of, line_of, rest_after_line}
use Rattle.ngc_file_lines.specs.Search.{sought, after, line_from}
use Rattle.ngc_file_lines.specs.Places.{place_from}
use Rattle.ngc_file_lines.specs.declared.search.Seek.{Seek}

-- a byte that is no line feed
longer : (b : ℕ) (bytes : List ℕ) (line rest : List ℕ) → lines_of bytes ≡ line ∷ lines_of rest → longer_first b (lines_of bytes) ≡ (b ∷ line) ∷ lines_of rest
longer b bytes line rest h = ap (longer_first b) h

step : (b : ℕ) (feed : Bool) (bytes : List ℕ) → longer_first b (lines_of bytes) ≡ (b ∷ line_of bytes) ∷ lines_of (rest_after_line bytes)
    → cond feed ([] ∷ lines_of bytes) (longer_first b (lines_of bytes)) ≡ cond feed [] (b ∷ line_of bytes) ∷ lines_of (cond feed bytes (rest_after_line bytes))
step b true bytes h = refl
step b false bytes h = h

pub lines_of-split : (bytes : List ℕ) → 0 < length bytes → lines_of bytes ≡ line_of bytes ∷ lines_of (rest_after_line bytes)
lines_of-split [] h = absurd (omega arith)
lines_of-split (b ∷ []) h = step b (b == 10) [] refl
lines_of-split (b ∷ c ∷ bytes) h =
    step b (b == 10) (c ∷ bytes) (longer b (c ∷ bytes) (line_of (c ∷ bytes)) (rest_after_line (c ∷ bytes)) (lines_of-split (c ∷ bytes) (omega arith)))

shorter : (feed : Bool) (bytes rest : List ℕ) → length rest ≤ length bytes → length (cond feed bytes rest) ≤ length bytes
shorter true bytes rest h = omega arith
shorter false bytes rest h = h

pub rest_after_line-length : (bytes : List ℕ) → length (rest_after_line bytes) ≤ length bytes
rest_after_line-length [] = omega arith
rest_after_line-length (b ∷ bytes) =
    let h : length (cond (b == 10) bytes (rest_after_line bytes)) ≤ length bytes = shorter (b == 10) bytes (rest_after_line bytes) (rest_after_line-length bytes) in
    omega arith

pub rest_after_line-less : (bytes : List ℕ) → 0 < length bytes → length (rest_after_line bytes) < length bytes
rest_after_line-less [] h = absurd (omega arith)
rest_after_line-less (b ∷ bytes) h =
    let h : length (cond (b == 10) bytes (rest_after_line bytes)) ≤ length bytes = shorter (b == 10) bytes (rest_after_line bytes) (rest_after_line-length bytes) in
    omega arith

pub line_from-next : (header key : List ℕ) (table : Option (ℕ × List ℕ)) (ahead number : ℕ) (bytes line afterwards : List ℕ) (is : Seek) → 0 < length bytes → line ≡ line_of bytes →
    afterwards ≡ rest_after_line bytes
    → is ≡ sought header key ahead line
    → line_from header key table ahead number (lines_of bytes) ≡ after is (number, line) table
    (λ still found. line_from header key found still (number + 1) (lines_of afterwards))
line_from-next header key table ahead number bytes line afterwards is h l b s =
    ap (line_from header key table ahead number) (lines_of-split bytes h) ∙ rw (s, l, b) refl

pub filled : (xs : List ℕ) → (length xs == 0) ≡ false → 0 < length xs
filled [] h = cc
filled (x ∷ xs) h = omega arith

pub place_from-next : (number n : ℕ) (bytes line afterwards : List ℕ) → 0 < length bytes → line ≡ line_of bytes → afterwards ≡ rest_after_line bytes
    → place_from number n (lines_of bytes)
    ≡ cond (nat_le n (length line)) (record { number = number; line = line; before = n }) (place_from (number + 1) (n - (length line + 1)) (lines_of afterwards))
place_from-next number n bytes line afterwards h l b =
    ap (place_from number n) (lines_of-split bytes h) ∙ rw (l, b) refl

pub place_from-here : (number n : ℕ) (bytes line afterwards : List ℕ) → 0 < length bytes → line ≡ line_of bytes → afterwards ≡ rest_after_line bytes
    → nat_le n (length line) ≡ true → place_from number n (lines_of bytes) ≡ record { number = number; line = line; before = n }
place_from-here number n bytes line afterwards h l b is =
    place_from-next number n bytes line afterwards h l b ∙ rw (is) refl

pub place_from-later : (number n : ℕ) (bytes line afterwards : List ℕ) → 0 < length bytes → line ≡ line_of bytes → afterwards ≡ rest_after_line bytes
    → nat_le n (length line) ≡ false → place_from number n (lines_of bytes) ≡ place_from (number + 1) (n - (length line + 1)) (lines_of afterwards)
place_from-later number n bytes line afterwards h l b is =
    place_from-next number n bytes line afterwards h l b ∙ rw (is) refl
