-- The first line of a text, and lines by their number.
use Rattle.std.proofs.Common.{◌≡◌, ◌≢◌, ◌≤◌, ◌+◌, ◌-◌, ℕ, List, [], ◌∷◌, ◌++◌, length, take, drop, Bool, true, false, Some, None, ap, sym, ◌∙◌, refl, arith}
use Rattle.std.specs.Prelude.{◌==◌}
use Rattle.std.proofs.lemmas.Bool.Decides.{nat_tests}
use Rattle.std.proofs.lemmas.List.{take_all, drop-drop, length-drop}
use Rattle.memchr.specs.Find.{IsFirstByte, is_byte}
use Rattle.ngc_line_reader.specs.Load.{HasNoLineFeed, IsSplit}
use Rattle.ngc_line_reader.specs.Program.{split_lines, numbered, lines_of}
use Rattle.ngc_line_reader.proofs.Feeds.{feed_found, no_feed_found, split_last}
use Rattle.ngc_report.specs.Quotes.{bytes_with}

not_feed : (b : ℕ) → b ≢ 10 → (b == 10) ≡ false
not_feed b h = grind (arith, nat_tests)

split_here : (line rest : List ℕ) → HasNoLineFeed line → split_lines (line ++ (10 ∷ rest)) ≡ line ∷ split_lines rest
split_here [] rest h = refl
split_here (b ∷ line) rest h = rw (not_feed b h.0, split_here line rest h.1) refl

-- a line feed is found
pub first_line : (bytes : List ℕ) (end : ℕ) → IsFirstByte (is_byte 10) bytes (Some end)
    → split_lines bytes ≡ take end bytes ∷ split_lines (take (length bytes - (end + 1)) (drop (end + 1) bytes))
first_line bytes end h =
    let s : IsSplit bytes (take end bytes) (drop 1 (drop end bytes)) = feed_found bytes end h in
    let rest : drop 1 (drop end bytes) ≡ take (length bytes - (end + 1)) (drop (end + 1) bytes) =
    drop-drop 1 end bytes ∙ sym (take_all (length bytes - (end + 1)) (drop (end + 1) bytes) (omega (arith, length-drop (end + 1) bytes))) in
    ap split_lines s.parts ∙ split_here (take end bytes) (drop 1 (drop end bytes)) s.feedless ∙ ap (λ (l : List ℕ). take end bytes ∷ split_lines l) rest

nothing : (n : ℕ) (xs : List ℕ) → take (n - n) xs ≡ []
nothing n xs = let none : n - n ≡ 0 = omega arith in rw none refl

-- none is
pub only_line : (bytes : List ℕ) → 1 ≤ length bytes → IsFirstByte (is_byte 10) bytes None
    → split_lines bytes ≡ bytes ∷ split_lines (take (length bytes - length bytes) (drop (length bytes) bytes))
only_line [] some h = absurd (omega (arith, some))
only_line (b ∷ bytes) some h =
    let none : take (length (b ∷ bytes) - length (b ∷ bytes)) (drop (length (b ∷ bytes)) (b ∷ bytes)) ≡ [] =
    nothing (length (b ∷ bytes)) (drop (length (b ∷ bytes)) (b ∷ bytes)) in
    split_last b bytes (no_feed_found (b ∷ bytes) h) ∙ ap (λ (l : List ℕ). (b ∷ bytes) ∷ split_lines l) (sym none)

-- ---- by number

same_step : (f n : ℕ) → (f + 1 == n + 1) ≡ (f == n)
same_step f n = by (f == n) refl where
  by : (b : Bool) → (f == n) ≡ b → (f + 1 == n + 1) ≡ b
  by true h = grind (arith, nat_tests)
  by false h = grind (arith, nat_tests)

never : (f : ℕ) → (f + 1 == 0) ≡ false
never f = grind (arith, nat_tests)

shifted : (n f : ℕ) (lines : List (List ℕ)) → bytes_with (n + 1) (numbered (f + 1) lines) ≡ bytes_with n (numbered f lines)
shifted n f [] = refl
shifted n f (l ∷ lines) = by (f == n) refl (shifted n (f + 1) lines) where
  by : (b : Bool) → (f == n) ≡ b → bytes_with (n + 1) (numbered (f + 1 + 1) lines) ≡ bytes_with n (numbered (f + 1) lines)
      → bytes_with (n + 1) (numbered (f + 1) (l ∷ lines)) ≡ bytes_with n (numbered f (l ∷ lines))
  by true h later = rw (same_step f n, h) refl
  by false h later = rw (same_step f n, h) later

pub none_numbered : (f : ℕ) (lines : List (List ℕ)) → bytes_with 0 (numbered (f + 1) lines) ≡ None
none_numbered f [] = refl
none_numbered f (l ∷ lines) = rw (never f) (none_numbered (f + 1) lines)

pub none_in_nothing : (n : ℕ) (text : List ℕ) (empty : Bool) → empty ≡ (length text == 0) → empty ≡ true → bytes_with n (lines_of text) ≡ None
none_in_nothing n [] empty is true_of = refl
none_in_nothing n (b ∷ text) empty is true_of = absurd (grind (arith, nat_tests))

-- the first
pub the_first : (text line rest : List ℕ) → split_lines text ≡ line ∷ split_lines rest → bytes_with 1 (lines_of text) ≡ Some line
the_first text line rest is = ap (λ (ls : List (List ℕ)). bytes_with 1 (numbered 1 ls)) is

-- another
pub behind_it : (n : ℕ) (text line rest : List ℕ) → split_lines text ≡ line ∷ split_lines rest → 1 ≤ n → n ≢ 1
    → bytes_with n (lines_of text) ≡ bytes_with (n - 1) (lines_of rest)
behind_it n text line rest is some other =
    let no : (1 == n) ≡ false = grind (arith, nat_tests) in
    let one : n ≡ (n - 1) + 1 = omega arith in
    ap (λ (ls : List (List ℕ)). bytes_with n (numbered 1 ls)) is ∙ rw no refl ∙ ap (λ k. bytes_with k (numbered 2 (split_lines rest))) one
    ∙ shifted (n - 1) 1 (split_lines rest)
