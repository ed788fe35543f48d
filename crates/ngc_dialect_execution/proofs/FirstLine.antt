-- The first line of a text.
use Rattle.std.proofs.Common.{◌≡◌, ◌≢◌, ◌≤◌, ◌+◌, ◌-◌, ℕ, List, [], ◌∷◌, ◌++◌, length, take, drop, false, Some, None, ap, sym, ◌∙◌, refl, arith}
use Rattle.std.specs.Prelude.{◌==◌}
use Rattle.std.proofs.lemmas.Bool.Decides.{nat_tests}
use Rattle.std.proofs.lemmas.List.{take_all, drop-drop, length-drop}
use Rattle.memchr.specs.Find.{IsFirstByte, is_byte}
use Rattle.ngc_line_reader.specs.Load.{HasNoLineFeed, IsSplit}
use Rattle.ngc_line_reader.specs.Program.{split_lines}
use Rattle.ngc_line_reader.proofs.Feeds.{feed_found, no_feed_found, split_last}

not_feed : (b : ℕ) → b ≢ 10 → (b == 10) ≡ false
not_feed b h = grind (arith, nat_tests)

split_here : (line rest : List ℕ) → HasNoLineFeed line → split_lines (line ++ (10 ∷ rest)) ≡ line ∷ split_lines rest
split_here [] rest h = refl
split_here (b ∷ line) rest h = rw (not_feed b h.0, split_here line rest h.1) refl

-- a line feed is found
pub before_feed : (bytes : List ℕ) (end : ℕ) → IsFirstByte (is_byte 10) bytes (Some end)
    → split_lines bytes ≡ take end bytes ∷ split_lines (take (length bytes - (end + 1)) (drop (end + 1) bytes))
before_feed bytes end h =
    let s : IsSplit bytes (take end bytes) (drop 1 (drop end bytes)) = feed_found bytes end h in
    let rest : drop 1 (drop end bytes) ≡ take (length bytes - (end + 1)) (drop (end + 1) bytes) =
    drop-drop 1 end bytes ∙ sym (take_all (length bytes - (end + 1)) (drop (end + 1) bytes) (omega (arith, length-drop (end + 1) bytes))) in
    ap split_lines s.parts ∙ split_here (take end bytes) (drop 1 (drop end bytes)) s.feedless ∙ ap (λ (l : List ℕ). take end bytes ∷ split_lines l) rest

nothing : (n : ℕ) (xs : List ℕ) → take (n - n) xs ≡ []
nothing n xs = let none : n - n ≡ 0 = omega arith in rw none refl

-- none is
pub only_line : (bytes : List ℕ) → 1 ≤ length bytes → IsFirstByte (is_byte 10) bytes None
    → split_lines bytes ≡ bytes ∷ split_lines (take (length bytes - length bytes) (drop (length bytes) bytes))
only_line [] some h = absurd (omega (arith, some))
only_line (b ∷ bytes) some h =
    let none : take (length (b ∷ bytes) - length (b ∷ bytes)) (drop (length (b ∷ bytes)) (b ∷ bytes)) ≡ [] =
    nothing (length (b ∷ bytes)) (drop (length (b ∷ bytes)) (b ∷ bytes)) in
    split_last b bytes (no_feed_found (b ∷ bytes) h) ∙ ap (λ (l : List ℕ). (b ∷ bytes) ∷ split_lines l) (sym none)
