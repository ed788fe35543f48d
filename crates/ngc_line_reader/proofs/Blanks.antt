-- Leading white space changes no text, so the bytes tell whether a line is blank or a percent line.
use Rattle.std.proofs.Common.{◌≡◌, ◌≢◌, ℕ, ap, Bool, true, false, List, [], ◌∷◌, length, refl, ◌∙◌, arith}
use Rattle.std.specs.Prelude.{◌==◌, ◌&&◌, nat_le}
use Rattle.std.proofs.lemmas.Bool.Decides.{nat_tests}
use Rattle.ngc_line_reader.specs.Text.{text, upper}
use Rattle.ngc_line_reader.specs.Program.{is_blank_text, is_percent_text}
use Rattle.ngc_line_reader.specs.Load.{is_blank, is_percent, after_blanks}

abbrev pub blank_bytes : List ℕ → Bool
blank_bytes [] = true
blank_bytes (b ∷ rest) = (b == 13) && (length rest == 0)

abbrev pub percent_bytes : List ℕ → Bool
percent_bytes [] = false
percent_bytes (b ∷ rest) = (b == 37) && is_blank_text (text rest)

-- a byte that is not blank is a percent sign in the text only if it is one
upper_percent : (b : ℕ) → (upper b == 37) ≡ (b == 37)
upper_percent b = by_test (nat_le 97 b && nat_le b 122) refl where
  by_test : (x : Bool) → (nat_le 97 b && nat_le b 122) ≡ x → (upper b == 37) ≡ (b == 37)
  by_test true e = rw e (grind (arith, nat_tests))
  by_test false e = rw e refl

-- neither parenthesis nor semicolon
plain : (b n : ℕ) → (b == n) ≡ true → n ≢ 40 → n ≢ 59 → ((b == 40) ≡ false) × ((b == 59) ≡ false)
plain b n e h k = (grind (arith, nat_tests), grind (arith, nat_tests))

text_space : (b : ℕ) (rest : List ℕ) → (b == 32) ≡ true → text (b ∷ rest) ≡ text rest
text_space b rest e = let p = plain b 32 e (omega arith) (omega arith) in rw (e, p.0, p.1) refl

text_tab : (b : ℕ) (rest : List ℕ) → (b == 32) ≡ false → (b == 9) ≡ true → text (b ∷ rest) ≡ text rest
text_tab b rest e f = let p = plain b 9 f (omega arith) (omega arith) in rw (e, f, p.0, p.1) refl

-- the text of a line that begins with no blank
record Begins (b : ℕ) (rest : List ℕ) : Type 0 where
  blank : is_blank_text (text (b ∷ rest)) ≡ ((b == 13) && (length rest == 0))
  percent : is_percent_text (text (b ∷ rest)) ≡ ((b == 37) && is_blank_text (text rest))

begins_return : (b : ℕ) (rest : List ℕ) → (b == 32) ≡ false → (b == 9) ≡ false → (b == 13) ≡ true → Begins b rest
begins_return b [] e f g =
    let no : (b == 37) ≡ false = grind (arith, nat_tests) in
    record { blank = rw (e, f, g) refl; percent = rw (e, f, g, no) refl }
begins_return b (c ∷ rest) e f g =
    let no : (b == 37) ≡ false = grind (arith, nat_tests) in
    let up : (upper b == 37) ≡ false = upper_percent b ∙ no in
    let more : (length (c ∷ rest) == 0) ≡ false = grind (arith, nat_tests) in
    record { blank = rw (e, f, g, more) refl; percent = rw (e, f, g, no, more, up) refl }

begins_other : (b : ℕ) (rest : List ℕ) (x : Bool) → (b == 32) ≡ false → (b == 9) ≡ false → (b == 13) ≡ false → (b == 37) ≡ x → Begins b rest
begins_other b rest true e f g h =
    let p = plain b 37 h (omega arith) (omega arith) in
    let up : (upper b == 37) ≡ true = upper_percent b ∙ h in
    record { blank = rw (e, f, g) refl; percent = rw (e, f, g, h, p.0, p.1, up) refl }
begins_other b rest false e f g h =
    let up : (upper b == 37) ≡ false = upper_percent b ∙ h in
    record { blank = rw (e, f, g) refl; percent = rw (e, f, g, h, up) refl }

begins_with : (b : ℕ) (rest : List ℕ) (x : Bool) → (b == 32) ≡ false → (b == 9) ≡ false → (b == 13) ≡ x → Begins b rest
begins_with b rest true e f g = begins_return b rest e f g
begins_with b rest false e f g = begins_other b rest (b == 37) e f g refl

-- the bytes after the leading blanks tell whether a line is blank or has only a percent sign
record IsSeen (l : List ℕ) : Type 0 where
  blank : is_blank_text (text l) ≡ blank_bytes (after_blanks l)
  percent : is_percent_text (text l) ≡ percent_bytes (after_blanks l)

seen_at : (b : ℕ) (rest : List ℕ) (x y : Bool) → (b == 32) ≡ x → (b == 9) ≡ y → IsSeen rest → IsSeen (b ∷ rest)
seen_at b rest true y e f s =
    let t = text_space b rest e in
    record { blank = ap is_blank_text t ∙ rw e s.blank; percent = ap is_percent_text t ∙ rw e s.percent }
seen_at b rest false true e f s =
    let t = text_tab b rest e f in
    record { blank = ap is_blank_text t ∙ rw (e, f) s.blank; percent = ap is_percent_text t ∙ rw (e, f) s.percent }
seen_at b rest false false e f s =
    let w = begins_with b rest (b == 13) e f refl in
    record { blank = w.blank ∙ rw (e, f) refl; percent = w.percent ∙ rw (e, f) refl }

seen : (l : List ℕ) → IsSeen l
seen [] = record { blank = refl; percent = refl }
seen (b ∷ rest) = seen_at b rest (b == 32) (b == 9) refl refl (seen rest)

pub blank_by_bytes : (l : List ℕ) → is_blank l ≡ blank_bytes (after_blanks l)
blank_by_bytes l = (seen l).blank

pub percent_by_bytes : (l : List ℕ) → is_percent l ≡ (nat_le (length l) 256 && percent_bytes (after_blanks l))
percent_by_bytes l = ap (λ (x : Bool). nat_le (length l) 256 && x) (seen l).percent
