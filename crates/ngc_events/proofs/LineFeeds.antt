-- Where the first line of a text ends.
use Rattle.std.proofs.Common.{◌≡◌, ℕ, zero, suc, ◌+◌, ◌-◌, ◌<◌, ap, length-drop, Bool, true, false, List, [], ◌∷◌, length, take, drop, get_or, refl, ◌∙◌, arith}
use Rattle.std.specs.Prelude.{◌==◌, Some, None}
use Rattle.std.specs.List.{slice_split, onto_first}
use Rattle.std.proofs.lemmas.List.{take_all}
use Rattle.memchr.specs.Find.{IsFirstByte, is_byte}

-- the lines of a text, and at the end the part after the last line feed
abbrev pub lines_of : List ℕ → List (List ℕ)
lines_of text = slice_split (λ b. b == 10) text

-- there is always a last part
pub some_lines : (text : List ℕ) → (x : List ℕ) × (xs : List (List ℕ)) × (lines_of text ≡ x ∷ xs)
some_lines [] = ([], [], refl)
some_lines (b ∷ rest) = by_byte b rest (b == 10) refl where
  onto : (b : ℕ) (parts : List (List ℕ)) → (x : List ℕ) × (xs : List (List ℕ)) × (onto_first b parts ≡ x ∷ xs)
  onto b [] = (b ∷ [], [], refl)
  onto b (part ∷ parts) = (b ∷ part, parts, refl)

  by_byte : (b : ℕ) (rest : List ℕ) (c : Bool) → (b == 10) ≡ c → (x : List ℕ) × (xs : List (List ℕ)) × (lines_of (b ∷ rest) ≡ x ∷ xs)
  by_byte b rest true e = ([], lines_of rest, rw e refl)
  by_byte b rest false e = let o = onto b (lines_of rest) in (o.0, o.1, rw e o.2)

no_feed : (b : Bool) → (b ≡ true → ⊥) → b ≡ false
no_feed true h = absurd (h refl)
no_feed false h = refl

feed_at : (text : List ℕ) (k : ℕ) → k < length text → (get_or text k 0 == 10) ≡ true → ((j : ℕ) → j < k → (get_or text j 0 == 10) ≡ false)
    → lines_of text ≡ take k text ∷ lines_of (drop (suc k) text)
feed_at [] k h e before = absurd (omega (arith, h))
feed_at (b ∷ rest) zero h e before = rw e refl
feed_at (b ∷ rest) (suc k) h e before = rw (before 0 (omega arith), feed_at rest k (omega arith) e (λ j l. before (suc j) (omega arith))) refl

-- the first line ends at the first line feed
pub feed_found : (text : List ℕ) (k : ℕ) → IsFirstByte (is_byte 10) text (Some k) → lines_of text ≡ take k text ∷ lines_of (drop (k + 1) text)
feed_found text k h =
    feed_at text k h.0.high h.1 (λ j l. no_feed (get_or text j 0 == 10) (h.0.before j (omega arith) l))
    ∙ ap (λ (n : ℕ). take k text ∷ lines_of (drop n text)) (by_one k) where
      by_one : (k : ℕ) → suc k ≡ k + 1
      by_one k = omega arith

feedless : (text : List ℕ) → ((j : ℕ) → j < length text → (get_or text j 0 == 10) ≡ false) → lines_of text ≡ text ∷ []
feedless [] none = refl
feedless (b ∷ rest) none = rw (none 0 (omega arith), feedless rest (λ j l. none (suc j) (omega arith))) refl

pub no_feed_found : (text : List ℕ) → IsFirstByte (is_byte 10) text None → lines_of text ≡ text ∷ []
no_feed_found text h = feedless text (λ j l. no_feed (get_or text j 0 == 10) (h j (omega arith) l))

-- the text after the first line feed
pub rest_of : (text : List ℕ) (k : ℕ) → IsFirstByte (is_byte 10) text (Some k)
    → (take (length text - (k + 1)) (drop (k + 1) text) ≡ drop (k + 1) text) × (length (take (length text - (k + 1)) (drop (k + 1) text)) < length text)
rest_of text k h =
    let whole = take_all (length text - (k + 1)) (drop (k + 1) text) (omega (arith, length-drop (k + 1) text)) in
    (whole, omega (arith, ap length whole, length-drop (k + 1) text, h.0.high))
