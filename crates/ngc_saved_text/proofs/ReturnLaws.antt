-- Texts without the carriage returns before line feeds, piece by piece.
use Rattle.std.proofs.Common.{◌≡◌, ℕ, zero, suc, ◌+◌, ◌-◌, ◌<◌, ◌≤◌, Bool, true, false, List, [], ◌∷◌, ◌++◌, None, refl, sym, ap, ◌∙◌, length, take, drop, append_assoc, append-nil, arith}
use Rattle.std.specs.Prelude.{◌==◌, ◌&&◌, ◌||◌, if◌then◌else◌, slice_index_or, slice_set}
use Rattle.std.proofs.lemmas.List.{drop_more, drop-set-lt, take_rest}
use Rattle.std.proofs.lemmas.Bool.{both_ways}
use Rattle.std.proofs.lemmas.Grind.{take-set_at}
use Rattle.memchr.specs.Find.{IsFirstByte, is_byte}
use Rattle.ngc_saved_text.specs.Saved.{IsMoved, ends_line, has_return, is_line_end, without_returns}

pub left_first : (byte : ℕ) (rest : List ℕ) → is_line_end byte rest ≡ true → without_returns (byte ∷ rest) ≡ without_returns rest
left_first byte rest e = rw e refl

pub kept_first : (byte : ℕ) (rest : List ℕ) → is_line_end byte rest ≡ false → without_returns (byte ∷ rest) ≡ byte ∷ without_returns rest
kept_first byte rest e = rw e refl

-- ---- the loop

pub left_out : (bytes : List ℕ) (count place : ℕ) (b : Bool) → place < length bytes → b ≡ ends_line (take (length bytes - place) (drop place bytes)) → b ≡ true
    → (all : List ℕ) → IsMoved all bytes count place → IsMoved all bytes count (place + 1)
left_out bytes count place b h ends is all moved =
    let first = drop_more bytes place 0 h in
    let e = sym (ap ends_line first) ∙ sym (ap ends_line (take_rest bytes place)) ∙ sym ends ∙ is in
    moved ∙ ap (λ l. take count bytes ++ l)
    (ap without_returns first ∙ left_first (slice_index_or bytes place 0) (drop (place + 1) bytes) e)

pub kept : (bytes : List ℕ) (count place byte : ℕ) (b : Bool) → count ≤ place → place < length bytes → slice_index_or bytes place 0 ≡ byte
    → b ≡ ends_line (take (length bytes - place) (drop place bytes)) → b ≡ false
    → (all : List ℕ) → IsMoved all bytes count place → IsMoved all (slice_set bytes count byte) (count + 1) (place + 1)
kept bytes count place byte b le h byte_is ends is all moved =
    let first = drop_more bytes place 0 h ∙ ap (λ n. n ∷ drop (place + 1) bytes) byte_is in
    let e = sym (ap ends_line first) ∙ sym (ap ends_line (take_rest bytes place)) ∙ sym ends ∙ is in
    let rest = ap without_returns first ∙ kept_first byte (drop (place + 1) bytes) e in
    let front = take-set_at bytes count (count + 1) byte refl (omega (arith, le, h)) in
    let back = drop-set-lt (place + 1) bytes count byte (omega (arith, le)) in
    moved ∙ ap (λ l. take count bytes ++ l) rest
    ∙ sym (append_assoc (take count bytes) (byte ∷ []) (without_returns (drop (place + 1) bytes)))
    ∙ ap (λ l. l ++ without_returns (drop (place + 1) bytes)) (sym front)
    ∙ ap (λ l. take (count + 1) (slice_set bytes count byte) ++ without_returns l) (sym back)

pub none_left : (xs : List ℕ) (n : ℕ) → length xs ≤ n → drop n xs ≡ []
none_left [] zero h = refl
none_left [] (suc n) h = refl
none_left (x ∷ xs) zero h = absurd (omega (arith, h))
none_left (x ∷ xs) (suc n) h = none_left xs n (omega (arith, h))

pub all_moved : (all bytes : List ℕ) (count place : ℕ) → length bytes ≤ place → IsMoved all bytes count place → take count bytes ≡ without_returns all
all_moved all bytes count place le moved =
    sym (moved ∙ ap (λ l. take count bytes ++ without_returns l) (none_left bytes place le) ∙ append-nil (take count bytes))

-- ---- a text without a carriage return

other : (byte : ℕ) (rest : List ℕ) (b : Bool) → ((byte == 13) ≡ true → ⊥) → (byte == 13) ≡ b → is_line_end byte rest ≡ false
other byte rest true none e = absurd (none e)
other byte rest false none e = rw e refl

unchanged : (bytes : List ℕ) → ((k : ℕ) → k < length bytes → (slice_index_or bytes k 0 == 13) ≡ true → ⊥) → without_returns bytes ≡ bytes
unchanged [] none = refl
unchanged (byte ∷ rest) none =
    kept_first byte rest (other byte rest (byte == 13) (none 0 (omega arith)) refl)
    ∙ ap (λ l. byte ∷ l) (unchanged rest (λ k l. none (suc k) (omega (arith, l))))

pub no_return_found : (bytes : List ℕ) → IsFirstByte (is_byte 13) bytes None → without_returns bytes ≡ bytes
no_return_found bytes h = unchanged bytes (λ k l. h k (omega arith) l)

-- ---- a text without one before a line feed

first_of_two : (c d : Bool) → (c || d) ≡ false → c ≡ false
first_of_two true d e = absurd (both_ways true e refl)
first_of_two false d e = refl

second_of_two : (c d : Bool) → (c || d) ≡ false → d ≡ false
second_of_two true d e = absurd (both_ways true e refl)
second_of_two false d e = e

pub same_returns : (text : List ℕ) → has_return text ≡ false → without_returns text ≡ text
same_returns [] e = refl
same_returns (byte ∷ rest) e =
    kept_first byte rest (first_of_two (is_line_end byte rest) (has_return rest) e)
    ∙ ap (λ l. byte ∷ l) (same_returns rest (second_of_two (is_line_end byte rest) (has_return rest) e))

-- ---- two pieces

-- no line ends where the second piece begins
abbrev pub Parts : List ℕ → List ℕ → Type 0
Parts [] rest = Unit {0}
Parts (x ∷ []) rest = is_line_end x rest ≡ false
Parts (x ∷ y ∷ xs) rest = Parts (y ∷ xs) rest

by_first : (c : Bool) (x : ℕ) (ps bs cs : List ℕ) → ps ≡ bs ++ cs → (if c then ps else x ∷ ps) ≡ (if c then bs else x ∷ bs) ++ cs
by_first true x ps bs cs e = e
by_first false x ps bs cs e = ap (λ l. x ∷ l) e

no_line_end : (x : ℕ) (b : Bool) → (x == 13) ≡ b → is_line_end x [] ≡ false
no_line_end x true e = rw e refl
no_line_end x false e = rw e refl

pub two_pieces : (xs rest : List ℕ) → Parts xs rest → without_returns (xs ++ rest) ≡ without_returns xs ++ without_returns rest
two_pieces [] rest h = refl
two_pieces (x ∷ []) rest h =
    kept_first x rest h ∙ ap (λ l. l ++ without_returns rest) (sym (kept_first x [] (no_line_end x (x == 13) refl)))
two_pieces (x ∷ y ∷ xs) rest h = by_first (is_line_end x (y ∷ xs)) x _ _ _ (two_pieces (y ∷ xs) rest h)

-- the first piece doesn't end with a carriage return
pub parts_by_last : (xs rest : List ℕ) (n : ℕ) → length xs ≡ suc n → (slice_index_or xs n 0 == 13) ≡ false → Parts xs rest
parts_by_last [] rest n h e = tt
parts_by_last (x ∷ []) rest zero h e = rw e refl
parts_by_last (x ∷ []) rest (suc n) h e = absurd (omega (arith, h))
parts_by_last (x ∷ y ∷ xs) rest zero h e = absurd (omega (arith, h))
parts_by_last (x ∷ y ∷ xs) rest (suc n) h e = parts_by_last (y ∷ xs) rest n (omega (arith, h)) e

-- the second one begins with a carriage return
pub parts_by_return : (xs rest : List ℕ) → Parts xs (13 ∷ rest)
parts_by_return [] rest = tt
parts_by_return (x ∷ []) rest = by_byte x rest (x == 13) refl where
  by_byte : (x : ℕ) (rest : List ℕ) (b : Bool) → (x == 13) ≡ b → is_line_end x (13 ∷ rest) ≡ false
  by_byte x rest true e = rw e refl
  by_byte x rest false e = rw e refl
parts_by_return (x ∷ y ∷ xs) rest = parts_by_return (y ∷ xs) rest

-- something is kept of something
pub some_kept : (xs : List ℕ) → 0 < length xs → 0 < length (without_returns xs)
some_kept [] h = absurd (omega (arith, h))
some_kept (x ∷ []) h = omega (arith, ap length (kept_first x [] (no_line_end x (x == 13) refl)))
some_kept (x ∷ y ∷ xs) h = by_cond (is_line_end x (y ∷ xs)) x (without_returns (y ∷ xs)) (some_kept (y ∷ xs) (omega arith)) where
  by_cond : (c : Bool) (x : ℕ) (l : List ℕ) → 0 < length l → 0 < length (if c then l else x ∷ l)
  by_cond true x l h = h
  by_cond false x l h = omega arith
