-- The lines of some bytes, and the first line feed among them.
use Rattle.std.proofs.Common.{◌≡◌, ◌≢◌, ℕ, zero, suc, ◌<◌, ◌≤◌, ap, Bool, true, false, Some, None, List, [], ◌∷◌, ◌++◌, length, take, drop, refl, sym, ◌∙◌}
use Rattle.std.proofs.Common.{append_assoc, length-append, arith}
use Rattle.std.specs.Prelude.{◌==◌, nat_le, slice_index}
use Rattle.std.proofs.lemmas.Bool.Decides.{nat_tests}
use Rattle.std.proofs.lemmas.List.{append-nil}
use Rattle.memchr.specs.Find.{IsFirstByte, is_byte}
use Rattle.ngc_line_reader.specs.Program.{split_lines, with_first}
use Rattle.ngc_line_reader.specs.Pieces.{certain_after, firm_lines}
use Rattle.ngc_line_reader.specs.Load.{HasNoLineFeed, GoesOn, PartsLines, IsSplit}

not_feed : (b : ℕ) → b ≢ 10 → (b == 10) ≡ false
not_feed b h = grind (arith, nat_tests)

other_byte : (b : ℕ) → ((b == 10) ≡ true → ⊥) → b ≢ 10
other_byte b h e = h (grind (arith, nat_tests))

feed_byte : (b : ℕ) → (b == 10) ≡ true → b ≡ 10
feed_byte b h = grind (arith, nat_tests)

-- if no byte up to an index is a line feed, there is none before it
feedless_front : (bytes : List ℕ) (n : ℕ) → n ≤ length bytes → ((k : ℕ) → k < n → (slice_index bytes k == 10) ≡ true → ⊥) → HasNoLineFeed (take n bytes)
feedless_front bytes zero h none = tt
feedless_front [] (suc n) h none = absurd (omega (arith, h))
feedless_front (b ∷ bytes) (suc n) h none =
    (other_byte b (none 0 (omega arith)), feedless_front bytes n (omega arith) (λ k l. none (suc k) (omega arith)))

take_all : (xs : List ℕ) → take (length xs) xs ≡ xs
take_all [] = refl
take_all (x ∷ xs) = ap (λ l. x ∷ l) (take_all xs)

parted : (bytes : List ℕ) (k : ℕ) → k < length bytes → slice_index bytes k ≡ 10 → bytes ≡ take k bytes ++ (10 ∷ drop 1 (drop k bytes))
parted [] k h e = absurd (omega (arith, h))
parted (b ∷ bytes) zero h e = ap (λ x. x ∷ bytes) e
parted (b ∷ bytes) (suc k) h e = ap (λ l. b ∷ l) (parted bytes k (omega arith) e)

pub no_feed_found : (bytes : List ℕ) → IsFirstByte (is_byte 10) bytes None → HasNoLineFeed bytes
no_feed_found bytes h =
    let front = feedless_front bytes (length bytes) (omega arith) (λ k l. h k (omega arith) l) in
    rw take_all at front

pub feed_found : (bytes : List ℕ) (k : ℕ) → IsFirstByte (is_byte 10) bytes (Some k) → IsSplit bytes (take k bytes) (drop 1 (drop k bytes))
feed_found bytes k h = record {
  feedless = feedless_front bytes k (omega (arith, h.0.high)) (λ j l. h.0.before j (omega arith) l);
  parts = parted bytes k h.0.high (feed_byte _ h.1);
}

pub feed_within : (bytes : List ℕ) (k : ℕ) → IsFirstByte (is_byte 10) bytes (Some k) → k < length bytes
feed_within bytes k h = h.0.high

-- a line feed ends the line
split_here : (cur rest : List ℕ) → HasNoLineFeed cur → split_lines (cur ++ (10 ∷ rest)) ≡ cur ∷ split_lines rest
split_here [] rest h = refl
split_here (b ∷ cur) rest h = rw (not_feed b h.0, split_here cur rest h.1) refl

-- the last line may lack it
pub split_last : (b : ℕ) (cur : List ℕ) → HasNoLineFeed (b ∷ cur) → split_lines (b ∷ cur) ≡ (b ∷ cur) ∷ []
split_last b [] h = rw (not_feed b h.0) refl
split_last b (c ∷ cur) h = rw (not_feed b h.0, split_last c cur h.1) refl

first_line : (b : ℕ) (ls : List (List ℕ)) → (more : List ℕ) × (lines : List (List ℕ)) × (with_first b ls ≡ (b ∷ more) ∷ lines)
first_line b [] = ([], [], refl)
first_line b (l ∷ ls) = (l, ls, refl)

-- a line that continues
split_on : (b : ℕ) (cur rest : List ℕ) → HasNoLineFeed (b ∷ cur) → GoesOn split_lines (b ∷ cur) rest
split_on b [] rest h = let f = first_line b (split_lines rest) in record { more = f.0; afterwards = f.1; split = rw (not_feed b h.0) f.2 }
split_on b (c ∷ cur) rest h =
    let g = split_on c cur rest h.1 in
    record { more = g.more; afterwards = g.afterwards; split = rw (not_feed b h.0, g.split) refl }

split_long : (line rest : List ℕ) → HasNoLineFeed line → 256 < length line → GoesOn split_lines line rest
split_long [] rest h long = absurd (omega (arith, long))
split_long (b ∷ line) rest h long = split_on b line rest h

pub split_parts : PartsLines split_lines
split_parts = record { ends = split_here; long = split_long }

-- the lines that are certain, after more bytes of a line
firm_on : (begun line rest : List ℕ) → HasNoLineFeed line → certain_after begun (line ++ rest) ≡ certain_after (begun ++ line) rest
firm_on begun [] rest h = ap (λ (l : List ℕ). certain_after l rest) (sym (append-nil begun))
firm_on begun (b ∷ line) rest h =
    rw (not_feed b h.0) (firm_on (begun ++ (b ∷ [])) line rest h.1 ∙ ap (λ (l : List ℕ). certain_after l rest) (append_assoc begun (b ∷ []) line))

firm_here : (line rest : List ℕ) → HasNoLineFeed line → firm_lines (line ++ (10 ∷ rest)) ≡ line ∷ firm_lines rest
firm_here line rest h = firm_on [] line (10 ∷ rest) h

-- a line that is too long is certain
record Stands (line rest : List ℕ) : Type 0 where
  more : List ℕ
  afterwards : List (List ℕ)
  split : certain_after line rest ≡ (line ++ more) ∷ afterwards

stands_more : (b : ℕ) (line rest : List ℕ) (x : Bool) → (b == 10) ≡ x → Stands (line ++ (b ∷ [])) rest → Stands line (b ∷ rest)
stands_more b line rest true e s =
    record { more = []; afterwards = firm_lines rest; split = rw e (ap (λ (l : List ℕ). l ∷ firm_lines rest) (sym (append-nil line))) }
stands_more b line rest false e s =
    record { more = b ∷ s.more; afterwards = s.afterwards; split = rw e (s.split ∙ ap (λ (l : List ℕ). l ∷ s.afterwards) (append_assoc line (b ∷ []) s.more)) }

stands : (line rest : List ℕ) → 256 < length line → Stands line rest
stands line [] long =
    let e : nat_le (length line) 256 ≡ false = grind (arith, nat_tests) in
    record { more = []; afterwards = []; split = rw e (ap (λ (l : List ℕ). l ∷ []) (sym (append-nil line))) }
stands line (b ∷ rest) long = stands_more b line rest (b == 10) refl (stands (line ++ (b ∷ [])) rest (omega (arith, length-append line (b ∷ []))))

firm_long : (line rest : List ℕ) → HasNoLineFeed line → 256 < length line → GoesOn firm_lines line rest
firm_long line rest h long =
    let s = stands line rest long in
    record { more = s.more; afterwards = s.afterwards; split = firm_on [] line rest h ∙ s.split }

pub firm_parts : PartsLines firm_lines
firm_parts = record { ends = firm_here; long = firm_long }

-- a line that has begun, and is not too long yet, is not certain
pub firm_begun : (line : List ℕ) → HasNoLineFeed line → length line ≤ 256 → firm_lines line ≡ []
firm_begun line h short =
    let e : nat_le (length line) 256 ≡ true = grind (arith, nat_tests) in
    ap firm_lines (sym (append-nil line)) ∙ firm_on [] line [] h ∙ rw e refl

pub feedless_both : (xs ys : List ℕ) → HasNoLineFeed xs → HasNoLineFeed ys → HasNoLineFeed (xs ++ ys)
feedless_both [] ys h k = k
feedless_both (x ∷ xs) ys h k = (h.0, feedless_both xs ys h.1 k)
