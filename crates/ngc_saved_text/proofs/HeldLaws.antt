-- What is left of a source after a carriage return was held back, and after a piece.
use Rattle.std.proofs.Common.{◌≡◌, ℕ, zero, suc, ◌+◌, ◌-◌, ◌<◌, ◌≤◌, Bool, true, false, List, [], ◌∷◌, ◌++◌, None, Some, Result, Ok, Err, refl, sym, ap, ◌∙◌, subst, length, take, drop, append_assoc, arith}
use Rattle.std.specs.Prelude.{◌==◌, slice_index_or, slice_set, Option}
use Rattle.std.proofs.KnownBytes.{Consumes-trans, Keeps-trans}
use Rattle.std.proofs.lemmas.Bool.{eqb-true}
use Rattle.std.proofs.lemmas.List.{get_or-take, length-take-le, take-append-le}
use Rattle.std.specs.Io.KnownBytes.{Consumes, IsAtEnd, Keeps, ReadConsumes}
use Rattle.ngc_saved_text.specs.Saved.{unreturned_remaining, without_returns}
use Rattle.ngc_saved_text.specs.declared.returns.Held.{Held}
use Rattle.ngc_saved_text.specs.declared.returns.Held.TheVariants.{Nothing, Return, Byte}
use Rattle.ngc_saved_text.proofs.ReturnLaws.{Parts, kept_first, parts_by_last, parts_by_return, some_kept, two_pieces}

not_equal : (n m : ℕ) → (n ≡ m → ⊥) → (n == m) ≡ false
not_equal n m h = by_test (n == m) refl where
  by_test : (b : Bool) → (n == m) ≡ b → b ≡ false
  by_test true e = absurd (h (eqb-true n m e))
  by_test false e = refl

-- a buffer with this first byte
pub first_set : (buf : List ℕ) (byte : ℕ) → 0 < length buf → take 1 (slice_set buf 0 byte) ≡ byte ∷ []
first_set [] byte h = absurd (omega (arith, h))
first_set (b ∷ buf) byte h = refl

-- the byte that was taken
pub one_taken : (next : List ℕ) (count : ℕ) → length next ≡ 1 → count ≤ length next → (count ≡ 0 → ⊥) → take count next ≡ slice_index_or next 0 0 ∷ []
one_taken [] count e le some = absurd (omega (arith, e))
one_taken (b ∷ []) zero e le some = absurd (some refl)
one_taken (b ∷ []) (suc zero) e le some = refl
one_taken (b ∷ []) (suc (suc n)) e le some = absurd (omega (arith, le))
one_taken (b ∷ c ∷ next) count e le some = absurd (omega (arith, e))

return_kept : (byte : ℕ) (rest : List ℕ) → (byte == 10) ≡ false → without_returns (13 ∷ byte ∷ rest) ≡ 13 ∷ without_returns (byte ∷ rest)
return_kept byte rest e = kept_first 13 (byte ∷ rest) (rw e refl)

byte_kept : (byte : ℕ) (rest : List ℕ) → (byte == 13) ≡ false → without_returns (byte ∷ rest) ≡ byte ∷ without_returns rest
byte_kept byte rest e = kept_first byte rest (rw e refl)

-- nothing follows the carriage return
at_end_of : (a b : Option (List ℕ)) (front : List ℕ) → Consumes a b [] → IsAtEnd b → front ≡ 13 ∷ []
    → Consumes (unreturned_remaining Return a) (unreturned_remaining Nothing b) front
at_end_of None b front read end is = tt
at_end_of (Some xs) None front read end is = absurd read
at_end_of (Some xs) (Some ys) front read end is =
    ap (λ l. without_returns (13 ∷ l)) (read ∙ end) ∙ sym (ap (λ l. l ++ without_returns ys) is ∙ ap (λ l. 13 ∷ without_returns l) end)

pub at_end : (h : Held) (a b : Option (List ℕ)) (front next : List ℕ) (count : ℕ) → h ≡ Return → Consumes a b (take count next)
    → count ≡ 0 → IsAtEnd b → front ≡ 13 ∷ [] → Consumes (unreturned_remaining h a) (unreturned_remaining Nothing b) front
at_end h a b front next count held read none end is =
    subst (λ k. Consumes (unreturned_remaining k a) (unreturned_remaining Nothing b) front) (sym held)
    (at_end_of a b front (subst (λ n. Consumes a b (take n next)) none read) end is)

-- a line feed follows
at_feed_of : (a b : Option (List ℕ)) (front next : List ℕ) → Consumes a b next → next ≡ 10 ∷ [] → front ≡ 10 ∷ []
    → Consumes (unreturned_remaining Return a) (unreturned_remaining Nothing b) front
at_feed_of None b front next read next_is is = tt
at_feed_of (Some xs) None front next read next_is is = absurd read
at_feed_of (Some xs) (Some ys) front next read next_is is =
    ap (λ l. without_returns (13 ∷ l)) (read ∙ ap (λ l. l ++ ys) next_is) ∙ ap (λ l. l ++ without_returns ys) (sym is)

pub at_feed : (h : Held) (a b : Option (List ℕ)) (front next : List ℕ) (byte : ℕ) → h ≡ Return → Consumes a b next → next ≡ byte ∷ []
    → byte ≡ 10 → front ≡ 10 ∷ [] → Consumes (unreturned_remaining h a) (unreturned_remaining Nothing b) front
at_feed h a b front next byte held read next_is feed is =
    subst (λ k. Consumes (unreturned_remaining k a) (unreturned_remaining Nothing b) front) (sym held)
    (at_feed_of a b front next read (next_is ∙ ap (λ n. n ∷ []) feed) is)

-- another carriage return follows
at_return_of : (a b : Option (List ℕ)) (front next : List ℕ) → Consumes a b next → next ≡ 13 ∷ [] → front ≡ 13 ∷ []
    → Consumes (unreturned_remaining Return a) (unreturned_remaining Return b) front
at_return_of None b front next read next_is is = tt
at_return_of (Some xs) None front next read next_is is = absurd read
at_return_of (Some xs) (Some ys) front next read next_is is =
    ap (λ l. without_returns (13 ∷ l)) (read ∙ ap (λ l. l ++ ys) next_is) ∙ return_kept 13 ys refl ∙ ap (λ l. l ++ without_returns (13 ∷ ys)) (sym is)

pub at_return : (h : Held) (a b : Option (List ℕ)) (front next : List ℕ) (byte : ℕ) → h ≡ Return → Consumes a b next → next ≡ byte ∷ []
    → byte ≡ 13 → front ≡ 13 ∷ [] → Consumes (unreturned_remaining h a) (unreturned_remaining h b) front
at_return h a b front next byte held read next_is return is =
    subst (λ k. Consumes (unreturned_remaining k a) (unreturned_remaining k b) front) (sym held)
    (at_return_of a b front next read (next_is ∙ ap (λ n. n ∷ []) return) is)

-- another byte follows
at_byte_of : (a b : Option (List ℕ)) (front next : List ℕ) (byte : ℕ) → Consumes a b next → next ≡ byte ∷ [] → front ≡ 13 ∷ []
    → (byte == 10) ≡ false → (byte == 13) ≡ false → Consumes (unreturned_remaining Return a) (unreturned_remaining (Byte byte) b) front
at_byte_of None b front next byte read next_is is feed return = tt
at_byte_of (Some xs) None front next byte read next_is is feed return = absurd read
at_byte_of (Some xs) (Some ys) front next byte read next_is is feed return =
    ap (λ l. without_returns (13 ∷ l)) (read ∙ ap (λ l. l ++ ys) next_is) ∙ return_kept byte ys feed
    ∙ ap (λ l. 13 ∷ l) (byte_kept byte ys return) ∙ ap (λ l. l ++ (byte ∷ without_returns ys)) (sym is)

pub at_byte : (h : Held) (a b : Option (List ℕ)) (front next : List ℕ) (byte : ℕ) → h ≡ Return → Consumes a b next → next ≡ byte ∷ []
    → front ≡ 13 ∷ [] → (byte ≡ 10 → ⊥) → (byte ≡ 13 → ⊥)
    → Consumes (unreturned_remaining h a) (unreturned_remaining (Byte byte) b) front
at_byte h a b front next byte held read next_is is feed return =
    subst (λ k. Consumes (unreturned_remaining k a) (unreturned_remaining (Byte byte) b) front) (sym held)
    (at_byte_of a b front next byte read next_is is (not_equal byte 10 feed) (not_equal byte 13 return))

-- ---- a piece

get_taken : (buf : List ℕ) (taken : ℕ) → (taken ≡ 0 → ⊥) → slice_index_or (take taken buf) (taken - 1) 0 ≡ slice_index_or buf (taken - 1) 0
get_taken buf taken some = get_or-take taken buf (taken - 1) 0 (omega (arith, some))

one_less : (n : ℕ) → (n ≡ 0 → ⊥) → n ≡ suc (n - 1)
one_less n some = omega (arith, some)

-- something is given out of something
none_given : (r : ℕ) (new piece : List ℕ) → take r new ≡ without_returns piece → 0 < length piece → r ≡ 0 → ⊥
none_given r new piece front some none =
    absurd (omega (arith, some_kept piece some, ap length (sym (ap (λ n. take n new) none) ∙ front)))

whole_of : (a b : Option (List ℕ)) (piece front : List ℕ) → Consumes a b piece → ((rest : List ℕ) → Parts piece rest)
    → front ≡ without_returns piece → Consumes (unreturned_remaining Nothing a) (unreturned_remaining Nothing b) front
whole_of None b piece front read parts is = tt
whole_of (Some xs) None piece front read parts is = absurd read
whole_of (Some xs) (Some ys) piece front read parts is =
    ap without_returns read ∙ two_pieces piece ys (parts ys) ∙ ap (λ l. l ++ without_returns ys) (sym is)

-- a piece that doesn't end with a carriage return
pub piece_given : (h : Held) (a b : Option (List ℕ)) (buf new : List ℕ) (taken r : ℕ) → h ≡ Nothing → taken ≤ length buf → (taken ≡ 0 → ⊥)
    → Consumes a b (take taken buf) → (slice_index_or buf (taken - 1) 0 ≡ 13 → ⊥) → r ≤ length new → take r new ≡ without_returns (take taken buf)
    → (rest : List ℕ) → Consumes (unreturned_remaining h a) (unreturned_remaining h b) (take r (new ++ rest))
    × (r ≡ 0 → 0 < length (new ++ rest) → IsAtEnd (unreturned_remaining h b))
piece_given h a b buf new taken r held le some read last bound front rest =
    let long = length-take-le taken buf le in
    let parts = λ (l : List ℕ). parts_by_last (take taken buf) l (taken - 1) (long ∙ one_less taken some)
    (not_equal _ 13 (λ e. last (sym (get_taken buf taken some) ∙ e))) in (
      subst (λ k. Consumes (unreturned_remaining k a) (unreturned_remaining k b) (take r (new ++ rest))) (sym held)
          (whole_of a b (take taken buf) (take r (new ++ rest)) read parts (take-append-le r new rest bound ∙ front)),
      λ none l. absurd (none_given r new (take taken buf) front (omega (arith, long, some)) none),
    )

take_last : (buf : List ℕ) (n : ℕ) → n < length buf → take (suc n) buf ≡ take n buf ++ slice_index_or buf n 0 ∷ []
take_last [] n h = absurd (omega (arith, h))
take_last (b ∷ buf) zero h = refl
take_last (b ∷ buf) (suc n) h = ap (λ l. b ∷ l) (take_last buf n (omega (arith, h)))

last_return : (buf : List ℕ) (taken : ℕ) → taken ≤ length buf → (taken ≡ 0 → ⊥) → slice_index_or buf (taken - 1) 0 ≡ 13
    → take taken buf ≡ take (taken - 1) buf ++ 13 ∷ []
last_return buf taken le some is =
    ap (λ n. take n buf) (one_less taken some) ∙ take_last buf (taken - 1) (omega (arith, le, some)) ∙ ap (λ n. take (taken - 1) buf ++ n ∷ []) is

returned_of : (a b : Option (List ℕ)) (piece rest front : List ℕ) → Consumes a b piece → piece ≡ rest ++ 13 ∷ []
    → front ≡ without_returns rest → Consumes (unreturned_remaining Nothing a) (unreturned_remaining Return b) front
returned_of None b piece rest front read parts is = tt
returned_of (Some xs) None piece rest front read parts is = absurd read
returned_of (Some xs) (Some ys) piece rest front read parts is =
    ap without_returns (read ∙ ap (λ l. l ++ ys) parts ∙ append_assoc rest (13 ∷ []) ys)
    ∙ two_pieces rest (13 ∷ ys) (parts_by_return rest ys) ∙ ap (λ l. l ++ without_returns (13 ∷ ys)) (sym is)

-- a piece that ends with one, which is held back
pub return_given : (h : Held) (a b : Option (List ℕ)) (buf new : List ℕ) (taken r : ℕ) → h ≡ Nothing → taken ≤ length buf → (taken ≡ 0 → ⊥)
    → (taken ≡ 1 → ⊥) → Consumes a b (take taken buf) → slice_index_or buf (taken - 1) 0 ≡ 13 → r ≤ length new
    → take r new ≡ without_returns (take (taken - 1) buf)
    → (rest : List ℕ) → Consumes (unreturned_remaining h a) (unreturned_remaining Return b) (take r (new ++ rest))
    × (r ≡ 0 → 0 < length (new ++ rest) → IsAtEnd (unreturned_remaining Return b))
return_given h a b buf new taken r held le some more read is bound front rest =
    let long = length-take-le (taken - 1) buf (omega (arith, le)) in (
      subst (λ k. Consumes (unreturned_remaining k a) (unreturned_remaining Return b) (take r (new ++ rest))) (sym held)
          (returned_of a b (take taken buf) (take (taken - 1) buf) (take r (new ++ rest)) read (last_return buf taken le some is)
          (take-append-le r new rest bound ∙ front)),
      λ none l. absurd (none_given r new (take (taken - 1) buf) front (omega (arith, long, some, more)) none),
    )

-- the piece is a carriage return: nothing was given out, and it is held back
pub only_return : (h : Held) (a b : Option (List ℕ)) (buf : List ℕ) (taken : ℕ) → h ≡ Nothing → taken ≤ length buf → taken ≡ 1
    → Consumes a b (take taken buf) → slice_index_or buf (taken - 1) 0 ≡ 13
    → Consumes (unreturned_remaining h a) (unreturned_remaining Return b) []
only_return h a b buf taken held le one read is =
    subst (λ k. Consumes (unreturned_remaining k a) (unreturned_remaining Return b) []) (sym held)
    (returned_of a b (take taken buf) (take (taken - 1) buf) [] read (last_return buf taken le (λ e. omega (arith, one, e)) is)
    (ap (λ n. without_returns (take (n - 1) buf)) (sym one)))

kept_by : (a b : Option (List ℕ)) → Consumes a b [] → Keeps a b
kept_by None b read = tt
kept_by (Some xs) None read = absurd read
kept_by (Some xs) (Some ys) read = sym read

-- what is read after nothing was
pub read_on : {E : Type 0} (a b c : Option (List ℕ)) (r : Result ℕ E) (buf : List ℕ) → Consumes a b [] → ReadConsumes b c r buf → ReadConsumes a c r buf
read_on a b c (Ok n) buf none read = (Consumes-trans a b c [] (take n buf) none read.0, read.1)
read_on a b c (Err e) buf none read = Keeps-trans a b c (kept_by a b none) read

-- a byte that was held back
pub byte_given : (h : Held) (a : Option (List ℕ)) (buf : List ℕ) (byte : ℕ) → h ≡ Byte byte → 0 < length buf
    → Consumes (unreturned_remaining h a) (unreturned_remaining Nothing a) (take 1 (slice_set buf 0 byte))
byte_given h a buf byte held room =
    subst (λ k. Consumes (unreturned_remaining k a) (unreturned_remaining Nothing a) (take 1 (slice_set buf 0 byte))) (sym held) (of a) where
      of : (a : Option (List ℕ)) → Consumes (unreturned_remaining (Byte byte) a) (unreturned_remaining Nothing a) (take 1 (slice_set buf 0 byte))
      of None = tt
      of (Some xs) = ap (λ l. l ++ without_returns xs) (sym (first_set buf byte room))
