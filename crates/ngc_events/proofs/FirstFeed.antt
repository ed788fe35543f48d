-- The first line feed among bytes.
use Rattle.std.proofs.Common.{◌≡◌, ℕ, zero, suc, ◌<◌, ◌≤◌, ap, true, Some, None, List, [], ◌∷◌, ◌++◌, length, take, drop, refl, sym, ◌∙◌, arith}
use Rattle.std.specs.Prelude.{◌==◌, not, slice_index}
use Rattle.std.proofs.lemmas.Bool.{and_from}
use Rattle.std.proofs.lemmas.Bool.Decides.{nat_tests}
use Rattle.std.proofs.lemmas.List.{take_all}
use Rattle.memchr.specs.Find.{IsFirstByte, is_byte}
use Rattle.ngc_events.specs.Arriving.{is_feedless, IsSplit}

other_byte : (b : ℕ) → ((b == 10) ≡ true → ⊥) → not (b == 10) ≡ true
other_byte b h = grind (arith, nat_tests)

feed_byte : (b : ℕ) → (b == 10) ≡ true → b ≡ 10
feed_byte b h = grind (arith, nat_tests)

-- if no byte before an index is a line feed, the text in front of the index has none
feedless_front : (bytes : List ℕ) (n : ℕ) → n ≤ length bytes → ((k : ℕ) → k < n → (slice_index bytes k == 10) ≡ true → ⊥) → is_feedless (take n bytes) ≡ true
feedless_front bytes zero h none = refl
feedless_front [] (suc n) h none = absurd (omega (arith, h))
feedless_front (b ∷ bytes) (suc n) h none =
    and_from _ _ (other_byte b (none 0 (omega arith))) (feedless_front bytes n (omega arith) (λ k l. none (suc k) (omega arith)))

parted : (bytes : List ℕ) (k : ℕ) → k < length bytes → slice_index bytes k ≡ 10 → bytes ≡ take k bytes ++ (10 ∷ drop 1 (drop k bytes))
parted [] k h e = absurd (omega (arith, h))
parted (b ∷ bytes) zero h e = ap (λ x. x ∷ bytes) e
parted (b ∷ bytes) (suc k) h e = ap (λ l. b ∷ l) (parted bytes k (omega arith) e)

pub none_found : (bytes : List ℕ) → IsFirstByte (is_byte 10) bytes None → is_feedless bytes ≡ true
none_found bytes h =
    ap is_feedless (sym (take_all (length bytes) bytes (omega arith))) ∙ feedless_front bytes (length bytes) (omega arith) (λ k l. h k (omega arith) l)

pub one_found : (bytes : List ℕ) (k : ℕ) → IsFirstByte (is_byte 10) bytes (Some k) → IsSplit bytes (take k bytes) (drop 1 (drop k bytes))
one_found bytes k h = record {
  feedless = feedless_front bytes k (omega (arith, h.0.high)) (λ j l. h.0.before j (omega arith) l);
  parts = parted bytes k h.0.high (feed_byte _ h.1);
}
