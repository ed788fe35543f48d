-- Prefixes of texts that are written in order.
use Rattle.std.proofs.Common.{◌≡◌, ℕ, List, ◌++◌, Option, Result, Ok, Err, OnOk, OnErr, ap, subst, sym, ◌∙◌}
use Rattle.std.proofs.lemmas.List.{append_assoc}
use Rattle.std.specs.Io.KnownBytes.{Appends}
use Rattle.ngc_text.proofs.AppendedTexts.{appends_both}
use Rattle.ngc_text.specs.Written.{AppendsPrefix}
use Rattle.ngc_text.specs.declared.writing.WriteFault.{WriteFault}

-- a prefix of one text is a prefix of a longer one
pub begins_first : (old new : Option (List ℕ)) (a more : List ℕ) → AppendsPrefix old new a → AppendsPrefix old new (a ++ more)
begins_first old new a more h = (h.0, h.1 ++ more, ap (λ l. l ++ more) h.2 ∙ append_assoc h.0 h.1 more, h.3)

-- one text and then a prefix of another
pub begins_last : (old mid new : Option (List ℕ)) (a b : List ℕ) → Appends old mid a → AppendsPrefix mid new b → AppendsPrefix old new (a ++ b)
begins_last old mid new a b h k = (a ++ k.0, k.1, ap (λ l. a ++ l) k.2 ∙ sym (append_assoc a k.0 k.1), appends_both old mid new a k.0 h k.3)

pub on_err : (r : Result (Unit {0}) WriteFault) (P : Type 0) → P → OnErr r P
on_err (Ok u) P p = tt
on_err (Err e) P p = p

-- the same for an equal text
pub appends_as : (old new : Option (List ℕ)) (a b : List ℕ) → a ≡ b → Appends old new a → Appends old new b
appends_as old new a b is h = let P : List ℕ → Type 0 = λ l. Appends old new l in subst P is h

pub begins_as : (old new : Option (List ℕ)) (a b : List ℕ) → a ≡ b → AppendsPrefix old new a → AppendsPrefix old new b
begins_as old new a b is h = let P : List ℕ → Type 0 = λ l. AppendsPrefix old new l in subst P is h

-- two texts and then a prefix of a third
pub third_fault : (r : Result (Unit {0}) WriteFault) (old one two new : Option (List ℕ)) (a b c d : List ℕ) → c ≡ d → Appends old one a → Appends one two b
    → OnErr r (AppendsPrefix two new c) → OnErr r (AppendsPrefix old new (a ++ (b ++ d)))
third_fault (Ok u) old one two new a b c d is h k p = tt
third_fault (Err e) old one two new a b c d is h k p =
    begins_last old one new a (b ++ d) h (begins_last one two new b d k (begins_as two new c d is p))

-- one text and then a prefix of a second
pub second_fault : (r : Result (Unit {0}) WriteFault) (old one new : Option (List ℕ)) (a b : List ℕ) → Appends old one a → OnErr r (AppendsPrefix one new b)
    → OnErr r (AppendsPrefix old new (a ++ b))
second_fault (Ok u) old one new a b h p = tt
second_fault (Err e) old one new a b h p = begins_last old one new a b h p

-- two texts
pub both_written : (r : Result (Unit {0}) WriteFault) (old one new : Option (List ℕ)) (a b : List ℕ) → Appends old one a → OnOk r (Appends one new b)
    → OnOk r (Appends old new (a ++ b))
both_written (Ok u) old one new a b h p = appends_both old one new a b h p
both_written (Err e) old one new a b h p = tt
