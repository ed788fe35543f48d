-- A text that is written in pieces, from the text of each piece.
use Rattle.std.proofs.Common.{◌≡◌, ℕ, List, ◌++◌, Option, Result, Ok, Err, OnOk, OnErr, ap, subst, sym, ◌∙◌}
use Rattle.std.proofs.lemmas.List.{append_assoc}
use Rattle.std.specs.Io.KnownBytes.{Appends}
use Rattle.ngc_text.proofs.AppendedTexts.{appends_both}
use Rattle.ngc_text.specs.Written.{AppendsPrefix}
use Rattle.ngc_text.specs.declared.writing.WriteFault.{WriteFault}

-- a prefix of one text is a prefix of a longer one
pub begins_first : (old new : Option (List ℕ)) (a more : List ℕ) → AppendsPrefix old new a → AppendsPrefix old new (a ++ more)
begins_first old new a more h = (h.0, h.1 ++ more, ap (λ l. l ++ more) h.2 ∙ append_assoc h.0 h.1 more, h.3)

-- one text and then a prefix of another
pub begins_last : (old mid new : Option (List ℕ)) (a b : List ℕ) → Appends old mid a → AppendsPrefix mid new b → AppendsPrefix old new (a ++ b)
begins_last old mid new a b h k = (a ++ k.0, k.1, ap (λ l. a ++ l) k.2 ∙ sym (append_assoc a k.0 k.1), appends_both old mid new a k.0 h k.3)

-- the same for an equal text
pub appends_as : (old new : Option (List ℕ)) (a b : List ℕ) → a ≡ b → Appends old new a → Appends old new b
appends_as old new a b is h = let P : List ℕ → Type 0 = λ l. Appends old new l in subst P is h

pub begins_as : (old new : Option (List ℕ)) (a b : List ℕ) → a ≡ b → AppendsPrefix old new a → AppendsPrefix old new b
begins_as old new a b is h = let P : List ℕ → Type 0 = λ l. AppendsPrefix old new l in subst P is h

pub ok_weaker : (r : Result (Unit {0}) WriteFault) (P Q : Type 0) → (P → Q) → OnOk r P → OnOk r Q
ok_weaker (Ok u) P Q on p = on p
ok_weaker (Err e) P Q on p = tt

pub on_err : (r : Result (Unit {0}) WriteFault) (P : Type 0) → P → OnErr r P
on_err (Ok u) P p = tt
on_err (Err e) P p = p

pub err_weaker : (r : Result (Unit {0}) WriteFault) (P Q : Type 0) → (P → Q) → OnErr r P → OnErr r Q
err_weaker (Ok u) P Q on p = tt
err_weaker (Err e) P Q on p = on p
