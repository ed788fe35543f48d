-- Texts that are collected in order, from each of them.
use Rattle.std.proofs.Common.{◌≡◌, ℕ, List, ◌++◌, Option, Result, Ok, Err, ap, subst, sym, ◌∙◌}
use Rattle.std.proofs.lemmas.List.{append_assoc}
use Rattle.ngc_certificate_text.proofs.CollectedTexts.{front_more, front_stopped, longer}
use Rattle.ngc_certificate_text.specs.Collects.{Collects}
use Rattle.ngc_text.specs.Collected.{WritesPrefix}
use Rattle.ngc_text.specs.Written.{AppendsPrefix}
use Rattle.ngc_text.specs.declared.writing.WriteFault.{WriteFault}

-- a write fails in the first of two texts
pub first_stopped : (old new : Option (List ℕ)) (before a rest : List ℕ) → AppendsPrefix old new (before ++ a) →
    AppendsPrefix old new (before ++ (a ++ rest))
first_stopped old new before a rest k =
    subst (λ (l : List ℕ). AppendsPrefix old new l) (append_assoc before a rest) (longer old new (before ++ a) rest k)

-- the first of two texts is collected, and then the other, or a write fails
pub both : (r : Result (Unit {0}) WriteFault) (old mid new : Option (List ℕ)) (before between after a rest : List ℕ)
    → WritesPrefix old mid (before ++ a) between → Collects mid new between after r rest → Collects old new before after r (a ++ rest)
both (Ok u) old mid new before between after a rest h k =
    subst (λ (l : List ℕ). WritesPrefix old new l after) (append_assoc before a rest) (front_more old mid new (before ++ a) between after rest h k)
both (Err e) old mid new before between after a rest h k =
    subst (λ (l : List ℕ). AppendsPrefix old new l) (append_assoc before a rest) (front_stopped old mid new (before ++ a) between rest h k)

-- the same for an equal text
pub collects_as : (r : Result (Unit {0}) WriteFault) (old new : Option (List ℕ)) (before after a b : List ℕ) → a ≡ b
    → Collects old new before after r a → Collects old new before after r b
collects_as r old new before after a b is h = subst (λ (l : List ℕ). Collects old new before after r l) is h

-- space is made, and a text is added
pub lined : (old new : Option (List ℕ)) (before made after a : List ℕ) → WritesPrefix old new before made → after ≡ made ++ a
    → WritesPrefix old new (before ++ a) after
lined old new before made after a h is = (
  h.0,
  h.1,
  ap (λ l. l ++ a) h.2 ∙ append_assoc h.0 made a ∙ ap (λ l. h.0 ++ l) (sym is),
)
