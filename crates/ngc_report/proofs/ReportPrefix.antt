-- A whole text that is collected and written out.
use Rattle.std.proofs.Common.{◌≡◌, ℕ, List, [], ◌++◌, Option, Some, None, Result, Ok, Err, sym, subst}
use Rattle.std.proofs.lemmas.List.{append-nil}
use Rattle.std.specs.Prelude.{OnOk, OnErr}
use Rattle.std.specs.Io.KnownBytes.{Appends}
use Rattle.ngc_text.specs.Written.{AppendsPrefix}
use Rattle.ngc_text.specs.declared.writing.WriteFault.{WriteFault}
use Rattle.ngc_text.specs.Collected.{WritesPrefix}
use Rattle.ngc_certificate_text.proofs.CollectedTexts.{all_written, beginning_written}

-- nothing is written yet
pub appends_none : (o : Option (List ℕ)) → Appends o o []
appends_none None = tt
appends_none (Some xs) = sym (append-nil xs)

from_empty : (old mid : Option (List ℕ)) (chunk text after : List ℕ) → chunk ≡ [] → WritesPrefix old mid (chunk ++ text) after → WritesPrefix old mid text after
from_empty old mid chunk text after is h = subst (λ (l : List ℕ). WritesPrefix old mid (l ++ text) after) is h

pub whole_out : (r : Result (Unit {0}) WriteFault) (old mid new : Option (List ℕ)) (chunk text after : List ℕ) → chunk ≡ [] →
    WritesPrefix old mid (chunk ++ text) after
    → OnOk r (Appends mid new after) → OnOk r (Appends old new text)
whole_out (Ok u) old mid new chunk text after is h k = all_written old mid new text after (from_empty old mid chunk text after is h) k
whole_out (Err e) old mid new chunk text after is h k = tt

pub part_out : (r : Result (Unit {0}) WriteFault) (old mid new : Option (List ℕ)) (chunk text after : List ℕ) → chunk ≡ [] →
    WritesPrefix old mid (chunk ++ text) after
    → OnErr r (AppendsPrefix mid new after) → OnErr r (AppendsPrefix old new text)
part_out (Ok u) old mid new chunk text after is h k = tt
part_out (Err e) old mid new chunk text after is h k = beginning_written old mid new text after (from_empty old mid chunk text after is h) k

pub none_out : (old new : Option (List ℕ)) (chunk text : List ℕ) → chunk ≡ [] → AppendsPrefix old new (chunk ++ text) → AppendsPrefix old new text
none_out old new chunk text is h = subst (λ (l : List ℕ). AppendsPrefix old new (l ++ text)) is h
