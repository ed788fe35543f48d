-- Texts that are written in order.
use Rattle.std.proofs.Common.{◌≡◌, ℕ, List, [], ◌++◌, Option, Result, Ok, Err, OnOk, OnErr, subst, ◌∙◌}
use Rattle.std.specs.Io.KnownBytes.{Appends}
use Rattle.std.specs.Result.{IsErr}
use Rattle.ngc_sentences.proofs.CollectedTexts.{all_written, beginning_written}
use Rattle.ngc_text.proofs.AppendedTexts.{appends_both}
use Rattle.ngc_text.specs.Collected.{WritesPrefix}
use Rattle.ngc_text.specs.Failures.{CountsFailure, Rises}
use Rattle.ngc_text.specs.Written.{AppendsPrefix}
use Rattle.ngc_text.specs.declared.writing.WriteFault.{WriteFault}
use Rattle.ngc_program_report.specs.Writing.{Writes}
use Rattle.ngc_program_report.proofs.WrittenLaws.{begins_first, begins_last}

-- an equal text
pub writes_as : {r : Result (Unit {0}) WriteFault} {old new : Option (List ℕ)} {n m : ℕ} {a b : List ℕ} → Writes old new n m r a → a ≡ b → Writes old new n m r b
writes_as {r} {old} {new} {n} {m} {a} {b} wrote is = subst (λ (l : List ℕ). Writes old new n m r l) is wrote

then_by : (r : Result (Unit {0}) WriteFault) (old mid new : Option (List ℕ)) (n m k : ℕ) (a b : List ℕ) → Appends old mid a → m ≡ n → Writes mid new m k r b
    → Writes old new n k r (a ++ b)
then_by (Ok u) old mid new n m k a b wrote kept more = record {
  ok = appends_both old mid new a b wrote more.ok;
  fault = tt;
  counts = more.counts ∙ kept;
}
then_by (Err e) old mid new n m k a b wrote kept more = record {
  ok = tt;
  fault = begins_last old mid new a b wrote more.fault;
  counts = subst (λ (c : ℕ). Rises c k) kept more.counts;
}

-- a text is written, and then another
pub then : {r : Result (Unit {0}) WriteFault} {old mid new : Option (List ℕ)} {n m k : ℕ} (a b : List ℕ) → Appends old mid a → m ≡ n
    → Writes mid new m k r b → Writes old new n k r (a ++ b)
then {r} {old} {mid} {new} {n} {m} {k} a b wrote kept more = then_by r old mid new n m k a b wrote kept more

stops_by : (r : Result (Unit {0}) WriteFault) (old new : Option (List ℕ)) (n m : ℕ) (a b : List ℕ) → IsErr r → AppendsPrefix old new a → Rises n m
    → Writes old new n m r (a ++ b)
stops_by (Ok u) old new n m a b is wrote counted = absurd (cc is)
stops_by (Err e) old new n m a b is wrote counted = record { ok = tt; fault = begins_first old new a b wrote; counts = counted }

-- a write fails before another text
pub stops : {r : Result (Unit {0}) WriteFault} {old new : Option (List ℕ)} {n m : ℕ} (a b : List ℕ) → IsErr r → AppendsPrefix old new a → Rises n m
    → Writes old new n m r (a ++ b)
stops {r} {old} {new} {n} {m} a b is wrote counted = stops_by r old new n m a b is wrote counted

breaks_by : (r : Result (Unit {0}) WriteFault) (old new : Option (List ℕ)) (n m : ℕ) (a : List ℕ) → IsErr r → AppendsPrefix old new a → Rises n m
    → Writes old new n m r a
breaks_by (Ok u) old new n m a is wrote counted = absurd (cc is)
breaks_by (Err e) old new n m a is wrote counted = record { ok = tt; fault = wrote; counts = counted }

-- a write fails within a text
pub breaks : {r : Result (Unit {0}) WriteFault} {old new : Option (List ℕ)} {n m : ℕ} {a : List ℕ} → IsErr r → AppendsPrefix old new a → Rises n m → Writes old new n m r a
breaks {r} {old} {new} {n} {m} {a} is wrote counted = breaks_by r old new n m a is wrote counted

-- a text that is written, from the three clauses
pub written : {r : Result (Unit {0}) WriteFault} {old new : Option (List ℕ)} {n m : ℕ} {a : List ℕ} → OnOk r (Appends old new a)
    → OnErr r (AppendsPrefix old new a) → CountsFailure n m r → Writes old new n m r a
written {r} {old} {new} {n} {m} {a} ok fault counts = record { ok = ok; fault = fault; counts = counts }

-- the same for an equal text
pub writes_text : {r : Result (Unit {0}) WriteFault} {old new : Option (List ℕ)} {n m : ℕ} (a b : List ℕ) → a ≡ b → OnOk r (Appends old new a)
    → OnErr r (AppendsPrefix old new a) → CountsFailure n m r → Writes old new n m r b
writes_text {r} {old} {new} {n} {m} a b is ok fault counts = writes_as (written ok fault counts) is

-- ---- a text that is collected first

pub written_out : (r : Result (Unit {0}) WriteFault) (old mid new : Option (List ℕ)) (n m k : ℕ) (before after text : List ℕ) → before ≡ []
    → WritesPrefix old mid (before ++ text) after → m ≡ n → OnOk r (Appends mid new after) → OnErr r (AppendsPrefix mid new after) → CountsFailure m k r
    → Writes old new n k r text
written_out (Ok u) old mid new n m k before after text empty front kept ok fault counts = record {
  ok = subst (λ (l : List ℕ). Appends old new (l ++ text)) empty (all_written old mid new (before ++ text) after front ok);
  fault = tt;
  counts = counts ∙ kept;
}
written_out (Err e) old mid new n m k before after text empty front kept ok fault counts = record {
  ok = tt;
  fault = subst (λ (l : List ℕ). AppendsPrefix old new (l ++ text)) empty (beginning_written old mid new (before ++ text) after front fault);
  counts = subst (λ (c : ℕ). Rises c k) kept counts;
}

-- a write fails while it is collected
pub cut_off : (old new : Option (List ℕ)) (n m : ℕ) (e : WriteFault) (before text : List ℕ) → before ≡ [] → AppendsPrefix old new (before ++ text) → Rises n m
    → Writes old new n m (Err e) text
cut_off old new n m e before text empty wrote counted =
    record { ok = tt; fault = subst (λ (l : List ℕ). AppendsPrefix old new (l ++ text)) empty wrote; counts = counted }
