-- The text that the second sink takes.
use Rattle.std.proofs.Common.{◌≡◌, ℕ, List, Result, Ok, Err, OnOk, OnErr, inl, inr, subst}
use Rattle.std.specs.Io.KnownBytes.{Appends}
use Rattle.ngc_text.specs.Failures.{CountsFailure}
use Rattle.ngc_text.specs.Written.{AppendsPrefix}
use Rattle.ngc_text.specs.declared.writing.WriteFault.{WriteFault}
use Rattle.ngc_simulator.specs.Answers.{Taking, Takes}

took : (r : Result (Unit {0}) WriteFault) (sink : Taking) (text : List ℕ)
    → OnOk r (Appends sink.old sink.new text) → OnErr r (AppendsPrefix sink.old sink.new text) → CountsFailure sink.failures sink.failures_now r →
    Takes sink text
took (Ok u) sink text ok fault counts = inl (ok, counts)
took (Err e) sink text ok fault counts = inr (fault, counts)

pub took_text : (r : Result (Unit {0}) WriteFault) (sink : Taking) (collected text : List ℕ) → collected ≡ text
    → OnOk r (Appends sink.old sink.new collected) → OnErr r (AppendsPrefix sink.old sink.new collected) → CountsFailure sink.failures sink.failures_now r →
    Takes sink text
took_text r sink collected text is ok fault counts = subst (Takes sink) is (took r sink collected ok fault counts)
