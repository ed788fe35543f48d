-- What a function that writes a text does. Our own.
use Rattle.std.specs.Prelude.{ℕ, List, Option, Result, OnOk, OnErr}
use Rattle.std.specs.Io.KnownBytes.{Appends}
use Rattle.ngc_text.specs.Failures.{CountsFailure}
use Rattle.ngc_text.specs.Written.{AppendsPrefix}
use Rattle.ngc_text.specs.declared.writing.WriteFault.{WriteFault}

-- the text is written; or a write fails, which the sink counts, and a prefix of the text is written
pub record Writes (old new : Option (List ℕ)) (count more : ℕ)
    (result : Result (Unit {0}) WriteFault) (text : List ℕ) : Type 0 where
  pub ok : OnOk result (Appends old new text)
  pub fault : OnErr result (AppendsPrefix old new text)
  pub counts : CountsFailure count more result
