-- What is written of a certificate. Our own.
use Rattle.std.specs.Prelude.{List, ℕ, Option, Result, Ok, Err}
use Rattle.std.specs.Io.KnownBytes.{Appends, Keeps}
use Rattle.ngc_text.specs.Written.{AppendsPrefix}
use Rattle.ngc_certificate_text.specs.Joined.{Form}
use Rattle.ngc_certificate_text.specs.Spelling.{spelling}
use Rattle.ngc_certificate.specs.declared.fault.MakeFault.TheVariants.{Memory}
use Rattle.ngc_inputs.specs.declared.fault.AnswerFault.{AnswerFault}
use Rattle.ngc_inputs.specs.declared.fault.AnswerFault.TheVariants as answers

-- the text of such a certificate was written, or a prefix of it if the sink failed; or memory ran
-- out, and nothing was written
abbrev pub WritesForm : (Form → Type 0) → Option (List ℕ) → Option (List ℕ) →
    Result (Unit {0}) AnswerFault → Type 0
WritesForm IsForm old new (Ok u) = (f : Form) × IsForm f × Appends old new (spelling f)
WritesForm IsForm old new (Err (answers.Make Memory)) = Keeps old new
WritesForm IsForm old new (Err (answers.Write fault)) =
    (f : Form) × IsForm f × AppendsPrefix old new (spelling f)
WritesForm IsForm old new (Err _) = ⊥
