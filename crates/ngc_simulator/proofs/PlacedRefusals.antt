-- A refused file is refused with changes too, and the report of it is the same.
use Rattle.std.proofs.Common.{◌≡◌, ℕ, List, Option, subst, sym}
use Rattle.std.specs.Io.KnownBytes.{Keeps}
use Rattle.ngc_inputs.proofs.SetupLaws.{shop_refused}
use Rattle.ngc_inputs.specs.Setups.{FileBytes}
use Rattle.ngc_inputs.specs.declared.fault.AnswerFault.{AnswerFault}
use Rattle.ngc_inputs.specs.declared.fault.AnswerFault.TheVariants as answers
use Rattle.ngc_margins.specs.declared.changes.Changes.{Changes}
use Rattle.ngc_report.specs.declared.form.Form.{Form}
use Rattle.ngc_inputs.proofs.JobLaws.{keeps_same}
use Rattle.ngc_simulator.specs.Mistaken.{ReportsPlacedRefusal, ReportsRefusal}

pub kept_output : (old new : Option (List ℕ)) → new ≡ old → Keeps old new
kept_output old new same = subst (Keeps old) (sym same) (keeps_same old)

pub report_refused : (form : Form) (bytes : FileBytes) (machine tools : Option (List ℕ)) (changes : Changes) (old new : Option (List ℕ)) (fault : AnswerFault)
    → ReportsRefusal form bytes machine tools old new fault → ReportsPlacedRefusal form bytes machine tools changes old new fault
report_refused form bytes machine tools changes old new (answers.Write e) told = told
report_refused form bytes machine tools changes old new (answers.Machine e) told = (shop_refused bytes machine tools changes (answers.Machine e) told.0, told.1)
report_refused form bytes machine tools changes old new (answers.Tools e) told = told
report_refused form bytes machine tools changes old new (answers.Input e) told = told
report_refused form bytes machine tools changes old new _ told = absurd told.0
