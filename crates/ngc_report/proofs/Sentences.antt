-- Lines after others.
use Rattle.std.proofs.Common.{ℕ, List, ◌++◌, Option, sym}
use Rattle.std.proofs.lemmas.List.Concat.{flat_map-append}
use Rattle.ngc_sentences.specs.Saying.{Says}
use Rattle.ngc_sentences.specs.declared.page.Page.{Page}
use Rattle.ngc_sentences.proofs.Said.{says_as, then}
use Rattle.ngc_report.specs.Forms.{report_text, spelled}
use Rattle.ngc_report.specs.declared.form.Form.{Form}
use Rattle.ngc_findings.specs.declared.line.Line.{Line}

-- lines after others
pub then_lines : {old mid new : Option (List ℕ)} {n m k : ℕ} {p q r : Page} (form : Form) (a b : List Line) → Says old mid n m p q (report_text form a) →
    Says mid new m k q r (report_text form b) → Says old new n k p r (report_text form (a ++ b))
then_lines form a b h i = says_as (then h i) (sym (flat_map-append (spelled form) a b))
