-- A number of cells that is requested of a report where there is no block of material to divide. Our own.
use Rattle.std.specs.Prelude.{ℕ, List, ◌++◌, codes, Option, Some, None, Bool, true, false}
use Rattle.std.specs.Io.KnownBytes.{Appends}
use Rattle.ngc_text.specs.Written.{AppendsPrefix}
use Rattle.ngc_machine_files.specs.declared.machine.StockBox.{StockBox}
use Rattle.ngc_report.specs.declared.form.Form.{Form}
use Rattle.ngc_report.specs.declared.form.Form.TheVariants.{Words, Json}
use Rattle.ngc_inputs.specs.declared.fault.AnswerFault.{AnswerFault}
use Rattle.ngc_inputs.specs.declared.fault.AnswerFault.TheVariants as answers
use Rattle.ngc_program_report.specs.Texts.{ending}
use Rattle.ngc_simulator.specs.Mistaken.{fault_document}

-- a number is requested, and there is no block
abbrev pub is_idle : Option ℕ → Option StockBox → Bool
is_idle None stock = false
is_idle (Some cells) None = true
is_idle (Some cells) (Some stock) = false

unfoldable pub no_material_words : List ℕ
no_material_words =
    codes "`--cells` divides a block of material, and there is none: name it with `--stock`, or in the machine file.\n"

-- the sentence, or a document that has the fault's number alone
abbrev pub no_material_text : Form → List ℕ
no_material_text Words = no_material_words ++ ending Words 729
no_material_text Json = fault_document 729

-- this text was written, or a prefix of it if the sink failed
abbrev pub ReportsNoMaterial : Form → Option (List ℕ) → Option (List ℕ) → AnswerFault → Type 0
ReportsNoMaterial form old new answers.NoMaterial = Appends old new (no_material_text form)
ReportsNoMaterial form old new (answers.Write fault) = AppendsPrefix old new (no_material_text form)
ReportsNoMaterial form old new _ = ⊥
