-- The output where help or the version is requested.
use Rattle.std.specs.Prelude.{ℕ, List, Option, Result, Ok, Err, codes}
use Rattle.std.specs.Io.KnownBytes.{Appends, Keeps}
use Rattle.ngc_text.specs.Written.{AppendsPrefix}
use Rattle.ngc_inputs.specs.declared.fault.AnswerFault.{AnswerFault}
use Rattle.ngc_inputs.specs.declared.fault.AnswerFault.TheVariants as answers

-- the program's name and version
abbrev pub version_text : List ℕ
version_text = codes "ngc 0.1.0\n"

-- A text is written, or a prefix of it if the sink failed. If there is no help, the output is
-- unchanged.
abbrev pub Guides : Option (List ℕ) → Option (List ℕ) → Result (Unit {0}) AnswerFault → Type 0
Guides old new (Ok u) = (text : List ℕ) × Appends old new text
Guides old new (Err answers.UnknownCommand) = Keeps old new
Guides old new (Err answers.Memory) = Keeps old new
Guides old new (Err (answers.Write fault)) = (text : List ℕ) × AppendsPrefix old new text
Guides old new (Err _) = ⊥
