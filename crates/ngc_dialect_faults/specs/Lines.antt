-- The line that reports why a program for another control isn't executed. Our own.
use Rattle.std.specs.Prelude.{ℕ, ◌/◌, ◌%◌, ◌==◌, List, [], ◌∷◌, ◌++◌, codes, decimal, Option, Some}
use Rattle.std.specs.Prelude.{None, if◌then◌else◌}
use Rattle.ngc_canonical.specs.declared.fault.Fault.{Fault as PlainFault}
use Rattle.ngc_canonical.specs.declared.fault.Fault.TheVariants.{NoSuchTool}
use Rattle.ngc_certificate_text.specs.declared.piece.Setting.{Setting}
use Rattle.ngc_certificate_text.specs.declared.piece.Setting.TheVariants.{Off, On}
use Rattle.ngc_dialect_execution.specs.Faults.{cause_number}
use Rattle.ngc_dialect_execution.specs.declared.fault.Cause.{Cause}
use Rattle.ngc_dialect_execution.specs.declared.fault.Cause.TheVariants.{Reading, Value, TooManyNames, Flow, Rule, Polar, NothingSaved, Plain}
use Rattle.ngc_dialect_rules.specs.declared.code.Code.{Code}
use Rattle.ngc_dialect_rules.specs.declared.code.Code.TheVariants.{G, M}
use Rattle.ngc_dialect_rules.specs.declared.fault.About.{About}
use Rattle.ngc_dialect_rules.specs.declared.fault.About.TheVariants as about
use Rattle.ngc_dialect_rules.specs.declared.fault.Fault.{Fault as RuleFault}
use Rattle.ngc_dialect_faults.specs.Flow.{flow_words}
use Rattle.ngc_dialect_faults.specs.Plain.{plain_words}
use Rattle.ngc_dialect_faults.specs.Rules.{polar_words, rule_end, rule_words}
use Rattle.ngc_dialect_faults.specs.Values.{reading_words, value_words}

-- ---- the word that a fault is about

abbrev pub point_text : ℕ → List ℕ
point_text tenth = if tenth == 0 then [] else codes "."

abbrev pub digit_text : ℕ → List ℕ
digit_text tenth = if tenth == 0 then [] else decimal tenth

-- a G code by its tenths: 592 is G59.2
abbrev pub tenths_text : ℕ → List ℕ
tenths_text tenths = codes "G" ++ decimal (tenths / 10) ++ point_text (tenths % 10)
    ++ digit_text (tenths % 10)

abbrev pub code_text : Code → List ℕ
code_text (M number) = codes "M" ++ decimal number
code_text (G tenths) = tenths_text tenths

-- a code, or a letter by its byte
abbrev pub word_text : About → List ℕ
word_text (about.Letter byte) = byte ∷ []
word_text (about.Code code) = code_text code

-- ---- what is wrong

abbrev pub rule_text : RuleFault → List ℕ
rule_text fault =
    rule_words fault.cause ++ rule_end fault.cause ++ codes ", at " ++ word_text fault.about

abbrev pub plain_end : PlainFault → List ℕ
plain_end (NoSuchTool tool) = decimal tool
plain_end _ = []

abbrev pub cause_text : Cause → List ℕ
cause_text (Reading fault) = reading_words fault.cause
cause_text (Value cause) = value_words cause
cause_text TooManyNames = codes "over 10,000 names"
cause_text (Flow cause) = flow_words cause
cause_text (Rule fault) = rule_text fault
cause_text (Polar refusal) = polar_words refusal
cause_text NothingSaved = codes "M72 restores modes that neither M70 nor M73 has saved here"
cause_text (Plain fault) = plain_words fault ++ plain_end fault

-- ---- the line

-- the column from which the line can't be read
abbrev pub column_text : Cause → List ℕ
column_text (Reading fault) = codes " column " ++ decimal fault.column
column_text _ = []

-- the number, the line of the source, and what is wrong
abbrev pub fault_text : ℕ → Cause → List ℕ
fault_text line cause =
    codes "fault " ++ decimal (cause_number cause) ++ codes " line " ++ decimal line
    ++ column_text cause ++ codes ": " ++ cause_text cause ++ codes "\n"

-- a command that needs both settings of block delete reports the setting, as for a program in our own
-- language
abbrev pub beginning : Option Setting → List ℕ
beginning None = codes "ngc: "
beginning (Some Off) = codes "ngc: fault 311 setting off "
beginning (Some On) = codes "ngc: fault 311 setting on "

abbrev pub fault_line : Option Setting → ℕ → Cause → List ℕ
fault_line setting line cause = beginning setting ++ fault_text line cause
