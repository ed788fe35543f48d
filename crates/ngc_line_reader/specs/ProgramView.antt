-- The contents of a Program, and the relation between the result of reading and the file.
use Rattle.std.specs.Prelude.{◌≡◌, List, Result, Ok, Err}
use Rattle.ngc_line_reader.specs.declared.program.fault.ReadFault.{ReadFault}
use Rattle.ngc_line_reader.specs.declared.program.fault.ReadFault.TheVariants as faults
use Rattle.ngc_line_reader.specs.declared.program.stored.StoredLines.{StoredLines}
use Rattle.ngc_line_reader.specs.declared.program.Program.{Program}
use Rattle.ngc_line_reader.specs.Program.{Line}
use Rattle.ngc_line_reader.specs.ProgramText.{ProgramText, Outcome}
use Rattle.ngc_line_reader.specs.Stored.{lines_from}

abbrev pub lines_in : {A : Type 0} → StoredLines A → List Line
lines_in s = lines_from s.bytes.items 0 s.ends.items

-- the contents of a program
abbrev pub text_in : {A : Type 0} → Program A → ProgramText
text_in p = record { lines = lines_in p.lines; marked = p.marked }

-- A fault is that of the file, unless it is lack of memory or a device's failure.
abbrev pub FaultIs : ReadFault → Outcome → Type 0
FaultIs (faults.Line n f) outcome = outcome ≡ Err (faults.Line n f)
FaultIs faults.NoEnd outcome = outcome ≡ Err faults.NoEnd
FaultIs faults.TooManyLines outcome = outcome ≡ Err faults.TooManyLines
FaultIs faults.Memory outcome = Unit {0}
FaultIs faults.Device outcome = Unit {0}

-- The result is the one that the file defines: its text, or its fault.
abbrev pub OutcomeIs : {A : Type 0} → Result (Program A) ReadFault → Outcome → Type 0
OutcomeIs (Ok p) outcome = outcome ≡ Ok (text_in p)
OutcomeIs (Err fault) outcome = FaultIs fault outcome
