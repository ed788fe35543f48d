-- The result of reading a file: its text, or why it is refused; and the readings of its lines.
--
-- The lines and their readings follow NISTIR 6556, section 3.3, "Format of a line". Our own: the
-- limit of 100,000 lines, and the choice of the fault: that of the first line at fault, and a
-- missing second percent line only if no line is at fault.
use Rattle.std.specs.Prelude.{ℕ, ◌+◌, nat_le, List, [], ◌∷◌, Bool, Option, Some, None, Result, Ok}
use Rattle.std.specs.Prelude.{Err, if◌then◌else◌}
use Rattle.std.specs.Option.{option_or}
use Rattle.ngc_line_reader.specs.declared.fault.LineFault.{LineFault}
use Rattle.ngc_line_reader.specs.declared.program.fault.ReadFault.{ReadFault}
use Rattle.ngc_line_reader.specs.declared.program.fault.ReadFault.TheVariants as faults
use Rattle.ngc_line_reader.specs.Grammar.{Reading, Reads}
use Rattle.ngc_line_reader.specs.Held.{WithinLimits}
use Rattle.ngc_line_reader.specs.Program.{Line, lines_of, read_lines, is_marked, lacks_end}
use Rattle.ngc_line_reader.specs.ScanLine.{ParsedLine}
use Rattle.ngc_line_reader.specs.ReadLine.{line_read}

-- the lines that are read, and whether percent lines mark the file
pub record ProgramText : Type 0 where
  pub lines : List Line
  pub marked : Bool

abbrev pub Outcome : Type 0
Outcome = Result ProgramText ReadFault

-- why a line with this number is refused
abbrev pub refusal_in : ℕ → Result ParsedLine LineFault → Option ReadFault
refusal_in number (Ok said) = None
refusal_in number (Err fault) = Some (faults.Line number fault)

-- why a line after `before` other lines is refused: it is one too many, or has no reading
abbrev pub fault_of : ℕ → Line → Option ReadFault
fault_of before line = if nat_le 100000 before then Some faults.TooManyLines
    else refusal_in line.number (line_read line.bytes)

-- the first fault of these lines, which are after `before` other lines
abbrev pub first_fault : ℕ → List Line → Option ReadFault
first_fault before [] = None
first_fault before (line ∷ lines) =
    option_or (fault_of before line) (first_fault (before + 1) lines)

-- the fault, or else the outcome
abbrev pub fault_or : Option ReadFault → Outcome → Outcome
fault_or None outcome = outcome
fault_or (Some fault) outcome = Err fault

-- the text of lines that have no fault
abbrev pub text_of_lines : List Line → Outcome
text_of_lines lines = if lacks_end lines then Err faults.NoEnd
    else Ok (record { lines = read_lines lines; marked = is_marked lines })

-- The result of a file's bytes: the first fault of the lines that are read; or else that the second
-- percent line is missing; or else these lines, in order, and the mark.
abbrev pub program_of : List ℕ → Outcome
program_of bytes =
    fault_or (first_fault 0 (read_lines (lines_of bytes))) (text_of_lines (lines_of bytes))

-- a line has a reading within the limits
pub record HasReading (line : Line) : Type 0 where
  pub reading : Reading
  pub reads : Reads line.bytes reading
  pub limits : WithinLimits reading

-- these are the readings of the lines, one for each, in order, and within the limits
abbrev pub AreReadings : List Line → List Reading → Type 0
AreReadings [] [] = Unit {0}
AreReadings [] (r ∷ rs) = ⊥
AreReadings (line ∷ lines) [] = ⊥
AreReadings (line ∷ lines) (r ∷ rs) = Reads line.bytes r × WithinLimits r × AreReadings lines rs

-- each line has a reading within the limits
pub record HaveReadings (lines : List Line) : Type 0 where
  pub readings : List Reading
  pub are : AreReadings lines readings
