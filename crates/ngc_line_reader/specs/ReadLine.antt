-- Reading a whole line, with the first fault that it has. A line of more than 256 bytes is refused
-- at column 257 before any other fault (our own).
use Rattle.std.specs.Prelude.{ℕ, List, length, nat_le, Result, Err, if◌then◌else◌}
use Rattle.ngc_line_reader.specs.declared.fault.FaultKind.TheVariants.{LineTooLong}
use Rattle.ngc_line_reader.specs.declared.fault.LineFault.{LineFault}
use Rattle.ngc_line_reader.specs.Text.{text, columns, place_in}
use Rattle.ngc_line_reader.specs.ScanLine.{ParsedLine, fault_at, text_at}

abbrev pub line_read : List ℕ → Result ParsedLine LineFault
line_read line = if nat_le 257 (length line) then Err (fault_at LineTooLong 257)
    else text_at (place_in (columns line)) (text line)
