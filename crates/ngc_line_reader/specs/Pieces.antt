-- A file that arrives in pieces: the lines that are already certain, and their fault. Our own: a
-- fault is returned as soon as it is certain.
use Rattle.std.specs.Prelude.{ℕ, ◌==◌, nat_le, List, [], ◌∷◌, ◌++◌, length, Option, if◌then◌else◌}
use Rattle.ngc_line_reader.specs.declared.program.fault.ReadFault.{ReadFault}
use Rattle.ngc_line_reader.specs.Program.{numbered, read_lines}
use Rattle.ngc_line_reader.specs.ProgramText.{first_fault}

-- The lines that are certain whatever follows, after the beginning of a line: a line feed ends a
-- line, and one of more than 256 bytes is already too long.
abbrev pub certain_after : List ℕ → List ℕ → List (List ℕ)
certain_after line [] = if nat_le (length line) 256 then [] else line ∷ []
certain_after line (b ∷ bytes) =
    if b == 10 then line ∷ certain_after [] bytes else certain_after (line ++ (b ∷ [])) bytes

abbrev pub firm_lines : List ℕ → List (List ℕ)
firm_lines bytes = certain_after [] bytes

-- the fault that is certain after these bytes: the first one of the lines that are read and certain
abbrev pub fault_so_far : List ℕ → Option ReadFault
fault_so_far bytes = first_fault 0 (read_lines (numbered 1 (firm_lines bytes)))
