-- The length offset in force, as far as the words of a program's lines say. Our own.
use Rattle.std.specs.Prelude.{◌*◌, nat_le, ℤ, pos, ◌-ℤ◌, int_lt, unsigned_abs, List, find, ◌&&◌}
use Rattle.std.specs.Prelude.{Option, Some, None, option_map, Bool, true, false, not, if◌then◌else◌}
use Rattle.std.specs.Ordering.{int_eq}
use Rattle.ngc_machine_files.specs.declared.tools.Tool.{Tool}
use Rattle.ngc_line_reader.specs.ScanLine.{Parts}
use Rattle.ngc_line_reader.specs.declared.letter.Letter.TheVariants as letters
use Rattle.ngc_word_warnings.specs.Words.{has_code, number_after}
use Rattle.ngc_word_warnings.specs.declared.offset.Offset.{Offset}
use Rattle.ngc_word_warnings.specs.declared.offset.Offset.TheVariants as offsets

-- a number in millionths that is neither that of a tool nor 0
abbrev pub is_other : Tool → ℤ → Bool
is_other tool number =
    int_lt (pos 0) number && not (int_eq number (pos (tool.number * 1000000)))

-- nor that of the mounted tool
abbrev pub is_of_other : Option Tool → ℤ → Bool
is_of_other None number = false
is_of_other (Some tool) number = is_other tool number

-- the offset that G43 applies, with this number after H
abbrev pub applied : Option Tool → Option ℤ → Offset
applied mounted None = offsets.Other
applied mounted (Some number) =
    if int_eq number (pos 0) then offsets.Off
    else (if is_of_other mounted number then offsets.Other else offsets.Of number)

-- after the words of a line, after which this tool is mounted: G43 applies an offset, and G49
-- cancels it
abbrev pub offset_after : Option Tool → Offset → Parts → Offset
offset_after mounted before said =
    if has_code letters.G (pos 43000000) said then applied mounted (number_after letters.H said)
    else (if has_code letters.G (pos 49000000) said then offsets.Off else before)

abbrev pub is_applied : Offset → Bool
is_applied offsets.Off = false
is_applied (offsets.Of number) = true
is_applied offsets.Other = true

abbrev pub has_number : ℤ → Tool → Bool
has_number number tool = int_eq number (pos (tool.number * 1000000))

-- the offset of the tool with this number in the tool table
abbrev pub offset_of : List Tool → ℤ → Option ℤ
offset_of tools number = option_map (λ t. t.offset) (find (has_number number) tools)

-- it differs from that of a tool by 10 nm or more
abbrev pub is_apart : Option ℤ → Tool → Bool
is_apart None tool = false
is_apart (Some offset) tool = nat_le 10 (unsigned_abs (offset -ℤ tool.offset))
