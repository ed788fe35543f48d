-- The kinds of values of a tool table. Our own.
use Rattle.std.specs.Prelude.{ℕ, ℤ, pos, negsuc, unsigned_abs, int_le, Option, Some, None, Result, Ok}
use Rattle.std.specs.Prelude.{Bool, ◌&&◌, if◌then◌else◌}
use Rattle.toml.specs.Data.{Data, as_integer}
use Rattle.ngc_machine_figures.specs.declared.key.Key.{Key}
use Rattle.ngc_machine_figures.specs.declared.refusal.FileRefusal.{FileRefusal}
use Rattle.ngc_machine_figures.specs.declared.refusal.Wrong.TheVariants as wrongs
use Rattle.ngc_machine_figures.specs.declared.sheet.Length.{Length}
use Rattle.ngc_machine_figures.specs.declared.tool_key.ToolWrong.TheVariants as tools
use Rattle.ngc_machine_figures.specs.Kinds.{length_value}
use Rattle.ngc_machine_figures.specs.Reading.{◌>>=◌, refused}
use Rattle.ngc_written_tools.specs.declared.sheet.Offset.{Offset}
use Rattle.ngc_written_tools.specs.declared.sheet.Size.{Size}
use Rattle.ngc_written_tools.specs.declared.sheet.ToolNumber.{ToolNumber}

abbrev pub is_from : ℤ → ℤ → ℤ → Bool
is_from low high n = int_le low n && int_le n high

-- a length from 1 nm to 1,000 mm
abbrev pub size_by : Key → Length → Result Size FileRefusal
size_by key length =
    if is_from (pos 1) (pos 1000000000) length.nanometres
    then Ok (record { nanometres = unsigned_abs length.nanometres })
    else refused key (wrongs.Tool tools.Size)

unfoldable pub size_value : Key → Data → Result Size FileRefusal
size_value key value = length_value key value >>= size_by key

-- a length from -1,000 mm to 1,000 mm
abbrev pub offset_by : Key → Length → Result Offset FileRefusal
offset_by key length =
    if is_from (negsuc 999999999) (pos 1000000000) length.nanometres
    then Ok (record { nanometres = length.nanometres })
    else refused key (wrongs.Tool tools.Offset)

unfoldable pub offset_value : Key → Data → Result Offset FileRefusal
offset_value key value = length_value key value >>= offset_by key

-- what T and H call a tool: 1 to 9,999
abbrev pub number_by : Key → ℤ → Result ToolNumber FileRefusal
number_by key n =
    if is_from (pos 1) (pos 9999) n then Ok (record { number = unsigned_abs n })
    else refused key (wrongs.Tool tools.Number)

abbrev pub number_in : Key → Option ℤ → Result ToolNumber FileRefusal
number_in key None = refused key (wrongs.NoWhole 1 9999)
number_in key (Some n) = number_by key n

unfoldable pub number_value : Key → Data → Result ToolNumber FileRefusal
number_value key value = number_in key (as_integer value)
