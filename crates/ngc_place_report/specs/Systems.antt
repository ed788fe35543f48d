-- The names and codes of coordinate systems. Our own.
use Rattle.std.specs.Prelude.{ℕ, List, codes, Option, Some, None, if◌then◌else◌}
use Rattle.std.specs.Str.{bytes_eq}
use Rattle.ngc_fixed_length.specs.declared.modes.System.{System}
use Rattle.ngc_fixed_length.specs.declared.modes.System.TheVariants as systems

-- a system by its code without the G
abbrev pub system_in : List ℕ → Option System
system_in name =
    if bytes_eq name (codes "54") then Some systems.First else
    if bytes_eq name (codes "55") then Some systems.Second else
    if bytes_eq name (codes "56") then Some systems.Third else
    if bytes_eq name (codes "57") then Some systems.Fourth else
    if bytes_eq name (codes "58") then Some systems.Fifth else
    if bytes_eq name (codes "59") then Some systems.Sixth else
    if bytes_eq name (codes "59.1") then Some systems.Seventh else
    if bytes_eq name (codes "59.2") then Some systems.Eighth else
    if bytes_eq name (codes "59.3") then Some systems.Ninth else None

-- the first system if none is named
abbrev pub system_named : Option (List ℕ) → Option System
system_named None = Some systems.First
system_named (Some name) = system_in name

abbrev pub code_text : System → List ℕ
code_text systems.First = codes "G54"
code_text systems.Second = codes "G55"
code_text systems.Third = codes "G56"
code_text systems.Fourth = codes "G57"
code_text systems.Fifth = codes "G58"
code_text systems.Sixth = codes "G59"
code_text systems.Seventh = codes "G59.1"
code_text systems.Eighth = codes "G59.2"
code_text systems.Ninth = codes "G59.3"
