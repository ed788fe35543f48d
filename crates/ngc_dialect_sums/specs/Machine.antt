-- The parameters that the control of the tests knows: a tool at X1.5, in millimetres and in coordinate
-- system 1.
use Rattle.std.specs.Prelude.{ℕ, ◌==◌, ◌||◌, ℤ, pos, List, Option, Some, None, if◌then◌else◌, codes}
use Rattle.std.specs.Str.{bytes_eq}

abbrev pub machine_number : ℕ → Option ℤ
machine_number n =
    if (n == 5041) || (n == 5420) then Some (pos 1500000000000) else (
    if n == 5220 then Some (pos 1000000000000) else None)

abbrev pub machine_name : List ℕ → Option ℤ
machine_name name =
    if bytes_eq name (codes "_X") then Some (pos 1500000000000) else (
    if bytes_eq name (codes "_METRIC") then Some (pos 1000000000000) else None)
