-- The header of a table that isn't known. Our own.
use Rattle.std.specs.Prelude.{ℕ, List, ◌++◌, codes}
use Rattle.ngc_refused_files.specs.declared.header.Brackets.{Brackets}
use Rattle.ngc_refused_files.specs.declared.header.Brackets.TheVariants.{Double, Single, Inner, Axis}

abbrev pub opening : Brackets → List ℕ
opening Double = codes "[["
opening Single = codes "["
opening Inner = codes "["
opening Axis = codes "[axis."

abbrev pub closing : Brackets → List ℕ
closing Double = codes "]]"
closing Single = codes "]"
closing Inner = codes "."
closing Axis = codes "]"

-- [[name]], [name] or [axis.name]; [name. begins the header of a table in the table
abbrev pub header_of : Brackets → List ℕ → List ℕ
header_of brackets name = (opening brackets ++ name) ++ closing brackets
