-- The names of the languages. Our own.
use Rattle.std.specs.Prelude.{ℕ, List, Option, Some, None, codes, if◌then◌else◌}
use Rattle.std.specs.Str.{bytes_eq}
use Rattle.ngc_dialect_names.specs.declared.dialect.Dialect.{Dialect}
use Rattle.ngc_dialect_names.specs.declared.dialect.Dialect.TheVariants.{LinuxCnc, Grbl, Mach3, Fanuc}

-- the language with this name
abbrev pub named_dialect : List ℕ → Option Dialect
named_dialect name =
    if bytes_eq name (codes "linuxcnc") then Some LinuxCnc else (
    if bytes_eq name (codes "grbl") then Some Grbl else (
    if bytes_eq name (codes "mach3") then Some Mach3 else (
    if bytes_eq name (codes "fanuc") then Some Fanuc else None)))

abbrev pub name_of : Dialect → List ℕ
name_of LinuxCnc = codes "linuxcnc"
name_of Grbl = codes "grbl"
name_of Mach3 = codes "mach3"
name_of Fanuc = codes "fanuc"
