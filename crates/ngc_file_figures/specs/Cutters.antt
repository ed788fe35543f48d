-- The names of the cutters. Our own.
use Rattle.std.specs.Prelude.{ℕ, List, Option, Some, None, codes, if◌then◌else◌}
use Rattle.std.specs.Str.{bytes_eq}
use Rattle.ngc_file_figures.specs.declared.cutter.Cutter.{Cutter}
use Rattle.ngc_file_figures.specs.declared.cutter.Cutter.TheVariants.{Flat, Ball, Vee, Drill}

-- the cutter with this name
abbrev pub named_cutter : List ℕ → Option Cutter
named_cutter name =
    if bytes_eq name (codes "flat") then Some Flat else (
    if bytes_eq name (codes "ball") then Some Ball else (
    if bytes_eq name (codes "vee") then Some Vee else (
    if bytes_eq name (codes "drill") then Some Drill else None)))

abbrev pub name_of : Cutter → List ℕ
name_of Flat = codes "flat"
name_of Ball = codes "ball"
name_of Vee = codes "vee"
name_of Drill = codes "drill"
