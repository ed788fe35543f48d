-- The greatest difference of an arc's radii (NISTIR 6556, 3.5.3.2).
use Rattle.std.specs.Prelude.{ℕ}
use Rattle.ngc_fixed_length.specs.declared.units.Units.{Units}
use Rattle.ngc_fixed_length.specs.declared.units.Units.TheVariants.{Millimetres, Inches}

-- the greatest difference of the radii at start and end, in nanometres
abbrev pub tolerance : Units → ℕ
tolerance Millimetres = 2000
tolerance Inches = 5080
