-- Units (NISTIR 6556, 3.5.7: G20, G21), and the grid steps that a machine may have (our own rule).
use Rattle.std.specs.Prelude.{ℤ, pos, ◌≤ℤ◌}
use Rattle.ngc_fixed_length.specs.declared.units.Units.{Units}
use Rattle.ngc_fixed_length.specs.declared.units.Units.TheVariants.{Millimetres, Inches}

-- the length of a unit, in nanometres
abbrev pub nanometres_in : Units → ℤ
nanometres_in Millimetres = pos 1000000
nanometres_in Inches = pos 25400000

-- a grid step that the machine may have, in nanometres
pub record IsStep (step : ℤ) : Type 0 where
  pub least : pos 500 ≤ℤ step
  pub greatest : step ≤ℤ pos 50000
