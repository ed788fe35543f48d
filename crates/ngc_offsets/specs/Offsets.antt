-- The difference between machine places and programmed places (NISTIR 6556, 3.2.2).
use Rattle.std.specs.Prelude.{ℤ, List}
use Rattle.ngc_fixed_length.specs.declared.modes.System.{System}
use Rattle.ngc_fixed_length.specs.declared.points.Point3.{Point3}
use Rattle.ngc_offsets.specs.declared.fault.CoordinateRange.{CoordinateRange}

pub record Offsets : Type 0 where
  -- one for each of the nine coordinate systems
  pub origins : List Point3
  pub active : System
  -- the axis offset in force, and the one that G92 saved
  pub axis_offset : Point3
  pub saved : Point3
  -- the tool length offset, on Z
  pub length : ℤ
  -- how far from zero programmed coordinates may be
  pub reach : CoordinateRange
