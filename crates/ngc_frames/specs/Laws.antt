-- The meaning of a frame's coordinates. Our own.
use Rattle.std.specs.Prelude.{◌≡◌}
use Rattle.ngc_fixed_length.specs.declared.points.Point3.{Point3}
use Rattle.ngc_offsets.specs.Frames.{to_machine, to_program}
use Rattle.ngc_offsets.specs.Offsets.{Offsets}

-- the machine point of a program's coordinates has these program coordinates
abbrev pub NamesItsPoints : Type 0
NamesItsPoints = (f : Offsets) (p : Point3) → to_program f (to_machine f p) ≡ p
