-- Where the tool is in the coordinates of the program: by the origin, the offset of G92, the tool length
-- and that of G43.1, which are in force before the line.
use Rattle.std.specs.Prelude.{ℤ, pos, ◌-ℤ◌, Result, Ok, Err}
use Rattle.ngc_fixed_length.specs.declared.points.Point3.{Point3}
use Rattle.ngc_offsets.specs.declared.fault.Axis.{Axis}
use Rattle.ngc_offsets.specs.declared.fault.Axis.TheVariants as axes
use Rattle.ngc_dialect_rules.specs.declared.front.Known.{Known}
use Rattle.ngc_dialect_drilling.specs.Places.{own_shift}
use Rattle.ngc_dialect_repeats.specs.declared.refusal.PolarRefusal.{PolarRefusal}
use Rattle.ngc_dialect_repeats.specs.Refusals.{◌>>=◌, length}

abbrev pub coordinate : Known → Axis → ℤ → ℤ → Result ℤ PolarRefusal
coordinate k axis place further = length ((place -ℤ own_shift k axis) -ℤ further)

unfoldable pub program_place : Known → Result Point3 PolarRefusal
program_place k = do
  x ← coordinate k axes.X k.place.x (pos 0)
  y ← coordinate k axes.Y k.place.y (pos 0)
  z ← coordinate k axes.Z k.place.z k.front.length
  Ok (record { x = x; y = y; z = z })
