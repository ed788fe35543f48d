-- The gap between the body of a tool and fixtures. Our own.
use Rattle.std.specs.Prelude.{ℤ, pos, ◌-ℤ◌, int_le, ◌≡◌}
use Rattle.std.specs.Int.{int_max}
use Rattle.ngc_machine_files.specs.declared.machine.Fixture.{Fixture}
use Rattle.ngc_collision.specs.Body.{Solid, are_apart}

-- the gap of two ranges along an axis; below 0 if they overlap there
abbrev pub axis_gap : ℤ → ℤ → ℤ → ℤ → ℤ
axis_gap low high least greatest = int_max (least -ℤ high) (low -ℤ greatest)

-- the greatest of the gaps on the three axes: the fixture might be larger by this much on every
-- side
abbrev pub gap : Fixture → Solid → ℤ
gap f b =
    int_max (axis_gap b.low.x b.high.x f.low.x f.high.x)
    (int_max (axis_gap b.low.y b.high.y f.low.y f.high.y)
    (axis_gap b.low.z b.high.z f.low.z f.high.z))

-- the gap isn't below 0 exactly if they are apart
abbrev pub GapIsReported : Type 0
GapIsReported = (f : Fixture) (b : Solid) → int_le (pos 0) (gap f b) ≡ are_apart f b
