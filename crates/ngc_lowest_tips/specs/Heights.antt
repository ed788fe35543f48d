-- The lowest height of a path, in the machine's coordinates and in the program's. Our own; the
-- shift of a frame is that of NISTIR 6556, 3.2.2.
use Rattle.std.specs.Prelude.{ℤ, ◌-ℤ◌, List, fold}
use Rattle.std.specs.Int.{int_min}
use Rattle.ngc_arc_geometry.specs.Sector.{extremes}
use Rattle.ngc_arc_geometry.specs.Shape.{ArcShape}
use Rattle.ngc_commands.specs.declared.movement.Way.{Way}
use Rattle.ngc_commands.specs.declared.movement.Way.TheVariants.{Line, Arc}
use Rattle.ngc_fixed_length.specs.Places.{at_height}
use Rattle.ngc_fixed_length.specs.declared.points.Point2.{Point2}
use Rattle.ngc_frames.specs.declared.frame.Frame.{Frame}
use Rattle.ngc_offsets.specs.Frames.{shift_of}

-- the coordinate on Z of a point in an arc's plane; in the XY plane that of the arc's end
abbrev pub z_of : ArcShape → Point2 → ℤ
z_of a p = (at_height a.plane p a.end.z).z

-- the lowest of a height and some points
abbrev pub lowest_of_points : ArcShape → ℤ → List Point2 → ℤ
lowest_of_points a first points =
    fold (λ (low : ℤ) (p : Point2). int_min low (z_of a p)) first points

-- the lowest of an arc's end and the quadrant points that it passes
abbrev pub lowest_of_arc : ArcShape → ℤ
lowest_of_arc a = lowest_of_points a a.end.z (extremes a)

-- the lowest Z that a path goes to from its start, in machine coordinates. The start is the end of
-- an earlier motion, which may have another frame or another tool.
abbrev pub lowest_of : Way → ℤ
lowest_of (Line start end) = end.z
lowest_of (Arc arc) = lowest_of_arc arc

-- a machine's Z in the program's coordinates
abbrev pub height_in : Frame → ℤ → ℤ
height_in f z = z -ℤ (shift_of f.frames).z
