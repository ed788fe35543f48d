-- The origins from which a program moves, and those that lie outside of the travel. Our own; the
-- origin of a coordinate system and the axis offset are those of NISTIR 6556, 3.2.2.
use Rattle.std.specs.Prelude.{ℕ, ◌==◌, max, nat_lt, ℤ, pos, ◌+ℤ◌, ◌-ℤ◌, int_lt, List, fold, Option}
use Rattle.std.specs.Prelude.{Some, None, Bool, true, false, not, ◌&&◌, ◌||◌, if◌then◌else◌}
use Rattle.std.specs.List.{list_all}
use Rattle.std.specs.Ordering.{int_eq}
use Rattle.std.specs.Int.{int_max, int_min}
use Rattle.ngc_collision.specs.declared.solid.Place.{Place}
use Rattle.ngc_commands.specs.declared.command.Action.{Action}
use Rattle.ngc_commands.specs.declared.command.Action.TheVariants.{Move}
use Rattle.ngc_commands.specs.declared.movement.Motion.{Motion}
use Rattle.ngc_commands.specs.declared.movement.Pace.{Pace}
use Rattle.ngc_commands.specs.declared.movement.Pace.TheVariants as paces
use Rattle.ngc_fixed_length.specs.Places.{plus}
use Rattle.ngc_fixed_length.specs.declared.points.Point3.{Point3}
use Rattle.ngc_frames.specs.Frame.{selected_origin}
use Rattle.ngc_frames.specs.declared.frame.Frame.{Frame}
use Rattle.ngc_frames.specs.declared.in_force.FrameInForce.{FrameInForce}
use Rattle.ngc_machine_files.specs.Machine.{MachineFile}
use Rattle.ngc_machine_files.specs.declared.tools.Tool.{Tool}
use Rattle.ngc_origin_warnings.specs.declared.origin.Origin.{Origin}

-- where the coordinates of a frame are zero, in machine coordinates
abbrev pub zero_of : Frame → Point3
zero_of f = plus (selected_origin f) f.frames.axis_offset

abbrev pub place_at : Point3 → Place
place_at p = record { x = p.x; y = p.y; z = p.z }

-- the line that put it there last, 0 if it is where it was at the start
abbrev pub put_by : FrameInForce → ℕ
put_by f = max f.origin_line f.axis_offset_line

-- the lowest end of the tools, from the spindle nose
abbrev pub lowest : List Tool → ℤ
lowest tools = fold (λ (low : ℤ) (t : Tool). int_min low t.bottom) (pos 0) tools

-- how far a coordinate is outside of two limits, not above zero between them
abbrev pub past : ℤ → ℤ → ℤ → ℤ
past low high c = int_max (low -ℤ c) (c -ℤ high)

-- how far a point is beyond the travel, which tools lengthen downwards, along the axis where it is
-- farthest
abbrev pub beyond : MachineFile → ℤ → Point3 → ℤ
beyond m low p =
    int_max (past m.low.x m.high.x p.x)
    (int_max (past m.low.y m.high.y p.y) (past (m.low.z +ℤ low) m.high.z p.z))

abbrev pub is_zero : Point3 → Bool
is_zero p = int_eq p.x (pos 0) && (int_eq p.y (pos 0) && int_eq p.z (pos 0))

-- some origin isn't zero; a machine file without origins has all at zero
abbrev pub has_origins : MachineFile → Bool
has_origins m = not (list_all is_zero m.origins)

-- the machine file has origins, but not the one of this frame
abbrev pub is_forgotten : MachineFile → FrameInForce → Bool
is_forgotten m f =
    (put_by f == 0) && (is_zero (selected_origin f.frame) && has_origins m)

abbrev pub is_feed : Pace → Bool
is_feed paces.Rapid = false
is_feed (paces.Feed feed) = true

-- a line put the origin there, or the machine file lacks it and the motion is a feed
abbrev pub is_suspect : MachineFile → FrameInForce → Pace → Bool
is_suspect m f pace = nat_lt 0 (put_by f) || (is_forgotten m f && is_feed pace)

abbrev pub the_origin : MachineFile → ℤ → FrameInForce → Origin
the_origin m low f =
    record {
      system = f.frame.frames.active;
      at = place_at (zero_of f.frame);
      beyond = beyond m low (zero_of f.frame);
      line = put_by f;
    }

-- the origin from which a motion is made, if it is outside of the travel
abbrev pub outside_origin : MachineFile → ℤ → FrameInForce → Motion → Option Origin
outside_origin m low f motion =
    if int_lt (pos 0) (beyond m low (zero_of f.frame)) && is_suspect m f motion.pace
    then Some (the_origin m low f) else None

-- the same of any action
abbrev pub origin_of : MachineFile → ℤ → FrameInForce → Action → Option Origin
origin_of m low f (Move motion) = outside_origin m low f motion
origin_of m low f _ = None
