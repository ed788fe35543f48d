-- Frames, and which parts of them are the same (NISTIR 6556, 3.2.2: coordinate systems and offsets;
-- the rest is our own).
use Rattle.std.specs.Prelude.{List, [], ◌∷◌, Bool, true, false, ◌&&◌, ◌==◌}
use Rattle.std.specs.Ordering.{int_eq}
use Rattle.ngc_fixed_length.specs.declared.modes.System.{System}
use Rattle.ngc_fixed_length.specs.declared.points.Point3.{Point3}
use Rattle.ngc_fixed_length.specs.declared.units.Units.{Units}
use Rattle.ngc_fixed_length.specs.declared.units.Units.TheVariants.{Millimetres, Inches}
use Rattle.ngc_offsets.specs.Frames.{index, origin_of}
use Rattle.ngc_frames.specs.declared.frame.Frame.{Frame}
use Rattle.ngc_frames.specs.declared.frame.FramePart.{FramePart}
use Rattle.ngc_frames.specs.declared.frame.FramePart.TheVariants as parts

abbrev pub is_same_unit : Units → Units → Bool
is_same_unit Millimetres Millimetres = true
is_same_unit Inches Inches = true
is_same_unit _ _ = false

abbrev pub is_same_point : Point3 → Point3 → Bool
is_same_point p q = int_eq p.x q.x && (int_eq p.y q.y && int_eq p.z q.z)

-- lists of points that are the same in order
abbrev pub are_same_points : List Point3 → List Point3 → Bool
are_same_points [] [] = true
are_same_points [] (q ∷ qs) = false
are_same_points (p ∷ ps) [] = false
are_same_points (p ∷ ps) (q ∷ qs) = is_same_point p q && are_same_points ps qs

abbrev pub system_origin : Frame → System → Point3
system_origin f system = origin_of f.frames system

abbrev pub selected_origin : Frame → Point3
selected_origin f = origin_of f.frames f.frames.active

abbrev pub is_same_part : FramePart → Frame → Frame → Bool
is_same_part parts.Selection a b = index a.frames.active == index b.frames.active
is_same_part (parts.Origin system) a b =
    is_same_point (system_origin a system) (system_origin b system)
is_same_part parts.AxisOffset a b = is_same_point a.frames.axis_offset b.frames.axis_offset
is_same_part parts.ToolLength a b = int_eq a.frames.length b.frames.length
is_same_part parts.Unit a b = is_same_unit a.unit b.unit

-- all parts are the same; the axis offset that G92 saved is not a part until G92.3 restores it
abbrev pub is_same_frame : Frame → Frame → Bool
is_same_frame a b =
    is_same_part parts.Selection a b && (are_same_points a.frames.origins b.frames.origins &&
    (is_same_part parts.AxisOffset a b && (is_same_part parts.ToolLength a b &&
    is_same_part parts.Unit a b)))
