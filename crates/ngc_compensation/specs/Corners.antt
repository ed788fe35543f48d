-- Corners of the programmed path (LinuxCNC's documentation, "Cutter Radius Compensation"; the angle
-- of 0.05 rad is LinuxCNC's, its tangent is taken as 60/1199, less than 10^-8 away).
use Rattle.std.specs.Prelude.{◌*◌, nat_le, ℤ, pos, ◌-ℤ◌, int_lt, unsigned_abs, Bool, true}
use Rattle.std.specs.Prelude.{if◌then◌else◌}
use Rattle.ngc_fixed_length.specs.Places.{cross, dot}
use Rattle.ngc_fixed_length.specs.declared.points.Point2.{Point2}
use Rattle.ngc_compensation.specs.declared.corner.Joint.{Joint}
use Rattle.ngc_compensation.specs.declared.corner.Joint.TheVariants.{Straight, Outside, Inside}
use Rattle.ngc_compensation.specs.declared.moves.Motion.{Motion}
use Rattle.ngc_compensation.specs.declared.moves.Motion.TheVariants.{Traverse, Feed, Arc}
use Rattle.ngc_compensation.specs.declared.moves.Side.{Side}
use Rattle.ngc_compensation.specs.declared.moves.Side.TheVariants.{Left, Right}
use Rattle.ngc_compensation.specs.Sides.{is_inside}

-- how far the path turns away from the tool: above 0 at an outside corner
abbrev pub away : Side → ℤ → ℤ
away Left turn = pos 0 -ℤ turn
away Right turn = turn

-- a turn of at most 0.05 rad, or one that is at most so much from half a circle
abbrev pub is_slight : ℤ → ℤ → Bool
is_slight across along = nat_le (1199 * unsigned_abs across) (60 * unsigned_abs along)

-- the corner between two moves, by the directions from its point to the tool at the end of the
-- first and at the beginning of the second. At a sharp reversal it is an outside one, unless an arc
-- with the tool on its outside takes part.
abbrev pub joint_of : ℤ → ℤ → Bool → Joint
joint_of out along wide =
    if is_slight out along
    then (if int_lt (pos 0) along then Straight else (if wide then Outside else Inside))
    else (if int_lt (pos 0) out then Outside else Inside)

abbrev pub joint : Side → Bool → Point2 → Point2 → Joint
joint side wide first second =
    joint_of (away side (cross first second)) (dot first second) wide

-- the arc that decides is the second move, or the first one in front of a straight move
abbrev pub is_wide : Side → Motion → Motion → Bool
is_wide side held (Arc turn centre) = is_inside side turn
is_wide side (Arc turn centre) Traverse = is_inside side turn
is_wide side (Arc turn centre) Feed = is_inside side turn
is_wide side Traverse Traverse = true
is_wide side Traverse Feed = true
is_wide side Feed Traverse = true
is_wide side Feed Feed = true
