-- Whether a move still goes in its own direction. Our own, as LinuxCNC, and stricter with arcs.
use Rattle.std.specs.Prelude.{◌-ℤ◌, ℤ, pos, int_lt, int_le, Bool, true, not}
use Rattle.std.specs.Prelude.{◌&&◌, ◌||◌, if◌then◌else◌}
use Rattle.ngc_fixed_length.specs.Places.{from, cross, dot}
use Rattle.ngc_fixed_length.specs.Signed.{is_zero, is_within}
use Rattle.ngc_fixed_length.specs.declared.modes.Turn.{Turn}
use Rattle.ngc_fixed_length.specs.declared.modes.Turn.TheVariants.{Clockwise, Counterclockwise}
use Rattle.ngc_fixed_length.specs.declared.points.Point2.{Point2}
use Rattle.ngc_compensation.specs.declared.moves.Side.{Side}
use Rattle.ngc_compensation.specs.Sides.{ahead}

-- twice the area that two vectors from an arc's centre span, above 0 in its direction
abbrev pub turning : Turn → Point2 → Point2 → ℤ
turning Counterclockwise p q = cross p q
turning Clockwise p q = cross q p

-- q is ahead of p by at most half a turn
abbrev pub is_ahead : Turn → Point2 → Point2 → Bool
is_ahead turn p q = int_le (pos 0) (turning turn p q)

abbrev pub is_same_direction : Point2 → Point2 → Bool
is_same_direction p q = is_zero (cross p q) && int_lt (pos 0) (dot p q)

-- p is in the sector from a to b, both included; the sector from a direction to the same one is
-- the whole plane
abbrev pub is_between : Turn → Point2 → Point2 → Point2 → Bool
is_between turn a b p =
    if is_same_direction a b then true
    else (if is_ahead turn a b then is_ahead turn a p && is_ahead turn p b
    else is_ahead turn a p || is_ahead turn p b)

-- a straight move from start to end goes in the direction of its way, whose side has the direction
-- normal
abbrev pub runs_on : Side → Point2 → Point2 → Point2 → Bool
runs_on side normal start end = int_lt (pos 0) (dot (from start end) (ahead side normal))

-- an arc's new end, from its centre: on the way from its start to its end, and beyond the start
abbrev pub keeps_start : Turn → Point2 → Point2 → Point2 → Bool
keeps_start turn start end new = is_between turn start end new && not (is_same_direction start new)

-- an arc's new start, in the same way
abbrev pub keeps_end : Turn → Point2 → Point2 → Point2 → Bool
keeps_end turn start end new = is_between turn start end new && not (is_same_direction new end)

-- an arc from a to b is less than a quarter of a circle
abbrev pub is_short : Turn → Point2 → Point2 → Bool
is_short turn a b = int_lt (pos 0) (turning turn a b) && int_lt (pos 0) (dot a b)

-- such an arc is one of less than half a circle beside its path, from p to q
abbrev pub stays_short : Turn → Point2 → Point2 → Point2 → Point2 → Bool
stays_short turn a b p q =
    not (is_short turn a b) || int_lt (pos 0) (turning turn p q)

-- less than 20 nm apart
abbrev pub is_close_by : ℤ → ℤ → Bool
is_close_by x y = is_within 19 (x -ℤ y)

-- on each axis
abbrev pub is_close : Point2 → Point2 → Bool
is_close p q = is_close_by p.u q.u && is_close_by p.v q.v
