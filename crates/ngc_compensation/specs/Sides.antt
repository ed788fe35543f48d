-- The side of the path on which the tool is (LinuxCNC's documentation, "Cutter Radius
-- Compensation"), and directions. A direction is a vector; its length has no meaning.
use Rattle.std.specs.Prelude.{ℕ, pos, ◌-ℤ◌, unsigned_abs, Bool, true, false}
use Rattle.ngc_fixed_length.specs.Places.{from, dot}
use Rattle.ngc_fixed_length.specs.declared.modes.Turn.{Turn}
use Rattle.ngc_fixed_length.specs.declared.modes.Turn.TheVariants.{Clockwise, Counterclockwise}
use Rattle.ngc_fixed_length.specs.declared.points.Point2.{Point2}
use Rattle.ngc_compensation.specs.declared.moves.Side.{Side}
use Rattle.ngc_compensation.specs.declared.moves.Side.TheVariants.{Left, Right}

abbrev pub opposite : Side → Side
opposite Left = Right
opposite Right = Left

abbrev pub is_same_side : Side → Side → Bool
is_same_side Left Left = true
is_same_side Left Right = false
is_same_side Right Left = false
is_same_side Right Right = true

-- a vector turned to a side by a right angle
abbrev pub turned : Side → Point2 → Point2
turned Left d = record { u = pos 0 -ℤ d.v; v = d.u }
turned Right d = record { u = d.v; v = pos 0 -ℤ d.u }

-- the way whose side, at a right angle to it, has the direction d
abbrev pub ahead : Side → Point2 → Point2
ahead side d = turned (opposite side) d

abbrev pub backward : Point2 → Point2
backward d = record { u = pos 0 -ℤ d.u; v = pos 0 -ℤ d.v }

-- the square of a vector's length
abbrev pub norm : Point2 → ℕ
norm d = unsigned_abs (dot d d)

-- the square of the distance between two points
abbrev pub apart : Point2 → Point2 → ℕ
apart p q = norm (from p q)

-- the side of an arc on which its centre is, and the turn about a point on that side
abbrev pub centre_side : Turn → Side
centre_side Counterclockwise = Left
centre_side Clockwise = Right

abbrev pub turn_about : Side → Turn
turn_about Left = Counterclockwise
turn_about Right = Clockwise

-- the tool is on the arc's inside
abbrev pub is_inside : Side → Turn → Bool
is_inside side turn = is_same_side side (centre_side turn)
