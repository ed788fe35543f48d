-- The lengths of straight paths, in nanometres. Our own.
use Rattle.std.specs.Prelude.{ℕ, ◌+◌, ◌*◌, ℤ, ◌-ℤ◌, unsigned_abs}
use Rattle.ngc_fixed_length.specs.Roots.{whole_root}
use Rattle.ngc_fixed_length.specs.declared.points.Point3.{Point3}
use Rattle.ngc_commands.specs.declared.command.Action.{Action}
use Rattle.ngc_commands.specs.declared.command.Action.TheVariants.{Move}
use Rattle.ngc_commands.specs.declared.command.Command.{Command}
use Rattle.ngc_commands.specs.declared.movement.Way.{Way}
use Rattle.ngc_commands.specs.declared.movement.Way.TheVariants.{Line, Arc}

abbrev pub square_between : ℤ → ℤ → ℕ
square_between from to = unsigned_abs (to -ℤ from) * unsigned_abs (to -ℤ from)

-- the length of a line: the greatest whole number whose square is at most the sum of the squares
-- along the axes
abbrev pub line_length : Point3 → Point3 → ℕ
line_length start end = whole_root
    (square_between start.x end.x + square_between start.y end.y + square_between start.z end.z)

-- the length of an arc isn't counted: it is no root of a whole number
abbrev pub straight_length : Way → ℕ
straight_length (Line start end) = line_length start end
straight_length (Arc arc) = 0

abbrev pub action_length : Action → ℕ
action_length (Move m) = straight_length m.way
action_length _ = 0

abbrev pub length_of : Command → ℕ
length_of c = action_length c.action
