-- Which commands of a program move with its origin, found by executing it with the origin shifted.
-- Our own.
use Rattle.std.specs.Prelude.{◌≡◌, ℤ, List, Bool, length}
use Rattle.ngc_fixed_length.specs.declared.points.StepPos.{StepPos}
use Rattle.ngc_commands.specs.declared.command.Command.{Command}
use Rattle.ngc_place.specs.Shifts.{AreShifted}

-- a mark for each command; under these marks the other commands are those of the program with the
-- origin shifted
pub record AreMarks (step : ℤ) (n : StepPos) (commands others : List Command) (marks : List Bool) :
    Type 0 where
  pub each : length marks ≡ length commands
  pub shifted : AreShifted step n marks commands others
