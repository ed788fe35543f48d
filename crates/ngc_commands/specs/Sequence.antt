-- Properties of the commands of every program. Our own.
use Rattle.std.specs.Prelude.{◌≡◌, ℕ, List, [], ◌∷◌, ◌++◌}
use Rattle.ngc_arc_geometry.specs.Radii.{HasEvenRadii}
use Rattle.ngc_commands.specs.declared.command.Action.{Action}
use Rattle.ngc_commands.specs.declared.command.Action.TheVariants.{End}
use Rattle.ngc_commands.specs.declared.command.Command.{Command}
use Rattle.ngc_commands.specs.declared.movement.Way.{Way}
use Rattle.ngc_commands.specs.declared.movement.Way.TheVariants.{Line, Arc}

-- a program has at most a million commands
abbrev pub COMMAND_LIMIT : ℕ
COMMAND_LIMIT = 1000000

-- an arc's radius is above 0, at most a little over two metres, and the same at both ends to within
-- a few micrometres
abbrev pub IsEvenIfArc : Way → Type 0
IsEvenIfArc (Line start end) = Unit {0}
IsEvenIfArc (Arc arc) = HasEvenRadii arc

abbrev pub HaveEvenRadii : List Way → Type 0
HaveEvenRadii [] = Unit {0}
HaveEvenRadii (w ∷ ws) = IsEvenIfArc w × HaveEvenRadii ws

-- nothing comes after the end
abbrev pub IsLastIfEnd : Action → List Command → Type 0
IsLastIfEnd End later = later ≡ []
IsLastIfEnd _ later = Unit {0}

abbrev pub EndIsLast : List Command → Type 0
EndIsLast [] = Unit {0}
EndIsLast (c ∷ cs) = IsLastIfEnd c.action cs × EndIsLast cs

-- the last command is the end
pub record HasEnd (commands : List Command) : Type 0 where
  pub before : List Command
  pub last : Command
  pub are : commands ≡ before ++ last ∷ []
  pub is_end : last.action ≡ End
