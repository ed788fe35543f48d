-- How commands move the axes (NISTIR 6556, 3.5.1 to 3.5.3).
use Rattle.std.specs.Prelude.{ℕ, ◌+◌, List, [], ◌∷◌, map, ◌≡◌}
use Rattle.ngc_fixed_length.specs.declared.points.Point3.{Point3}
use Rattle.ngc_commands.specs.declared.command.Action.{Action}
use Rattle.ngc_commands.specs.declared.command.Action.TheVariants.{Move}
use Rattle.ngc_commands.specs.declared.command.Command.{Command}
use Rattle.ngc_commands.specs.declared.movement.Way.{Way}
use Rattle.ngc_commands.specs.declared.movement.Way.TheVariants.{Line, Arc}

abbrev pub start_of : Way → Point3
start_of (Line start end) = start
start_of (Arc arc) = arc.start

abbrev pub end_of : Way → Point3
end_of (Line start end) = end
end_of (Arc arc) = arc.end

abbrev pub actions_of : List Command → List Action
actions_of commands = map (λ (c : Command). c.action) commands

abbrev pub ways_of : List Action → List Way
ways_of [] = []
ways_of (Move m ∷ rest) = m.way ∷ ways_of rest
ways_of (_ ∷ rest) = ways_of rest

-- the indices of the motions, where the list begins at index i
abbrev pub motion_indices : ℕ → List Action → List ℕ
motion_indices i [] = []
motion_indices i (Move m ∷ rest) = i ∷ motion_indices (i + 1) rest
motion_indices i (_ ∷ rest) = motion_indices (i + 1) rest

-- each path begins at the end of the one before it, the first at p
abbrev pub AreJoined : Point3 → List Way → Type 0
AreJoined p [] = Unit {0}
AreJoined p (w ∷ ws) = (start_of w ≡ p) × AreJoined (end_of w) ws
