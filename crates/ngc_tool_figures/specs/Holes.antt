-- The holes that a tool drills. Our own.
use Rattle.std.specs.Prelude.{ℕ, ◌+◌, List, [], ◌∷◌, Option, is_some, if◌then◌else◌}
use Rattle.ngc_commands.specs.declared.command.Action.{Action}
use Rattle.ngc_commands.specs.declared.command.Action.TheVariants.{Move, Mount}
use Rattle.ngc_commands.specs.declared.command.Command.{Command}
use Rattle.ngc_tool_figures.specs.Dives.{fall}
use Rattle.ngc_tool_figures.specs.Moments.{beginning, hole_count, next}
use Rattle.ngc_tool_figures.specs.declared.moment.Moment.{Moment}

-- A dive is a hole if the axes have moved up again before they move aside, the tool is changed or
-- the program ends. These are the holes that an action ends.
abbrev pub holes_ended : Moment → Action → ℕ
holes_ended m (Move motion) = if is_some (fall motion.way) then 0 else hole_count m
holes_ended m (Mount tool) = hole_count m
holes_ended m _ = 0

abbrev pub holes_from : Option ℕ → Moment → List Command → ℕ
holes_from number m [] = hole_count m
holes_from number m (c ∷ cs) =
    holes_ended m c.action + holes_from number (next number m c.action) cs

abbrev pub holes_of : Option ℕ → List Command → ℕ
holes_of number commands = holes_from number (beginning number) commands
