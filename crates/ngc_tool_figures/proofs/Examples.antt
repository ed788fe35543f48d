-- Worked programs, by evaluating the definitions: the figures of each. Lengths are in nanometres.
use Rattle.std.proofs.Common.{◌≡◌, ℕ, ℤ, pos, negsuc, List, [], ◌∷◌, map, false, Some, refl}
use Rattle.std.specs.Fmt.{digits}
use Rattle.std.specs.Prelude.{codes}
use Rattle.ngc_text.specs.Millimetres.{number_text, length_text, mm_text}
use Rattle.ngc_commands.specs.declared.command.Action.{Action}
use Rattle.ngc_commands.specs.declared.command.Action.TheVariants.{Move, Mount, Spindle, End}
use Rattle.ngc_commands.specs.declared.command.Command.{Command}
use Rattle.ngc_commands.specs.declared.command.SpindleState.TheVariants.{Off, Turning}
use Rattle.ngc_commands.specs.declared.movement.Feed.TheVariants.{PerMinute}
use Rattle.ngc_commands.specs.declared.movement.Pace.{Pace}
use Rattle.ngc_commands.specs.declared.movement.Pace.TheVariants.{Rapid, Feed}
use Rattle.ngc_commands.specs.declared.movement.Way.{Way}
use Rattle.ngc_commands.specs.declared.movement.Way.TheVariants.{Line}
use Rattle.ngc_fixed_length.specs.declared.modes.Turn.TheVariants.{Clockwise, Counterclockwise}
use Rattle.ngc_fixed_length.specs.declared.points.Point3.{Point3}
use Rattle.ngc_machine_files.specs.declared.tools.Tool.{Tool}
use Rattle.ngc_report.specs.declared.form.Form.TheVariants.{Words}
use Rattle.ngc_tool_figures.specs.Texts.{figures_text}

abbrev point : ℤ → ℤ → ℤ → Point3
point x y z = record { x = x; y = y; z = z }

abbrev move : Pace → Way → Action
move pace way = Move (record { way = way; pace = pace; stop = false })

abbrev tool : ℕ → Tool
tool number = record { number = number; offset = pos 0; bottom = pos 0; parts = []; name = [] }

abbrev command : Action → Command
command action = record { line = 1; action = action }

-- F12000 among F600 and F1200; tool 1 goes straight down by 2 mm and then aside
abbrev two_tools : List Action
two_tools =
    Mount (Some (tool 1)) ∷
    Spindle (Turning Clockwise 3000000000) ∷
    move Rapid (Line (point (pos 0) (pos 0) (pos 0)) (point (pos 10000000) (pos 0) (pos 0))) ∷
    move Rapid (Line (point (pos 10000000) (pos 0) (pos 0)) (point (pos 10000000) (pos 0) (negsuc 4999999))) ∷
    move (Feed (PerMinute 600000000)) (Line (point (pos 10000000) (pos 0) (negsuc 4999999)) (point (pos 10000000) (pos 0) (negsuc 6999999))) ∷
    move (Feed (PerMinute 1200000000)) (Line (point (pos 10000000) (pos 0) (negsuc 6999999)) (point (pos 20000000) (pos 0) (negsuc 6999999))) ∷
    move (Feed (PerMinute 12000000000)) (Line (point (pos 20000000) (pos 0) (negsuc 6999999)) (point (pos 10000000) (pos 0) (negsuc 6999999))) ∷
    move Rapid (Line (point (pos 10000000) (pos 0) (negsuc 6999999)) (point (pos 10000000) (pos 0) (pos 0))) ∷
    Spindle Off ∷
    Mount (Some (tool 2)) ∷
    Spindle (Turning Counterclockwise 800000000) ∷
    move Rapid (Line (point (pos 10000000) (pos 0) (pos 0)) (point (pos 10000000) (pos 0) (negsuc 3999999))) ∷
    move (Feed (PerMinute 900000000)) (Line (point (pos 10000000) (pos 0) (negsuc 3999999)) (point (pos 30000000) (pos 0) (negsuc 3999999))) ∷
    move Rapid (Line (point (pos 30000000) (pos 0) (negsuc 3999999)) (point (pos 30000000) (pos 0) (pos 0))) ∷
    End ∷ []

two_tools_text : figures_text Words 1000 (tool 1 ∷ tool 2 ∷ []) (map command two_tools) (1 ∷ 4403 ∷ 2802 ∷ []) ≡ codes "Figures of tool 1: feeds 600 to 12000 mm/min, spindle clockwise 3000 rpm, greatest plunge 2 mm, holes 0, time 0:00:04.403.\nFigures of tool 2: feeds 900 mm/min, spindle counterclockwise 800 rpm, greatest plunge 0 mm, holes 0, time 0:00:02.802.\n"
unfolding digits number_text length_text mm_text
two_tools_text = refl

-- Tool 1: one hole, which the tool change ends. Tool 2: down and up, down and aside, down, up and
-- deeper, the same and aside, a traverse, and down and up at the end
abbrev dives : List Action
dives =
    Mount (Some (tool 1)) ∷
    Spindle (Turning Clockwise 1000000000) ∷
    move (Feed (PerMinute 600000000)) (Line (point (pos 0) (pos 0) (pos 0)) (point (pos 0) (pos 0) (negsuc 1999999))) ∷
    move Rapid (Line (point (pos 0) (pos 0) (negsuc 1999999)) (point (pos 0) (pos 0) (negsuc 999999))) ∷
    Mount (Some (tool 2)) ∷
    Spindle (Turning Clockwise 1000000000) ∷
    move Rapid (Line (point (pos 0) (pos 0) (negsuc 999999)) (point (pos 10000000) (pos 0) (negsuc 999999))) ∷
    move (Feed (PerMinute 600000000)) (Line (point (pos 10000000) (pos 0) (negsuc 999999)) (point (pos 10000000) (pos 0) (negsuc 2999999))) ∷
    move Rapid (Line (point (pos 10000000) (pos 0) (negsuc 2999999)) (point (pos 10000000) (pos 0) (negsuc 999999))) ∷
    move Rapid (Line (point (pos 10000000) (pos 0) (negsuc 999999)) (point (pos 20000000) (pos 0) (negsuc 999999))) ∷
    move (Feed (PerMinute 600000000)) (Line (point (pos 20000000) (pos 0) (negsuc 999999)) (point (pos 20000000) (pos 0) (negsuc 2999999))) ∷
    move (Feed (PerMinute 600000000)) (Line (point (pos 20000000) (pos 0) (negsuc 2999999)) (point (pos 25000000) (pos 0) (negsuc 2999999))) ∷
    move Rapid (Line (point (pos 25000000) (pos 0) (negsuc 2999999)) (point (pos 25000000) (pos 0) (negsuc 999999))) ∷
    move Rapid (Line (point (pos 25000000) (pos 0) (negsuc 999999)) (point (pos 30000000) (pos 0) (negsuc 999999))) ∷
    move (Feed (PerMinute 600000000)) (Line (point (pos 30000000) (pos 0) (negsuc 999999)) (point (pos 30000000) (pos 0) (negsuc 2999999))) ∷
    move Rapid (Line (point (pos 30000000) (pos 0) (negsuc 2999999)) (point (pos 30000000) (pos 0) (negsuc 999999))) ∷
    move (Feed (PerMinute 600000000)) (Line (point (pos 30000000) (pos 0) (negsuc 999999)) (point (pos 30000000) (pos 0) (negsuc 3999999))) ∷
    move Rapid (Line (point (pos 30000000) (pos 0) (negsuc 3999999)) (point (pos 30000000) (pos 0) (negsuc 999999))) ∷
    move Rapid (Line (point (pos 30000000) (pos 0) (negsuc 999999)) (point (pos 40000000) (pos 0) (negsuc 999999))) ∷
    move (Feed (PerMinute 600000000)) (Line (point (pos 40000000) (pos 0) (negsuc 999999)) (point (pos 40000000) (pos 0) (negsuc 2999999))) ∷
    move Rapid (Line (point (pos 40000000) (pos 0) (negsuc 2999999)) (point (pos 40000000) (pos 0) (negsuc 999999))) ∷
    move (Feed (PerMinute 600000000)) (Line (point (pos 40000000) (pos 0) (negsuc 999999)) (point (pos 40000000) (pos 0) (negsuc 3999999))) ∷
    move (Feed (PerMinute 600000000)) (Line (point (pos 40000000) (pos 0) (negsuc 3999999)) (point (pos 45000000) (pos 0) (negsuc 3999999))) ∷
    move Rapid (Line (point (pos 45000000) (pos 0) (negsuc 3999999)) (point (pos 45000000) (pos 0) (negsuc 999999))) ∷
    move Rapid (Line (point (pos 45000000) (pos 0) (negsuc 999999)) (point (pos 50000000) (pos 0) (negsuc 999999))) ∷
    move Rapid (Line (point (pos 50000000) (pos 0) (negsuc 999999)) (point (pos 50000000) (pos 0) (negsuc 4999999))) ∷
    move Rapid (Line (point (pos 50000000) (pos 0) (negsuc 4999999)) (point (pos 50000000) (pos 0) (negsuc 999999))) ∷
    move Rapid (Line (point (pos 50000000) (pos 0) (negsuc 999999)) (point (pos 60000000) (pos 0) (negsuc 999999))) ∷
    move (Feed (PerMinute 600000000)) (Line (point (pos 60000000) (pos 0) (negsuc 999999)) (point (pos 60000000) (pos 0) (negsuc 2999999))) ∷
    move Rapid (Line (point (pos 60000000) (pos 0) (negsuc 2999999)) (point (pos 60000000) (pos 0) (negsuc 999999))) ∷
    End ∷ []

dives_text : figures_text Words 1000 (tool 1 ∷ tool 2 ∷ []) (map command dives) (1 ∷ 302 ∷ 10002 ∷ []) ≡ codes "Figures of tool 1: feeds 600 mm/min, spindle clockwise 1000 rpm, greatest plunge 2 mm, holes 1, time 0:00:00.302.\nFigures of tool 2: feeds 600 mm/min, spindle clockwise 1000 rpm, greatest plunge 3 mm, holes 3, time 0:00:10.002.\n"
unfolding digits number_text length_text mm_text
dives_text = refl
