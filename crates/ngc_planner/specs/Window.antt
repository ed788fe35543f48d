-- The headings that were passed before a joint. Our own.
use Rattle.std.specs.Prelude.{ℕ, ◌+◌, ◌-◌, ◌*◌, ◌==◌, min, max, unsigned_abs, Option, Some, None, Bool, false, ◌||◌}
use Rattle.std.specs.Prelude.{List, [], ◌∷◌, take, reverse, if◌then◌else◌}
use Rattle.std.specs.Int.{div_ceil}
use Rattle.ngc_fixed_length.specs.Grid.{grid, greatest_distance}
use Rattle.ngc_fixed_length.specs.Limits.{MILLION}
use Rattle.ngc_fixed_length.specs.declared.points.Point3.{Point3}
use Rattle.ngc_arc_geometry.specs.Radii.{inner_radius}
use Rattle.ngc_arc_geometry.specs.Shape.{ArcShape}
use Rattle.ngc_machine_files.specs.Machine.{MachineFile}
use Rattle.ngc_commands.specs.declared.command.Action.{Action}
use Rattle.ngc_commands.specs.declared.command.Action.TheVariants.{Move}
use Rattle.ngc_commands.specs.declared.command.Command.{Command}
use Rattle.ngc_commands.specs.declared.movement.Way.{Way}
use Rattle.ngc_commands.specs.declared.movement.Way.TheVariants.{Line, Arc}
use Rattle.ngc_planner.specs.Headings.{end_heading, turned_on}
use Rattle.ngc_planner.specs.Turns.{arc_turn}

-- the greatest number of motions in a window: as many as the ring has, and at least 32
abbrev pub window_length : MachineFile → ℕ
window_length machine = max 32 machine.ring

-- a heading that was passed, and the millionths of a path step since
pub record Passed : Type 0 where
  pub heading : Point3
  pub way : ℕ

-- the path steps of a line; an arc between the same points has no fewer
abbrev pub line_steps : MachineFile → Point3 → Point3 → ℕ
line_steps machine b e = greatest_distance (grid machine.step b) (grid machine.step e)

-- the distance over which an arc's turn allows n millionths at the machine's greatest rate, in
-- millionths of a path step, rounded up
abbrev pub way_at_greatest : MachineFile → ArcShape → ℕ → ℕ
way_at_greatest machine a n =
    div_ceil (n * (machine.max_rate * machine.max_rate)) (arc_turn machine a)

-- the same at the greatest rate that the turn allows on the arc: n millionths of the radius
abbrev pub way_round : MachineFile → ArcShape → ℕ → ℕ
way_round machine a n =
    div_ceil (n * max (inner_radius a) (unsigned_abs machine.step)) (unsigned_abs machine.step)

-- the distance that an arc's own turn needs
abbrev pub turn_way : MachineFile → ArcShape → ℕ
turn_way machine a =
    min (way_round machine a (turned_on a)) (way_at_greatest machine a (turned_on a))

-- the distance that a motion counts, in millionths of a path step: its path steps, or on an arc what
-- its turn needs, if that is more
abbrev pub way_of : MachineFile → Way → ℕ
way_of machine (Line b e) = line_steps machine b e * MILLION
way_of machine (Arc a) = max (line_steps machine a.start a.end * MILLION) (turn_way machine a)

-- a line without path steps
abbrev pub is_still : MachineFile → Way → Bool
is_still machine (Line b e) = line_steps machine b e == 0
is_still machine (Arc a) = false

-- the heading at the end of a motion that passes it: a motion with path steps that does not stop
-- there
abbrev pub passing_heading : MachineFile → Action → Option Point3
passing_heading machine (Move m) =
    if m.stop || is_still machine m.way then None else end_heading m.way
passing_heading machine _ = None

abbrev pub way_on : MachineFile → Action → ℕ
way_on machine (Move m) = way_of machine m.way
way_on machine _ = 0

abbrev pub passed_with : Option Point3 → ℕ → List Passed → List Passed
passed_with (Some d) way afterwards = record { heading = d; way = way } ∷ afterwards
passed_with None way afterwards = []

-- the headings that were passed on commands, nearest first; the first one ended this distance ago.
-- They end before a command without a heading to pass
abbrev pub passed_on : MachineFile → ℕ → List Command → List Passed
passed_on machine way [] = []
passed_on machine way (c ∷ cs) =
    passed_with (passing_heading machine c.action) way
    (passed_on machine (way + way_on machine c.action) cs)

-- the window of a joint at the end of a path with heading d, after these commands, nearest first
abbrev pub window : MachineFile → Point3 → Way → List Command → List Passed
window machine d w earlier =
    record { heading = d; way = 0 } ∷ passed_on machine (way_of machine w) earlier

-- the commands before command k that its window may include, nearest first
abbrev pub earlier : MachineFile → List Command → ℕ → List Command
earlier machine commands k = take (window_length machine - 1) (reverse (take k commands))
