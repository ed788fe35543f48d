-- Traverses on a machine whose control may take any way within the box of their ends. Our own.
use Rattle.std.specs.Prelude.{◌≡◌, ℕ, ◌≤◌, List, [], ◌∷◌, length, Bool, true, false}
use Rattle.std.specs.Prelude.{Option, ℤ, IsTrue, ◌&&◌, if◌then◌else◌}
use Rattle.std.specs.List.{list_all}
use Rattle.ngc_fixed_length.specs.Boxes.{box_of}
use Rattle.ngc_fixed_length.specs.Grid.{grid}
use Rattle.ngc_fixed_length.specs.declared.points.GridBox.{GridBox}
use Rattle.ngc_fixed_length.specs.declared.points.Point3.{Point3}
use Rattle.ngc_machine_files.specs.Machine.{MachineFile}
use Rattle.ngc_machine_files.specs.declared.machine.Rapids.{Rapids}
use Rattle.ngc_machine_files.specs.declared.machine.Rapids.TheVariants.{Straight, Free}
use Rattle.ngc_machine_files.specs.declared.tools.Tool.{Tool}
use Rattle.ngc_commands.specs.declared.command.Action.{Action}
use Rattle.ngc_commands.specs.declared.command.Action.TheVariants.{Move, Mount}
use Rattle.ngc_commands.specs.declared.movement.Pace.{Pace}
use Rattle.ngc_commands.specs.declared.movement.Pace.TheVariants.{Rapid, Feed}
use Rattle.ngc_commands.specs.declared.movement.Way.{Way}
use Rattle.ngc_commands.specs.declared.movement.Way.TheVariants.{Line, Arc}
use Rattle.ngc_collision.specs.Body.{are_apart, bodies, is_below, nanometres_of}
use Rattle.ngc_certificate_text.specs.Certificate.{Entry}

abbrev pub are_free : Rapids → Bool
are_free Straight = false
are_free Free = true

-- the control may take any way to the end of a motion with this pace
abbrev pub takes_any_way : MachineFile → Pace → Bool
takes_any_way machine Rapid = are_free machine.rapids
takes_any_way machine (Feed f) = false

-- the most pieces of a motion: one if the control may take any way, since one box holds all ways
abbrev pub most_pieces : MachineFile → ℕ → Pace → ℕ
most_pieces machine most pace = if takes_any_way machine pace then 1 else most

-- each motion to whose end the control may take any way has one piece
abbrev pub AreWhole : MachineFile → List Action → List Entry → Type 0
AreWhole machine [] entries = Unit {0}
AreWhole machine (Move m ∷ actions) [] = Unit {0}
AreWhole machine (Move m ∷ actions) (entry ∷ entries) =
    (takes_any_way machine m.pace ≡ true → length entry.pieces ≤ 1)
    × AreWhole machine actions entries
AreWhole machine (_ ∷ actions) entries = AreWhole machine actions entries

-- With the spindle nose at a point in nanometres, on the grid or not, the machine is within its
-- travel limits, and the tool's body clears every fixture.
pub record IsSafePoint (machine : MachineFile) (tool : Option Tool) (q : Point3) : Type 0 where
  pub inside : IsTrue (is_below machine.low q && is_below q machine.high)
  pub clear : IsTrue (list_all
      (λ f. list_all (are_apart f) (bodies tool (record { low = q; high = q }))) machine.fixtures)

-- a point lies in the box that grid points span
abbrev pub lies_in : ℤ → GridBox → Point3 → Bool
lies_in step b q = is_below (nanometres_of step b.low) q && is_below q (nanometres_of step b.high)

-- each point in the box of a line's ends is safe for the tool
abbrev pub IsSafeEachWay : MachineFile → Option Tool → Way → Type 0
IsSafeEachWay machine tool (Line b e) = (q : Point3) →
    IsTrue (lies_in machine.step (box_of (grid machine.step b) (grid machine.step e)) q) →
    IsSafePoint machine tool q
IsSafeEachWay machine tool (Arc a) = Unit {0}

-- the same for each traverse to whose end the control may take any way, with the tool mounted then
abbrev pub AreSafeEachWay : MachineFile → Option Tool → List Action → Type 0
AreSafeEachWay machine tool [] = Unit {0}
AreSafeEachWay machine tool (Mount new ∷ actions) = AreSafeEachWay machine new actions
AreSafeEachWay machine tool (Move m ∷ actions) =
    (takes_any_way machine m.pace ≡ true → IsSafeEachWay machine tool m.way)
    × AreSafeEachWay machine tool actions
AreSafeEachWay machine tool (_ ∷ actions) = AreSafeEachWay machine tool actions
