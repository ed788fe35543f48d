-- Paths on which each motion starts in the heading in which the one before it ended. Our own.
use Rattle.std.specs.Prelude.{◌≡◌, ◌⊎◌, ℕ, ◌≤◌, Some, None, List, [], ◌∷◌}
use Rattle.ngc_fixed_length.specs.declared.points.Point3.{Point3}
use Rattle.ngc_machine_files.specs.Machine.{MachineFile}
use Rattle.ngc_machine_files.specs.MachineRanges.{IsMachine}
use Rattle.ngc_commands.specs.declared.command.Action.TheVariants.{Move}
use Rattle.ngc_commands.specs.declared.command.Command.{Command}
use Rattle.ngc_commands.specs.declared.movement.Motion.{Motion}
use Rattle.ngc_commands.specs.declared.movement.Way.{Way}
use Rattle.ngc_planner.specs.Bounds.{MayTurnOn}
use Rattle.ngc_planner.specs.Headings.{start_heading, end_heading}
use Rattle.ngc_planner.specs.Joints.{joint_by_window}
use Rattle.ngc_planner.specs.Window.{passing_heading}

-- a path from heading d to heading e; on an arc its turn allows the rate v
pub record LeadsTo (machine : MachineFile) (v : ℕ) (d e : Point3) (w : Way) : Type 0 where
  pub starts : start_heading w ≡ Some d
  pub ends : end_heading w ≡ Some e
  pub turns : MayTurnOn machine w v

-- commands, nearest first, on which such paths lead to heading e, each into the next one; those
-- after the end of a window don't count
abbrev pub LeadSmoothlyTo : MachineFile → ℕ → Point3 → List Command → Type 0
LeadSmoothlyTo machine v e [] = Unit {0}
LeadSmoothlyTo machine v e (c ∷ cs) = (passing_heading machine c.action ≡ None) ⊎
    ((m : Motion) × (d : Point3) × (c.action ≡ Move m) × LeadsTo machine v d e m.way ×
    LeadSmoothlyTo machine v d cs)

-- where they do, the joint allows each rate that the machine and the arcs' turns allow
abbrev pub IsFreeWhereSmooth : Type 0
IsFreeWhereSmooth =
    (machine : MachineFile) (before : List Command) (w x : Way) (d e : Point3) (v : ℕ) →
    IsMachine machine → v ≤ machine.max_rate → LeadsTo machine v d e w →
    LeadSmoothlyTo machine v d before → start_heading x ≡ Some e →
    v ≤ joint_by_window machine w before (Some e) (Some e)
