-- The rest of a check on the walk through a setting's commands, motion by motion. Our own.
use Rattle.std.specs.Prelude.{ℕ, ◌-◌, List, map, drop, Option, Some, None, option_map}
use Rattle.ngc_machine_files.specs.Machine.{MachineFile}
use Rattle.ngc_commands.specs.Movement.{actions_of, motion_indices}
use Rattle.ngc_commands.specs.declared.command.Action.{Action}
use Rattle.ngc_commands.specs.declared.command.Command.{Command}
use Rattle.ngc_certificate_text.specs.declared.piece.Piece.{Piece}
use Rattle.ngc_certificate_text.specs.declared.piece.Setting.{Setting}
use Rattle.ngc_certificate_text.specs.Certificate.{Entry}
use Rattle.ngc_certificate.specs.PieceFault.{◌or◌}
use Rattle.ngc_certificate.specs.PieceJudging.{fault_ahead}
use Rattle.ngc_certificate.specs.declared.pieces.PieceJudge.{PieceJudge}
use Rattle.ngc_checker.specs.declared.command_walk.CommandWalk.{CommandWalk}
use Rattle.ngc_checker.specs.declared.command_walk.NextMotion.{NextMotion}
use Rattle.ngc_checker.specs.declared.fault.CheckFault.{CheckFault}
use Rattle.ngc_checker.specs.declared.fault.CheckFault.TheVariants as faults
use Rattle.ngc_checker.specs.declared.setting_judge.SettingJudge.{SettingJudge}
use Rattle.ngc_checker.specs.FirstRefusal.{first_difference, start_fault, at_command, motion_fault}
use Rattle.ngc_checker.specs.FirstRefusal.{commands_fault}

-- the first refusal of the commands so far and of those from k on
abbrev pub walk_from : MachineFile → Setting → ℕ → CommandWalk → List Action → List Entry →
    Option CheckFault
walk_from machine s k w actions entries =
    w.refusal or commands_fault machine s k w.tool w.place actions entries

-- of those so far, of a motion's pieces, and of those after it
abbrev pub with_motion : MachineFile → Setting → CommandWalk → NextMotion → List Action → Entry →
    List Entry → Option CheckFault
with_motion machine s w m actions entry entries =
    w.refusal or (motion_fault machine s m.index w.tool m.motion entry.pieces
    or commands_fault machine s w.index w.tool w.place actions entries)

-- of the remaining pieces of the motion that has begun, if they are judged
abbrev pub pieces_left : MachineFile → Setting → ℕ → Option PieceJudge → List Piece →
    Option CheckFault
pieces_left machine s k None pieces = None
pieces_left machine s k (Some j) pieces = option_map (at_command s k) (fault_ahead machine j pieces)

abbrev pub commands_ahead : List Command → CommandWalk → List Action
commands_ahead commands w = actions_of (drop w.index commands)

-- the first refusal of a setting, if these pieces and motions remain
abbrev pub fault_left : MachineFile → Setting → List Command → SettingJudge → List Piece →
    List Entry → Option CheckFault
fault_left machine s commands j pieces entries =
    option_map (faults.MotionsDiffer s)
    (j.differs or first_difference
    (motion_indices j.walk.index (commands_ahead commands j.walk))
    (map (λ entry. entry.index) entries))
    or start_fault machine or
    (j.walk.refusal or (pieces_left machine s (j.walk.index - 1) j.following pieces
    or commands_fault machine s j.walk.index j.walk.tool j.walk.place
    (commands_ahead commands j.walk) entries))
