-- The first refusal of a certificate, in the checker's order. Our own.
use Rattle.std.specs.Prelude.{ℕ, ◌+◌, ◌==◌, min, List, [], ◌∷◌, map, Option, Some, None, option_map}
use Rattle.std.specs.Prelude.{Result, Ok, Err, Bool, true, false, ◌&&◌, if◌then◌else◌}
use Rattle.ngc_fixed_length.specs.Grid.{grid}
use Rattle.ngc_fixed_length.specs.declared.points.Point3.{Point3}
use Rattle.ngc_commands.specs.declared.command.Command.{Command}
use Rattle.ngc_canonical.specs.declared.fault.ProgramFault.{ProgramFault}
use Rattle.ngc_machine_files.specs.declared.tools.Tool.{Tool}
use Rattle.ngc_machine_files.specs.Machine.{MachineFile}
use Rattle.ngc_canonical.specs.Meaning.{Program, meaning}
use Rattle.ngc_canonical.specs.State.{Setup}
use Rattle.ngc_commands.specs.Movement.{actions_of, motion_indices, end_of}
use Rattle.ngc_commands.specs.declared.command.Action.{Action}
use Rattle.ngc_commands.specs.declared.command.Action.TheVariants.{Move, Mount}
use Rattle.ngc_commands.specs.declared.movement.Motion.{Motion}
use Rattle.ngc_certificate_text.specs.declared.piece.Piece.{Piece}
use Rattle.ngc_certificate_text.specs.declared.piece.Setting.{Setting}
use Rattle.ngc_certificate_text.specs.declared.piece.Setting.TheVariants.{Off, On}
use Rattle.ngc_certificate_text.specs.Certificate.{Entry, CertificateData}
use Rattle.ngc_certificate.specs.declared.fault.PieceRefusal.{PieceRefusal}
use Rattle.ngc_certificate.specs.Chain.{are_several}
use Rattle.ngc_certificate.specs.PieceFault.{pieces_fault, place_fault, ◌or◌}
use Rattle.ngc_certificate.specs.Traverses.{takes_any_way}
use Rattle.ngc_job.specs.Job.{JobData, commands_in}
use Rattle.ngc_checker.specs.declared.fault.CheckFault.{CheckFault}
use Rattle.ngc_checker.specs.declared.fault.CheckFault.TheVariants as faults

-- the first index at which two lists differ, the lesser one if both have one
abbrev pub first_difference : List ℕ → List ℕ → Option ℕ
first_difference [] [] = None
first_difference (i ∷ is) [] = Some i
first_difference [] (j ∷ js) = Some j
first_difference (i ∷ is) (j ∷ js) = if i == j then first_difference is js else Some (min i j)

abbrev pub motions_fault : Setting → List Action → List Entry → Option CheckFault
motions_fault s actions entries = option_map (faults.MotionsDiffer s)
    (first_difference (motion_indices 0 actions) (map (λ entry. entry.index) entries))

abbrev pub start_fault : MachineFile → Option CheckFault
start_fault machine =
    option_map faults.Start (place_fault machine None (grid machine.step machine.start))

-- a traverse in several pieces, though the control may take any way to its end
abbrev pub is_divided : MachineFile → Motion → List Piece → Bool
is_divided machine m pieces = takes_any_way machine m.pace && are_several pieces

abbrev pub at_command : Setting → ℕ → PieceRefusal → CheckFault
at_command s k refusal = faults.Piece s k refusal.piece refusal.fault

abbrev pub motion_fault : MachineFile → Setting → ℕ → Option Tool → Motion → List Piece →
    Option CheckFault
motion_fault machine s k tool m pieces =
    if is_divided machine m pieces then Some (faults.Divided s k)
    else option_map (at_command s k) (pieces_fault machine tool m.way pieces)

-- from command k on, with the tool mounted and the place reached so far
abbrev pub commands_fault : MachineFile → Setting → ℕ → Option Tool → Point3 → List Action →
    List Entry → Option CheckFault
commands_fault machine s k tool place [] entries = None
commands_fault machine s k tool place (Mount new ∷ actions) entries =
    option_map (faults.ToolChange s k) (place_fault machine new (grid machine.step place))
    or commands_fault machine s (k + 1) new place actions entries
commands_fault machine s k tool place (Move m ∷ actions) (entry ∷ entries) =
    motion_fault machine s k tool m entry.pieces
    or commands_fault machine s (k + 1) tool (end_of m.way) actions entries
commands_fault machine s k tool place (Move m ∷ actions) [] = Some (faults.MotionsDiffer s k)
commands_fault machine s k tool place (_ ∷ actions) entries =
    commands_fault machine s (k + 1) tool place actions entries

abbrev pub setting_fault : MachineFile → Setting → List Command → List Entry → Option CheckFault
setting_fault machine s commands entries =
    motions_fault s (actions_of commands) entries or start_fault machine or
    commands_fault machine s 0 None machine.start (actions_of commands) entries

-- the commands at both settings, or why the program is refused
abbrev pub settings_fault : MachineFile → Result (List Command) ProgramFault →
    Result (List Command) ProgramFault → CertificateData → Option CheckFault
settings_fault machine (Err e) on c = Some (faults.Program Off e)
settings_fault machine (Ok off) (Err e) c = Some (faults.Program On e)
settings_fault machine (Ok off) (Ok on) c =
    setting_fault machine Off off c.off or setting_fault machine On on c.on

abbrev pub first_refusal : Program → Setup → CertificateData → Option CheckFault
first_refusal program setup c =
    settings_fault setup.machine (meaning program setup false) (meaning program setup true) c

-- the same of a certificate for a job, whose program isn't refused
abbrev pub job_refusal : JobData → CertificateData → Option CheckFault
job_refusal j c = settings_fault j.machine (Ok j.off) (Ok (commands_in true j)) c
