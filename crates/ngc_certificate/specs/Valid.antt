-- The validity of a certificate for the commands of a setting. Our own.
use Rattle.std.specs.Prelude.{◌≡◌, List, [], ◌∷◌, map, Option, None}
use Rattle.ngc_fixed_length.specs.Grid.{grid}
use Rattle.ngc_fixed_length.specs.Length.{IsStep}
use Rattle.ngc_fixed_length.specs.declared.points.Point3.{Point3}
use Rattle.ngc_commands.specs.declared.command.Command.{Command}
use Rattle.ngc_machine_files.specs.declared.tools.Tool.{Tool}
use Rattle.ngc_machine_files.specs.Machine.{MachineFile}
use Rattle.ngc_commands.specs.Movement.{actions_of, motion_indices, end_of}
use Rattle.ngc_commands.specs.declared.command.Action.{Action}
use Rattle.ngc_commands.specs.declared.command.Action.TheVariants.{Move, Mount}
use Rattle.ngc_collision.specs.Body.{IsClearAt}
use Rattle.ngc_certificate_text.specs.Certificate.{Entry}
use Rattle.ngc_certificate.specs.PieceFault.{ArePiecesValid}
use Rattle.ngc_certificate.specs.Traverses.{AreWhole, AreSafeEachWay}

-- From a position, with a tool mounted: each motion's pieces are valid with the tool that is
-- mounted then, and each new tool is clear where it is mounted.
abbrev pub AreClearFrom : MachineFile → Option Tool → Point3 → List Action → List Entry → Type 0
AreClearFrom machine tool place [] entries = Unit {0}
AreClearFrom machine tool place (Mount new ∷ actions) entries =
    IsClearAt machine new (grid machine.step place) × AreClearFrom machine new place actions entries
AreClearFrom machine tool place (Move m ∷ actions) (entry ∷ entries) =
    ArePiecesValid machine tool m.way entry.pieces ×
    AreClearFrom machine tool (end_of m.way) actions entries
AreClearFrom machine tool place (Move m ∷ actions) [] = ⊥
AreClearFrom machine tool place (_ ∷ actions) entries =
    AreClearFrom machine tool place actions entries

pub record IsValid (machine : MachineFile) (commands : List Command) (entries : List Entry) :
    Type 0 where
  -- the motions are those of the commands
  pub motions : map (λ entry. entry.index) entries ≡ motion_indices 0 (actions_of commands)
  pub start : IsClearAt machine None (grid machine.step machine.start)
  pub clear : AreClearFrom machine None machine.start (actions_of commands) entries
  pub whole : AreWhole machine (actions_of commands) entries

-- with free rapids each point in the box of a traverse's ends is safe
abbrev pub ValidIsSafeEachWay : Type 0
ValidIsSafeEachWay = (machine : MachineFile) (commands : List Command) (entries : List Entry) →
    IsStep machine.step → IsValid machine commands entries →
    AreSafeEachWay machine None (actions_of commands)
