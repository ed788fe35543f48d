-- The machine's progress at its start: none. Our own.
use Rattle.std.specs.Prelude.{◌≡◌, ℕ, List, []}
use Rattle.ngc_machine_files.specs.Machine.{MachineFile}
use Rattle.ngc_commands.specs.declared.command.Command.{Command}
use Rattle.ngc_planner.specs.Trail.{joints_before}
use Rattle.ngc_controller.specs.declared.progress.Progress.{Progress}

pub record IsOpening {K A : Type 0} (places : ℕ) (p : Progress K A) : Type 0 where
  pub none : p.ring.loaded ≡ []
  pub beginning : p.ring.place ≡ 0
  pub room : p.ring.room ≡ places
  pub still : p.drive.ramp ≡
      record { last_change = 0; rate = 0; rest = 0; legs = []; room = places }
  pub joints : (machine : MachineFile) (commands : List Command) → machine.ring ≡ places →
      p.drive.joints ≡ joints_before machine commands 0
  pub done : p.done ≡ 0
  pub dwelt : p.dwelt ≡ 0
