use Rattle.std.proofs.Common.{◌≡◌, Ok}
use Rattle.ngc_machine_files.specs.Machine.{file_of}
use Rattle.ngc_written_machines.specs.Reading.{any_machine}
use Rattle.ngc_written_machines.specs.Written.{any_figures}
use Rattle.ngc_inputs.specs.Setups.{Refuses}
use Rattle.ngc_inputs.proofs.SetupLaws.{carried}
use Rattle.ngc_inputs.proofs.setup.named_machine.Goals as goal

pub returns-in-Ok-clause-said : goal.returns-in-Ok-clause-said
returns-in-Ok-clause-said g c =
    carried _ _ _ (λ b. any_machine b ≡ Ok (file_of c.in-Ok.machine.machine)) c.as_slice.ensures.value c.in_ok-bytes.ensures.value c.in-Ok.ensures.machine

pub returns-in-Ok-clause-figures : goal.returns-in-Ok-clause-figures
returns-in-Ok-clause-figures g c =
    carried _ _ _ (λ b. c.in-Ok.machine.figures ≡ any_figures b) c.as_slice.ensures.value c.in_ok-bytes.ensures.value c.in-Ok.ensures.figures

pub returns-clause-said : goal.returns-clause-said
returns-clause-said g c =
    carried _ _ _ (λ b. Refuses c.in-Err.fault (any_machine b)) c.as_slice.ensures.value c.in_ok-bytes.ensures.value c.in-Err.ensures.machine
