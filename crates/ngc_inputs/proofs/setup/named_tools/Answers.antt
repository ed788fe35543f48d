use Rattle.std.proofs.Common.{◌≡◌, Ok}
use Rattle.ngc_machine_files.specs.Tools.{tools_of}
use Rattle.ngc_written_tools.specs.Reading.{any_limits, any_tools}
use Rattle.ngc_inputs.specs.Setups.{Refuses}
use Rattle.ngc_inputs.proofs.SetupLaws.{carried}
use Rattle.ngc_inputs.proofs.setup.named_tools.Goals as goal

pub returns-in-Ok-clause-said : goal.returns-in-Ok-clause-said
returns-in-Ok-clause-said g c =
    carried _ _ _ (λ b. any_tools b ≡ Ok (tools_of c.in-Ok.tools.tools)) c.as_slice.ensures.value c.in_ok-bytes.ensures.value c.in-Ok.ensures.tools

pub returns-in-Ok-clause-limits : goal.returns-in-Ok-clause-limits
returns-in-Ok-clause-limits g c =
    carried _ _ _ (λ b. c.in-Ok.tools.limits.items ≡ any_limits b) c.as_slice.ensures.value c.in_ok-bytes.ensures.value c.in-Ok.ensures.limits

pub returns-clause-said : goal.returns-clause-said
returns-clause-said g c =
    carried _ _ _ (λ b. Refuses c.in-Err.fault (any_tools b)) c.as_slice.ensures.value c.in_ok-bytes.ensures.value c.in-Err.ensures.tools
