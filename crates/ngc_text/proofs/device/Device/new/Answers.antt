use Rattle.std.proofs.Common.{rules}
use Rattle.ngc_text.proofs.device.Device.new.Goals as goal

pub returns-clause-failures : goal.returns-clause-failures
returns-clause-failures g c = search rules
