use Rattle.std.proofs.Common.{rules}
use Rattle.ngc_text.proofs.device.DeviceSink.push.Goals as goal

pub returns-in-Ok-clause-takes : goal.returns-in-Ok-clause-takes
returns-in-Ok-clause-takes g c = search rules
