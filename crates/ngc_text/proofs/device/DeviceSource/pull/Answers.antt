use Rattle.std.proofs.Common.{rules}
use Rattle.ngc_text.proofs.device.DeviceSource.pull.Goals as goal

pub returns-in-Err-clause-counts : goal.returns-in-Err-clause-counts
returns-in-Err-clause-counts g c = search rules
