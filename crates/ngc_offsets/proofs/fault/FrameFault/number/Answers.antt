use Rattle.std.proofs.Common.{rules}
use Rattle.ngc_offsets.proofs.fault.FrameFault.number.Goals as goal

pub returns-in-BeyondRange : goal.returns-in-BeyondRange
returns-in-BeyondRange c = search rules
