use Rattle.std.proofs.Common.{rules}
use Rattle.ngc_offsets.proofs.frames.Frames.suspend.Goals as goal

pub returns : goal.returns
returns c = search rules
