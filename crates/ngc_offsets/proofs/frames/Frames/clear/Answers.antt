use Rattle.std.proofs.Common.{rules}
use Rattle.ngc_offsets.proofs.frames.Frames.clear.Goals as goal

pub returns : goal.returns
returns c = search rules
