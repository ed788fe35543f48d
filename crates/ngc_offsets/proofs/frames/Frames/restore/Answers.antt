use Rattle.std.proofs.Common.{rules}
use Rattle.ngc_offsets.proofs.frames.Frames.restore.Goals as goal

pub returns : goal.returns
returns c = search rules
