use Rattle.ngc_offsets.proofs.Reach.{reaches}
use Rattle.ngc_offsets.proofs.frames.Frames.target.Goals as goal

pub returns-clause-range : goal.returns-clause-range
returns-clause-range c = reaches _ _ _ _ _ c.plus.ensures c.in_ok-programmed.ensures.range c.minus.ensures c.shift-shift.ensures.range c.requires
