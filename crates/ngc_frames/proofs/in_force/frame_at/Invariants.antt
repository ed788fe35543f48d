use Rattle.std.proofs.Common.{◌≡◌, drop}
use Rattle.ngc_frames.specs.InForce.{frame_at}
use Rattle.ngc_frames.proofs.in_force.frame_at.Given as goal

abbrev pub invariant-loop-change : goal.invariant-loop-change
invariant-loop-change l = frame_at l.frame (drop l.change-index l.changes) l.command ≡ frame_at l.start l.changes l.command
