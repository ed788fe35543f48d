use Rattle.std.proofs.Common.{◌≡◌, drop}
use Rattle.ngc_frames.specs.InForce.{line_that_set}
use Rattle.ngc_frames.proofs.in_force.line_that_set.Given as goal

abbrev pub invariant-loop-change : goal.invariant-loop-change
invariant-loop-change l =
    line_that_set l.part l.command l.set l.frame (drop l.change-index l.changes) ≡ line_that_set l.part l.command 0 l.start l.changes
