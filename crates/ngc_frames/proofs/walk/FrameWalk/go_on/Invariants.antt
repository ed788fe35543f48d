-- The walk has passed as many changes as the loop, and is at the command.
use Rattle.std.proofs.Common.{◌≡◌, ◌+◌, drop}
use Rattle.ngc_frames.specs.Walks.{WalksOver}
use Rattle.ngc_frames.proofs.walk.FrameWalk.go_on.Given as goal

abbrev pub invariant-loop-change : goal.invariant-loop-change
invariant-loop-change l = record {
  items : l.change-items ≡ drop l.initial.self.passed l.changes;
  passed : l.self.passed ≡ l.initial.self.passed + l.change-index;
  command : l.self.command ≡ l.command;
  over : WalksOver l.start l.changes l.self;
}
