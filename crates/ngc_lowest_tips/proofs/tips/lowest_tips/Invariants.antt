-- The heights so far, with those of the other commands, are the whole.
use Rattle.std.proofs.Common.{◌≡◌, drop}
use Rattle.ngc_frames.specs.Walks.{WalksOver}
use Rattle.ngc_lowest_tips.specs.Tips.{lowest_tips, tips_from}
use Rattle.ngc_lowest_tips.proofs.tips.lowest_tips.Given as goal

abbrev pub invariant-loop-index : goal.invariant-loop-index
invariant-loop-index g l = record {
  ahead : tips_from l.tools l.history.start l.history.changes.items l.index l.tool l.tips.items (drop l.index l.commands)
      ≡ lowest_tips l.tools l.history.start l.history.changes.items l.commands;
  walk : WalksOver l.history.start l.history.changes.items l.walk;
}
