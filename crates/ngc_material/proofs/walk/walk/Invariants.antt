-- What is found in the remaining commands, after what is found so far, is what is found in all; and so it is
-- of the cuts, and of the heights that are left.
use Rattle.std.proofs.Common.{◌≡◌, ℕ, ◌≤◌, ◌-◌, ◌++◌, [], List, length, true}
use Rattle.ngc_stock.specs.Discs.{discs_in}
use Rattle.ngc_stock.specs.Walk.{uncut}
use Rattle.ngc_stock.specs.declared.cut.Cut.{Cut}
use Rattle.ngc_material.specs.Cuts.{AreCuts}
use Rattle.ngc_material.specs.Heights.{are_reached}
use Rattle.ngc_material.specs.Remains.{AreLeft}
use Rattle.ngc_material.specs.Walks.{AreFound, with_feeds}
use Rattle.ngc_material.specs.declared.walk.Found.{Found}
use Rattle.ngc_material.proofs.Remains.{AreFrom}
use Rattle.ngc_material.proofs.walk.walk.Given as goal

abbrev pub invariant-loop-command : goal.invariant-loop-command
invariant-loop-command g l = record {
  stock : l.material.stock ≡ l.stock;
  discs : l.mounted.discs.items ≡ discs_in l.table l.mounted.reached.tool;
  near : are_reached l.left ≡ true;
  few : length l.left ≤ length l.commands;
  found : (rest others : List Found) → AreFound l.stock l.table l.mounted.reached l.material.heights.items (length l.commands - length l.left) l.left rest others →
      AreFound l.stock l.table l.start (uncut l.stock) 0 l.commands (l.traverses.items ++ rest) (l.feeds.items ++ others);
  cuts : (rest : List Found) (last : List Cut) → AreCuts l.stock l.table l.mounted.reached l.material.heights.items (length l.commands - length l.left) l.left rest l.cuts.items last →
      AreCuts l.stock l.table l.start (uncut l.stock) 0 l.commands (l.traverses.items ++ rest) [] last;
  remains : (rest : List Found) (last : List ℕ) → AreFrom (length l.commands - length l.left) rest →
      AreLeft l.stock l.table l.mounted.reached l.material.heights.items (with_feeds (length l.commands - length l.left) l.left rest) last →
      AreLeft l.stock l.table l.start (uncut l.stock) (with_feeds 0 l.commands (l.traverses.items ++ rest)) last;
}

abbrev pub decreases-loop-command : goal.decreases-loop-command
decreases-loop-command g l = length l.left
