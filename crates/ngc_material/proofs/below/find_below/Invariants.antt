use Rattle.std.proofs.Common.{◌≡◌, ◌-◌, ◌≤◌, length, None}
use Rattle.ngc_stock.specs.Below.{all_below}
use Rattle.ngc_material.proofs.below.find_below.Given as goal

abbrev pub invariant-loop-command : goal.invariant-loop-command
invariant-loop-command l = record {
  few : length l.left ≤ length l.commands;
  found : all_below l.stock l.reached (length l.commands - length l.left) l.left l.found ≡ all_below l.stock l.start 0 l.commands None;
}

abbrev pub decreases-loop-command : goal.decreases-loop-command
decreases-loop-command l = length l.left
