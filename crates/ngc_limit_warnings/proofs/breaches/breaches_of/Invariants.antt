-- The breaches found so far, with those of the remaining commands, are those of all.
use Rattle.std.proofs.Common.{◌≡◌, ◌≤◌, ◌+◌, length}
use Rattle.ngc_limit_warnings.specs.Breaches.{all_found, count_of, breaches_of, with_later}
use Rattle.ngc_limit_warnings.proofs.breaches.breaches_of.Given as goal

abbrev pub invariant-loop-command : goal.invariant-loop-command
invariant-loop-command l = record {
  same : with_later l.found (all_found l.kind l.table l.in_use l.left) ≡ breaches_of l.kind l.table l.commands;
  few : count_of l.found + length l.left ≤ length l.commands;
}

abbrev pub decreases-loop-command : goal.decreases-loop-command
decreases-loop-command l = length l.left
