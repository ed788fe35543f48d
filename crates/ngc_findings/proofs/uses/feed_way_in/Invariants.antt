use Rattle.std.proofs.Common.{◌≡◌, ◌*◌, ◌^◌, ◌≤◌, take}
use Rattle.std.specs.Prelude.{sum_by}
use Rattle.ngc_findings.specs.Uses.{fed}
use Rattle.ngc_findings.proofs.uses.feed_way_in.Given as goal

abbrev pub invariant-loop-command : goal.invariant-loop-command
invariant-loop-command l = record {
  value : l.way ≡ sum_by fed (take l.command-index l.commands);
  bound : l.way ≤ 2 ^ 39 * l.command-index;
}
