use Rattle.std.proofs.Common.{◌≡◌, drop}
use Rattle.ngc_setup_sheet.specs.Reaches.{IsReach, reach_of, with_tools}
use Rattle.ngc_setup_sheet.proofs.reach.Reach.of.Given as goal

abbrev pub invariant-loop-tool : goal.invariant-loop-tool
invariant-loop-tool l = record {
  bound : IsReach l.reach;
  same : with_tools l.reach (drop l.tool-index l.tools) ≡ reach_of l.tools;
}
