use Rattle.std.proofs.Common.{◌≡◌, take, map}
use Rattle.ngc_written_tools.specs.Limits.{limits_by}
use Rattle.ngc_written_tools.proofs.limits.limits_of.Given as goal

abbrev pub invariant-loop-tool : goal.invariant-loop-tool
invariant-loop-tool l = l.limits.items ≡ map limits_by (take l.tool-index l.tools)
