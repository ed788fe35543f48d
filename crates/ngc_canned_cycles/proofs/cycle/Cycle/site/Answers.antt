use Rattle.std.proofs.Common.{rules}
use Rattle.ngc_canned_cycles.proofs.cycle.Cycle.site.Goals as goal

pub returns : goal.returns
returns c = search rules
