use Rattle.std.proofs.Common.{rules}
use Rattle.ngc_controller.proofs.ending.tool_after.Goals as goal

pub returns-in-Mount : goal.returns-in-Mount
returns-in-Mount c = search rules
