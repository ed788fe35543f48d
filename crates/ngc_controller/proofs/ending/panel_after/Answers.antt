use Rattle.std.proofs.Common.{rules}
use Rattle.ngc_controller.proofs.ending.panel_after.Goals as goal

pub returns-in-OptionalStop : goal.returns-in-OptionalStop
returns-in-OptionalStop c = search rules
