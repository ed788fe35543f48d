use Rattle.std.proofs.Common.{rules}
use Rattle.ngc_controller.proofs.controller.Controller.position.Goals as goal

pub returns : goal.returns
returns g c = search rules
