use Rattle.std.proofs.Common.{rules}
use Rattle.ngc_controller.proofs.controller.Controller.rate.Goals as goal

pub returns : goal.returns
returns g c = search rules
