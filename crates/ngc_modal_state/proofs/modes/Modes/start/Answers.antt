use Rattle.std.proofs.Common.{rules}
use Rattle.ngc_modal_state.proofs.modes.Modes.start.Goals as goal

pub returns : goal.returns
returns c = search rules
