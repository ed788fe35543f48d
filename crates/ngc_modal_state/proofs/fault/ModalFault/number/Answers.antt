use Rattle.std.proofs.Common.{rules}
use Rattle.ngc_modal_state.proofs.fault.ModalFault.number.Goals as goal

pub returns-in-WordMissing : goal.returns-in-WordMissing
returns-in-WordMissing c = search rules
