use Rattle.ngc_modal_state.proofs.Ranks.{is_ordered}
use Rattle.ngc_modal_state.proofs.laws.order_of_execution.Goals as goal

pub returns : goal.returns
returns c = is_ordered
