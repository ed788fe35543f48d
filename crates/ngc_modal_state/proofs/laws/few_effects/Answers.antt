use Rattle.ngc_modal_state.proofs.Ranks.{is_short}
use Rattle.ngc_modal_state.proofs.laws.few_effects.Goals as goal

pub returns : goal.returns
returns c = is_short
