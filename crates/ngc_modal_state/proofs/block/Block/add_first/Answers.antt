use Rattle.std.proofs.Common.{rules}
use Rattle.ngc_modal_state.proofs.PresentEffects.{nothing_first}
use Rattle.ngc_modal_state.proofs.block.Block.add_first.Goals as goal

pub returns-then-not-has_first_words-clause-items : goal.returns-then-not-has_first_words-clause-items
returns-then-not-has_first_words-clause-items c = nothing_first _ _ (search rules) _
