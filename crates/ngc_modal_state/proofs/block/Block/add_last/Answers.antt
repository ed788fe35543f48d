-- Each effect in order.
use Rattle.std.proofs.Common.{rules}
use Rattle.ngc_modal_state.specs.Effects.{last_effects}
use Rattle.ngc_modal_state.proofs.PresentEffects.{adds, ends, mapped}
use Rattle.ngc_modal_state.proofs.block.Block.add_last.Goals as goal

pub returns-clause-items : goal.returns-clause-items
unfolding last_effects
returns-clause-items c =
    adds _ _ _ _ _ _ (search rules) c.add.ensures.items
    (adds _ _ _ _ _ _ (mapped _ _ _ _ (λ x y h. h) c.map.ensures.cases) c.add-2.ensures.items
    (adds _ _ _ _ _ _ (search rules) c.add_move.ensures.items
    (adds _ _ _ _ _ _ (mapped _ _ _ _ (λ x y h. h) c.map-2.ensures.cases) c.add-3.ensures.items (ends _))))
