-- Each effect in order.
use Rattle.std.proofs.Common.{rules}
use Rattle.ngc_modal_state.specs.Effects.{mode_effects}
use Rattle.ngc_modal_state.proofs.PresentEffects.{adds, ends, mapped, no_modes}
use Rattle.ngc_modal_state.proofs.block.Block.add_modes.Goals as goal

pub returns-clause-items : goal.returns-clause-items
unfolding mode_effects
returns-clause-items c =
    adds _ _ _ _ _ _ (mapped _ _ _ _ (λ x y h. h) c.map.ensures.cases) c.add.ensures.items
    (adds _ _ _ _ _ _ (mapped _ _ _ _ (λ x y h. h) c.map-2.ensures.cases) c.add-2.ensures.items
    (adds _ _ _ _ _ _ (search rules) c.add-3.ensures.items
    (adds _ _ _ _ _ _ (search rules) c.add-4.ensures.items
    (adds _ _ _ _ _ _ (mapped _ _ _ _ (λ x y h. h) c.map-3.ensures.cases) c.add-5.ensures.items
    (adds _ _ _ _ _ _ (mapped _ _ _ _ (λ x y h. h) c.map-4.ensures.cases) c.add-6.ensures.items
    (adds _ _ _ _ _ _ (mapped _ _ _ _ (λ x y h. h) c.map-5.ensures.cases) c.add-7.ensures.items
    (adds _ _ _ _ _ _ (mapped _ _ _ _ (λ x y h. h) c.map-6.ensures.cases) c.add-8.ensures.items (ends _))))))))

pub returns-then-not-has_modes-clause-items : goal.returns-then-not-has_modes-clause-items
returns-then-not-has_modes-clause-items c = no_modes _ (search rules) _
