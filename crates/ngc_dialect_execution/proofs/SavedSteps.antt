-- Modes are restored by the words that restore them.
use Rattle.std.proofs.Common.{◌≡◌, ℕ, List, Option, Result, ap, subst, ◌∙◌}
use Rattle.ngc_canonical.specs.State.{Setup}
use Rattle.ngc_dialect_parameters.specs.declared.statement.Word.{Word}
use Rattle.ngc_dialect_saved.specs.declared.modes.SavedModes.{SavedModes}
use Rattle.ngc_dialect_saved.specs.Restoring.{restoring}
use Rattle.ngc_dialect_execution.specs.declared.fault.Refusal.{Refusal}
use Rattle.ngc_dialect_execution.specs.Faults.{Says}
use Rattle.ngc_dialect_execution.specs.Taken.{Between, modes_in, restored, words_restored}

pub restored_by : {X : Type 0} (view : X → Between) (r : Result X Refusal) (setup : Setup) (line : ℕ) (modes now : SavedModes) (ws : List (Option Word))
    (b : Between) → ws ≡ restoring modes now → now ≡ modes_in b → Says view r (words_restored setup line ws b) → Says view r (restored setup line modes b)
restored_by view r setup line modes now ws b are is says =
    subst (λ (vs : List (Option Word)). Says view r (words_restored setup line vs b)) (are ∙ ap (λ (m : SavedModes). restoring modes m) is) says
