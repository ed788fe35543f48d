-- The state after a tick that travels.
use Rattle.std.proofs.Common.{◌≡◌, ◌⊎◌, inl, inr, ℕ, suc, ◌+◌, ◌-◌, ◌<◌, ◌≤◌, subst, sym, arith, refl, List, drop, true, false, Bool}
use Rattle.std.specs.Prelude.{nat_le, if◌then◌else◌}
use Rattle.std.proofs.lemmas.Bool.Decides.{nat_tests}
use Rattle.ngc_fixed_length.specs.LinePath.{point}
use Rattle.ngc_machine_model.specs.State.{Job, Queued, State, millionths, change_of}
use Rattle.ngc_machine_model.specs.Step.{Outcome, Travels, without_head, place_after}

-- the state after a tick of rate v that travels: the head is done, with the rest travelled on the
-- next, or it continues
pub record Moved (l : Queued) (old : State) (v : ℕ) (new : State) : Type 0 where
  pub position : new.position ≡ point l.path (place_after l old v)
  pub state : ((millionths l ≤ old.travelled + v) × (new.done ≡ suc old.done) × (new.ring ≡ drop 1 old.ring) ×
      (new.travelled ≡ old.travelled + v - millionths l)) ⊎
      ((new.done ≡ old.done) × (new.ring ≡ old.ring) × (new.travelled ≡ old.travelled + v) × (old.travelled + v < millionths l))

by_test : (P : State → Type 0) (b : Bool) (x y : State) → (b ≡ true → P x) → (b ≡ false → P y) → P (if b then x else y)
by_test P true x y f g = f refl
by_test P false x y f g = g refl

pub moved : (job : Job) (l : Queued) (ls : List Queued) (old : State) (o : Outcome) (new : State) → Travels job l ls old o new → Moved l old new.rate new
moved job l ls old o new t =
    let there : State = record old { rate = new.rate; change = change_of job l; position = point l.path (place_after l old new.rate) } in
    subst (Moved l old new.rate) (sym t.goes_on)
    (by_test (Moved l old new.rate) (nat_le (millionths l) (old.travelled + new.rate))
    (without_head (old.travelled + new.rate - millionths l) there)
    (record there { travelled = old.travelled + new.rate })
    (λ b. let full : millionths l ≤ old.travelled + new.rate = grind (arith, nat_tests) in record { position = refl; state = inl (full, refl, refl, refl) })
    (λ b. let short : old.travelled + new.rate < millionths l = grind (arith, nat_tests) in record { position = refl; state = inr (refl, refl, refl, short) }))
