-- A dump after a tick with a pulse.
use Rattle.std.proofs.Common.{◌≡◌, ◌+◌, ℕ, List, ◌++◌, Some, ap, ◌∙◌}
use Rattle.ngc_fixed_length.specs.declared.points.StepPos.{StepPos}
use Rattle.ngc_pulses.specs.declared.axis_step.Directions.{Directions}
use Rattle.ngc_pulses.specs.declared.axis_step.Steps.{Steps}
use Rattle.ngc_pulses.specs.Vcd.{steps_of, directions_after, tick_changes, dumped}
use Rattle.ngc_pulses.specs.Dumping.{DumpState, last_half, step_between, tick_text, after_tick, AddsChanges}

abbrev state : ℕ → ℕ → StepPos → Directions → ℕ → DumpState
state rate ticks position directions stamped =
    record { ticks_per_second = rate; ticks = ticks; position = position; directions = directions; stamped = stamped }

-- d is the state before the tick, seen as v
pub stepped : (d v : DumpState) (q : StepPos) (steps : Steps) (rate stamped : ℕ) (directions : Directions) → v ≡ d →
    steps ≡ steps_of v.directions (step_between v.position q) → rate ≡ v.ticks_per_second → stamped ≡ last_half v.stamped (tick_changes v.ticks steps) →
    directions ≡ directions_after steps →
    state rate (v.ticks + 1) q directions stamped ≡ after_tick d (Some q)
stepped d v q steps rate stamped directions same is r s t =
    ap (λ n. state n (v.ticks + 1) q directions stamped) r
    ∙ ap (λ n. state v.ticks_per_second (v.ticks + 1) q directions n) (s ∙ ap (λ x. last_half v.stamped (tick_changes v.ticks x)) is)
    ∙ ap (λ x. state v.ticks_per_second (v.ticks + 1) q x (last_half v.stamped (tick_changes v.ticks (steps_of v.directions (step_between v.position q)))))
    (t ∙ ap directions_after is)
    ∙ ap (λ x. after_tick x (Some q)) same

pub step_added : (d v : DumpState) (q : StepPos) (steps : Steps) (now : ℕ) (a b : List ℕ) → v ≡ d → steps ≡ steps_of v.directions (step_between v.position q) →
    AddsChanges v.ticks_per_second (tick_changes v.ticks steps) v.stamped now a b → b ≡ a ++ tick_text d (Some q)
step_added d v q steps now a b same is added =
    added.text ∙ ap (λ x. a ++ dumped v.ticks_per_second v.stamped (tick_changes v.ticks x)) is ∙ ap (λ x. a ++ tick_text x (Some q)) same
