-- A dump from tick to tick is that of all pulses.
use Rattle.std.proofs.Common.{◌≡◌, ◌+◌, ◌*◌, ℕ, suc, ℤ, pos, List, [], ◌∷◌, ◌++◌, length, Option, Some, None, Bool, false, refl, ap, sym, ◌∙◌, arith}
use Rattle.std.specs.Prelude.{◌-ℤ◌}
use Rattle.std.proofs.lemmas.Int.{ints}
use Rattle.std.proofs.lemmas.List.{append_assoc}
use Rattle.ngc_fixed_length.specs.declared.points.StepPos.{StepPos}
use Rattle.ngc_pulses.specs.declared.axis_step.AxisStep.{AxisStep}
use Rattle.ngc_pulses.specs.declared.axis_step.Directions.{Directions}
use Rattle.ngc_pulses.specs.declared.axis_step.Steps.{Steps}
use Rattle.ngc_pulses.specs.Vcd.{axis_step, steps_of, directions_after, tick_changes, changes, dumped, stamp, vcd, header, all_down}
use Rattle.ngc_pulses.specs.Dumping.{DumpState, first_state, step_between, pulses_over, tick_text, after_tick, ticks_text, after_ticks, closing_text}
use Rattle.ngc_pulses.proofs.AddedChanges.{dumped-append}

-- ---- ticks that stay

pub still_axis : (up : Bool) (a : ℤ) → axis_step up (a -ℤ a) ≡ record { steps = false; turns = false; up = up }
still_axis up a = let none : a -ℤ a ≡ pos 0 = omega (arith, ints) in ap (axis_step up) none

abbrev pub resting : Directions → Steps
resting d = record {
  x = record { steps = false; turns = false; up = d.x };
  y = record { steps = false; turns = false; up = d.y };
  z = record { steps = false; turns = false; up = d.z };
}

abbrev made : AxisStep → AxisStep → AxisStep → Steps
made x y z = record { x = x; y = y; z = z }

pub still_steps : (d : Directions) (p : StepPos) → steps_of d (step_between p p) ≡ resting d
still_steps d p =
    ap (λ s. made s (axis_step d.y (p.y -ℤ p.y)) (axis_step d.z (p.z -ℤ p.z))) (still_axis d.x p.x)
    ∙ ap (λ s. made (record { steps = false; turns = false; up = d.x }) s (axis_step d.z (p.z -ℤ p.z))) (still_axis d.y p.y)
    ∙ ap (λ s. made (record { steps = false; turns = false; up = d.x }) (record { steps = false; turns = false; up = d.y }) s) (still_axis d.z p.z)

-- ---- all ticks

pub ticks_text_is : (d : DumpState) (ticks : List (Option StepPos)) →
    ticks_text d ticks ≡ dumped d.ticks_per_second d.stamped (changes d.ticks d.directions (pulses_over d.position ticks))
ticks_text_is d [] = refl
ticks_text_is d (None ∷ ticks) =
    let next : DumpState = after_tick d None in
    let rest : List StepPos = pulses_over d.position ticks in
    let more : d.ticks + 1 ≡ suc d.ticks = omega arith in
    ticks_text_is next ticks
    ∙ ap (λ n. dumped d.ticks_per_second d.stamped (changes n d.directions rest)) more
    ∙ sym (ap (λ s. dumped d.ticks_per_second d.stamped (tick_changes d.ticks s ++ changes (suc d.ticks) (directions_after s) rest))
    (still_steps d.directions d.position))
ticks_text_is d (Some q ∷ ticks) =
    let next : DumpState = after_tick d (Some q) in
    let rest : List StepPos = pulses_over q ticks in
    let steps : Steps = steps_of d.directions (step_between d.position q) in
    let more : d.ticks + 1 ≡ suc d.ticks = omega arith in
    ap (λ l. tick_text d (Some q) ++ l) (ticks_text_is next ticks ∙ ap (λ n. dumped d.ticks_per_second next.stamped (changes n next.directions rest)) more)
    ∙ sym (dumped-append d.ticks_per_second d.stamped (tick_changes d.ticks steps) (changes (suc d.ticks) (directions_after steps) rest))

-- ---- two lists of ticks in order

pub ticks_text-append : (d : DumpState) (ts us : List (Option StepPos)) → ticks_text d (ts ++ us) ≡ ticks_text d ts ++ ticks_text (after_ticks d ts) us
ticks_text-append d [] us = refl
ticks_text-append d (t ∷ ts) us =
    ap (λ l. tick_text d t ++ l) (ticks_text-append (after_tick d t) ts us)
    ∙ sym (append_assoc (tick_text d t) (ticks_text (after_tick d t) ts) (ticks_text (after_ticks (after_tick d t) ts) us))

pub after_ticks-append : (d : DumpState) (ts us : List (Option StepPos)) → after_ticks d (ts ++ us) ≡ after_ticks (after_ticks d ts) us
after_ticks-append d [] us = refl
after_ticks-append d (t ∷ ts) us = after_ticks-append (after_tick d t) ts us

-- ---- what stays, and the counts

same_rate : (d : DumpState) (t : Option StepPos) → (after_tick d t).ticks_per_second ≡ d.ticks_per_second
same_rate d None = refl
same_rate d (Some q) = refl

one_more : (d : DumpState) (t : Option StepPos) → (after_tick d t).ticks ≡ d.ticks + 1
one_more d None = refl
one_more d (Some q) = refl

pub rate_after : (d : DumpState) (ticks : List (Option StepPos)) → (after_ticks d ticks).ticks_per_second ≡ d.ticks_per_second
rate_after d [] = refl
rate_after d (t ∷ ticks) = rate_after (after_tick d t) ticks ∙ same_rate d t

pub ticks_after : (d : DumpState) (ticks : List (Option StepPos)) → (after_ticks d ticks).ticks ≡ d.ticks + length ticks
ticks_after d [] = omega arith
ticks_after d (t ∷ ticks) = omega (arith, ticks_after (after_tick d t) ticks, one_more d t)

pub as_many : (p : StepPos) (ticks : List (Option StepPos)) → length (pulses_over p ticks) ≡ length ticks
as_many p [] = refl
as_many p (None ∷ ticks) = ap suc (as_many p ticks)
as_many p (Some q ∷ ticks) = ap suc (as_many q ticks)

-- ---- the whole

pub whole_dump : (rate : ℕ) (position : StepPos) (ticks : List (Option StepPos)) →
    header ++ (ticks_text (first_state rate position) ticks ++ closing_text (after_ticks (first_state rate position) ticks))
    ≡ vcd rate (pulses_over position ticks)
whole_dump rate position ticks =
    let d : DumpState = first_state rate position in
    let n : (after_ticks d ticks).ticks ≡ length (pulses_over position ticks) = omega (arith, ticks_after d ticks, as_many position ticks) in
    ap (λ l. header ++ (l ++ closing_text (after_ticks d ticks))) (ticks_text_is d ticks)
    ∙ ap (λ r. header ++ (dumped rate 0 (changes 0 all_down (pulses_over position ticks)) ++ stamp r (2 * (after_ticks d ticks).ticks + 2)))
    (rate_after d ticks)
    ∙ ap (λ k. header ++ (dumped rate 0 (changes 0 all_down (pulses_over position ticks)) ++ stamp rate (2 * k + 2))) n
