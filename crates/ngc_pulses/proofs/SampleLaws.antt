-- Samples from tick to tick are those of all pulses.
use Rattle.std.proofs.Common.{◌≡◌, ◌≤◌, length, ◌+◌, ◌*◌, ◌++◌, ℕ, zero, suc, List, [], ◌∷◌, replicate, Option, Some, None, Bool, true, false, refl, ap, sym, subst, ◌∙◌, arith}
use Rattle.std.specs.Prelude.{if◌then◌else◌, bit_xor}
use Rattle.std.proofs.lemmas.List.{append_assoc, append-nil, replicate-append-replicate}
use Rattle.ngc_text.specs.Written.{AppendsPrefix}
use Rattle.ngc_fixed_length.specs.declared.points.StepPos.{StepPos}
use Rattle.ngc_pulses.specs.declared.axis_step.Directions.{Directions}
use Rattle.ngc_pulses.specs.declared.axis_step.Steps.{Steps}
use Rattle.ngc_pulses.specs.declared.samples.Levels.{Levels}
use Rattle.ngc_pulses.specs.declared.samples.Switch.{Switch}
use Rattle.ngc_pulses.specs.declared.samples.Switch.TheVariants.{Nothing, Spindle, Coolant, AllOff}
use Rattle.ngc_pulses.specs.Vcd.{steps_of, directions_after}
use Rattle.ngc_pulses.specs.Dumping.{step_between, pulses_over}
use Rattle.ngc_pulses.specs.Samples.{levels_in, level_bits, tick_bytes, samples_from, samples}
use Rattle.ngc_pulses.specs.Sampling.{SampleState, SampleTick, is_rest, rest_bytes, changed_by, changed_bytes, rested, place_after, after_sample, sample_text}
use Rattle.ngc_pulses.specs.Sampling.{after_samples, samples_text, settled, switches_of, positions_of, first_samples}
use Rattle.ngc_pulses.proofs.Dumps.{resting, still_steps}
use Rattle.ngc_pulses.proofs.CollectedText.{begun_more}

-- ---- a tick that changes something

changes_something : (s : SampleState) (t : SampleTick) → is_rest t ≡ false → sample_text s t ≡ rest_bytes s ++ changed_bytes s t
changes_something s t changes = ap (λ b. if b then [] else rest_bytes s ++ changed_bytes s t) changes

pub change_begun : (s : SampleState) (t : SampleTick) (x z : Option (List ℕ)) (a : List ℕ) → is_rest t ≡ false → AppendsPrefix x z (a ++ rest_bytes s) →
    AppendsPrefix x z (a ++ sample_text s t)
change_begun s t x z a changes wrote =
    let P : List ℕ → Type 0 = λ text. AppendsPrefix x z text in
    subst P (append_assoc a (rest_bytes s) (changed_bytes s t) ∙ ap (λ l. a ++ l) (sym (changes_something s t changes)))
    (begun_more x z (a ++ rest_bytes s) (changed_bytes s t) wrote)

-- ---- two lists of ticks in order

pub samples_text-append : (s : SampleState) (ts us : List SampleTick) →
    samples_text s (ts ++ us) ≡ samples_text s ts ++ samples_text (after_samples s ts) us
samples_text-append s [] us = refl
samples_text-append s (t ∷ ts) us =
    ap (λ l. sample_text s t ++ l) (samples_text-append (after_sample s t) ts us)
    ∙ sym (append_assoc (sample_text s t) (samples_text (after_sample s t) ts) (samples_text (after_samples (after_sample s t) ts) us))

pub after_samples-append : (s : SampleState) (ts us : List SampleTick) → after_samples s (ts ++ us) ≡ after_samples (after_samples s ts) us
after_samples-append s [] us = refl
after_samples-append s (t ∷ ts) us = after_samples-append (after_sample s t) ts us

-- ---- ticks that change nothing

abbrev pub tick_of : Option StepPos → Switch → SampleTick
tick_of position switch = record { position = position; switch = switch }

abbrev pub rest_tick : SampleTick
rest_tick = tick_of None Nothing

pub rests_text : (n : ℕ) (s : SampleState) → samples_text s (replicate n rest_tick) ≡ []
rests_text zero s = refl
rests_text (suc n) s = rests_text n (rested 1 s)

pub rests_after : (n : ℕ) (s : SampleState) → after_samples s (replicate n rest_tick) ≡ rested n s
rests_after zero s = let none : s.resting ≡ s.resting + 0 = omega arith in ap (λ k. record s { resting = k }) none
rests_after (suc n) s =
    let more : s.resting + 1 + n ≡ s.resting + suc n = omega arith in
    rests_after n (rested 1 s) ∙ ap (λ k. record s { resting = k }) more

one_more : (b n m : ℕ) → 2 * n + 2 ≡ m → replicate m b ≡ replicate (2 * n) b ++ b ∷ b ∷ []
one_more b n m e = ap (λ k. replicate k b) (sym e) ∙ sym (replicate-append-replicate (2 * n) 2 b)

still_bytes : (m : ℕ) (l : Levels) (p : StepPos) →
    tick_bytes m (levels_in l (steps_of l.directions (step_between p p)) Nothing) (steps_of l.directions (step_between p p))
    ≡ bit_xor (level_bits l) m ∷ bit_xor (level_bits l) m ∷ []
still_bytes m l p =
    let none : level_bits l + 0 ≡ level_bits l = omega arith in
    ap (λ steps. tick_bytes m (levels_in l steps Nothing) steps) (still_steps l.directions p)
    ∙ ap (λ k. bit_xor (level_bits l) m ∷ bit_xor k m ∷ []) none

still_levels : (l : Levels) (p : StepPos) → levels_in l (steps_of l.directions (step_between p p)) Nothing ≡ l
still_levels l p = ap (λ steps. levels_in l steps Nothing) (still_steps l.directions p)

-- ---- all ticks

abbrev from_state : SampleState → List SampleTick → List ℕ
from_state s ticks = samples_from s.inverted s.levels (pulses_over s.position (positions_of ticks)) (switches_of ticks)

abbrev AreWhole : SampleState → List SampleTick → Type 0
AreWhole s ticks = samples_text s ticks ++ rest_bytes (after_samples s ticks) ≡ rest_bytes s ++ from_state s ticks

changed_whole : (s : SampleState) (p : Option StepPos) (w : Switch) (ticks : List SampleTick) → is_rest (tick_of p w) ≡ false →
    pulses_over s.position (p ∷ positions_of ticks)
    ≡ step_between s.position (place_after s.position p) ∷ pulses_over (place_after s.position p) (positions_of ticks) →
    AreWhole (changed_by s (tick_of p w)) ticks → AreWhole s (tick_of p w ∷ ticks)
changed_whole s p w ticks changes pulse rest =
    let t : SampleTick = tick_of p w in
    let next : SampleState = changed_by s t in
    let R : List ℕ = rest_bytes s in
    let C : List ℕ = changed_bytes s t in
    let X : List ℕ = samples_text next ticks in
    let Y : List ℕ = rest_bytes (after_samples next ticks) in
    let P : Bool → Type 0 = λ b. ((if b then [] else R ++ C) ++ samples_text (if b then rested 1 s else next) ticks)
    ++ rest_bytes (after_samples (if b then rested 1 s else next) ticks) ≡ R ++ from_state s (t ∷ ticks) in
    subst P (sym changes)
    (append_assoc (R ++ C) X Y ∙ ap (λ l. (R ++ C) ++ l) rest ∙ append_assoc R C (from_state next ticks)
    ∙ ap (λ ps. R ++ samples_from s.inverted s.levels ps (w ∷ switches_of ticks)) (sym pulse))

rest_whole : (s : SampleState) (ticks : List SampleTick) → AreWhole (rested 1 s) ticks → AreWhole s (rest_tick ∷ ticks)
rest_whole s ticks rest =
    let b : ℕ = bit_xor (level_bits s.levels) s.inverted in
    let l : Levels = s.levels in
    let p : StepPos = s.position in
    let steps : Steps = steps_of l.directions (step_between p p) in
    let more : List StepPos = pulses_over p (positions_of ticks) in
    rest ∙ ap (λ r. r ++ from_state s ticks) (one_more b s.resting (2 * (s.resting + 1)) (omega arith))
    ∙ append_assoc (rest_bytes s) (b ∷ b ∷ []) (from_state s ticks)
    ∙ ap (λ r. rest_bytes s ++ (r ++ from_state s ticks)) (sym (still_bytes s.inverted l p))
    ∙ ap (λ (k : Levels). rest_bytes s ++ (tick_bytes s.inverted (levels_in l steps Nothing) steps ++ samples_from s.inverted k more (switches_of ticks)))
    (sym (still_levels l p))

tick_whole : (p : Option StepPos) (w : Switch) (s : SampleState) (ticks : List SampleTick) → ((next : SampleState) → AreWhole next ticks) →
    AreWhole s (tick_of p w ∷ ticks)
tick_whole None Nothing s ticks rest = rest_whole s ticks (rest (rested 1 s))
tick_whole None (Spindle on) s ticks rest = changed_whole s None (Spindle on) ticks refl refl (rest (changed_by s (tick_of None (Spindle on))))
tick_whole None (Coolant on) s ticks rest = changed_whole s None (Coolant on) ticks refl refl (rest (changed_by s (tick_of None (Coolant on))))
tick_whole None AllOff s ticks rest = changed_whole s None AllOff ticks refl refl (rest (changed_by s (tick_of None AllOff)))
tick_whole (Some q) w s ticks rest = changed_whole s (Some q) w ticks refl refl (rest (changed_by s (tick_of (Some q) w)))

all_whole : (ticks : List SampleTick) (s : SampleState) → AreWhole s ticks
all_whole [] s = sym (append-nil (rest_bytes s))
all_whole (t ∷ ticks) s = tick_whole t.position t.switch s ticks (all_whole ticks)

pub whole_samples : (inverted : ℕ) (position : StepPos) (ticks : List SampleTick) →
    samples_text (first_samples inverted position) ticks ++ rest_bytes (after_samples (first_samples inverted position) ticks)
    ≡ samples inverted (pulses_over position (positions_of ticks)) (switches_of ticks)
whole_samples inverted position ticks = all_whole ticks (first_samples inverted position)

-- ---- the number of resting ticks

one_rests : (s : SampleState) (t : SampleTick) (b : Bool) → (if b then rested 1 s else changed_by s t).resting ≤ s.resting + 1
one_rests s t true = omega arith
one_rests s t false = omega arith

pub few_rest : (s : SampleState) (ticks : List SampleTick) → (after_samples s ticks).resting ≤ s.resting + length ticks
few_rest s [] = omega arith
few_rest s (t ∷ ticks) = omega (arith, few_rest (after_sample s t) ticks, one_rests s t (is_rest t))

-- ---- samples that continue after the bytes of the resting ticks are written

one_settled : (s : SampleState) (t : SampleTick) (b : Bool) →
    settled (if b then rested 1 (settled s) else changed_by (settled s) t) ≡ settled (if b then rested 1 s else changed_by s t)
one_settled s t true = refl
one_settled s t false = refl

pub after_settled : (s : SampleState) (ts : List SampleTick) → settled (after_samples (settled s) ts) ≡ settled (after_samples s ts)
after_settled s [] = refl
after_settled s (t ∷ ts) =
    sym (after_settled (after_sample (settled s) t) ts) ∙ ap (λ k. settled (after_samples k ts)) (one_settled s t (is_rest t))
    ∙ after_settled (after_sample s t) ts

pub whole_settled : (s : SampleState) (ts : List SampleTick) → samples_text s ts ++ rest_bytes (after_samples s ts)
    ≡ rest_bytes s ++ (samples_text (settled s) ts ++ rest_bytes (after_samples (settled s) ts))
whole_settled s ts = all_whole ts s ∙ ap (λ l. rest_bytes s ++ l) (sym (all_whole ts (settled s)))
