-- Samples that continue from tick to tick, as positions are commanded. Our own.
use Rattle.std.specs.Prelude.{◌≡◌, ℕ, ◌+◌, ◌*◌, List, [], ◌∷◌, ◌++◌, map, replicate, bit_xor}
use Rattle.std.specs.Prelude.{Option, Some, None, is_none, Bool, true, false, ◌&&◌, if◌then◌else◌}
use Rattle.ngc_fixed_length.specs.declared.points.StepPos.{StepPos}
use Rattle.ngc_pulses.specs.declared.axis_step.Steps.{Steps}
use Rattle.ngc_pulses.specs.declared.samples.Levels.{Levels}
use Rattle.ngc_pulses.specs.declared.samples.Switch.{Switch}
use Rattle.ngc_pulses.specs.declared.samples.Switch.TheVariants.{Nothing, Spindle, Coolant, AllOff}
use Rattle.ngc_pulses.specs.Vcd.{steps_of}
use Rattle.ngc_pulses.specs.Dumping.{step_between}
use Rattle.ngc_pulses.specs.Samples.{levels_in, level_bits, tick_bytes, all_off}

-- a tick of a run: the position to which its pulse leads, if it has one, and what is switched in it
pub record SampleTick : Type 0 where
  pub position : Option StepPos
  pub switch : Switch

-- the switch changes no wire
abbrev pub stays : Switch → Bool
stays Nothing = true
stays (Spindle on) = false
stays (Coolant on) = false
stays AllOff = false

abbrev pub is_rest : SampleTick → Bool
is_rest t = is_none t.position && stays t.switch

-- The state after some ticks. The last ones, `resting` of them, changed nothing, and their bytes
-- are not yet part of the text.
pub record SampleState : Type 0 where
  pub inverted : ℕ
  pub position : StepPos
  pub levels : Levels
  pub resting : ℕ

abbrev pub first_samples : ℕ → StepPos → SampleState
first_samples inverted position =
    record { inverted = inverted; position = position; levels = all_off; resting = 0 }

-- the bytes of ticks that change nothing: two for each, all the same
abbrev pub rest_bytes : SampleState → List ℕ
rest_bytes s = replicate (2 * s.resting) (bit_xor (level_bits s.levels) s.inverted)

-- ---- a tick

abbrev pub place_after : StepPos → Option StepPos → StepPos
place_after p None = p
place_after p (Some q) = q

abbrev pub sample_steps : SampleState → Option StepPos → Steps
sample_steps s told = steps_of s.levels.directions (step_between s.position (place_after s.position told))

abbrev pub changed_by : SampleState → SampleTick → SampleState
changed_by s t = record {
  inverted = s.inverted;
  position = place_after s.position t.position;
  levels = levels_in s.levels (sample_steps s t.position) t.switch;
  resting = 0;
}

abbrev pub changed_bytes : SampleState → SampleTick → List ℕ
changed_bytes s t = tick_bytes s.inverted (levels_in s.levels (sample_steps s t.position) t.switch)
    (sample_steps s t.position)

abbrev pub rested : ℕ → SampleState → SampleState
rested n s = record s { resting = s.resting + n }

-- the state after the bytes of the ticks that changed nothing are written
abbrev pub settled : SampleState → SampleState
settled s = record s { resting = 0 }

-- a tick that changes nothing is counted; before any other tick the bytes of the counted ones are
-- added
abbrev pub after_sample : SampleState → SampleTick → SampleState
after_sample s t = if is_rest t then rested 1 s else changed_by s t

abbrev pub sample_text : SampleState → SampleTick → List ℕ
sample_text s t = if is_rest t then [] else rest_bytes s ++ changed_bytes s t

-- ---- several

abbrev pub after_samples : SampleState → List SampleTick → SampleState
after_samples s [] = s
after_samples s (t ∷ ticks) = after_samples (after_sample s t) ticks

abbrev pub samples_text : SampleState → List SampleTick → List ℕ
samples_text s [] = []
samples_text s (t ∷ ticks) = sample_text s t ++ samples_text (after_sample s t) ticks

abbrev pub switches_of : List SampleTick → List Switch
switches_of ticks = map (λ (t : SampleTick). t.switch) ticks

abbrev pub positions_of : List SampleTick → List (Option StepPos)
positions_of ticks = map (λ (t : SampleTick). t.position) ticks
