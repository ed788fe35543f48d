-- A dump that continues from tick to tick, as positions are commanded. Our own.
use Rattle.std.specs.Prelude.{◌≡◌, ℕ, ◌+◌, ◌*◌, ◌≤◌, ◌-ℤ◌, List, [], ◌∷◌, ◌++◌, length, Option}
use Rattle.std.specs.Prelude.{Some, None}
use Rattle.ngc_fixed_length.specs.declared.points.StepPos.{StepPos}
use Rattle.ngc_pulses.specs.declared.axis_step.Directions.{Directions}
use Rattle.ngc_pulses.specs.declared.axis_step.Steps.{Steps}
use Rattle.ngc_pulses.specs.Vcd.{Change, steps_of, directions_after, tick_changes, dumped, all_down}
use Rattle.ngc_pulses.specs.Vcd.{stamp}

-- the movement of each axis from p to q
abbrev pub step_between : StepPos → StepPos → StepPos
step_between p q = record { x = q.x -ℤ p.x; y = q.y -ℤ p.y; z = q.z -ℤ p.z }

-- the pulses of ticks from a position on, each of which leads to a position or stays
abbrev pub pulses_over : StepPos → List (Option StepPos) → List StepPos
pulses_over p [] = []
pulses_over p (None ∷ ticks) = step_between p p ∷ pulses_over p ticks
pulses_over p (Some q ∷ ticks) = step_between p q ∷ pulses_over q ticks

-- the half tick that is stamped last
abbrev pub last_half : ℕ → List Change → ℕ
last_half last [] = last
last_half last (c ∷ cs) = last_half c.half cs

-- the state of a dump after some ticks
pub record DumpState : Type 0 where
  pub ticks_per_second : ℕ
  pub ticks : ℕ
  pub position : StepPos
  pub directions : Directions
  pub stamped : ℕ

abbrev pub first_state : ℕ → StepPos → DumpState
first_state ticks_per_second position =
    record {
      ticks_per_second = ticks_per_second;
      ticks = 0;
      position = position;
      directions = all_down;
      stamped = 0;
    }

-- ---- a tick

abbrev pub steps_to : DumpState → StepPos → Steps
steps_to d q = steps_of d.directions (step_between d.position q)

abbrev pub tick_text : DumpState → Option StepPos → List ℕ
tick_text d None = []
tick_text d (Some q) = dumped d.ticks_per_second d.stamped (tick_changes d.ticks (steps_to d q))

abbrev pub after_tick : DumpState → Option StepPos → DumpState
after_tick d None = record d { ticks = d.ticks + 1 }
after_tick d (Some q) = record {
  ticks_per_second = d.ticks_per_second;
  ticks = d.ticks + 1;
  position = q;
  directions = directions_after (steps_to d q);
  stamped = last_half d.stamped (tick_changes d.ticks (steps_to d q));
}

-- ---- several

abbrev pub ticks_text : DumpState → List (Option StepPos) → List ℕ
ticks_text d [] = []
ticks_text d (t ∷ ticks) = tick_text d t ++ ticks_text (after_tick d t) ticks

abbrev pub after_ticks : DumpState → List (Option StepPos) → DumpState
after_ticks d [] = d
after_ticks d (t ∷ ticks) = after_ticks (after_tick d t) ticks

abbrev pub closing_text : DumpState → List ℕ
closing_text d = stamp d.ticks_per_second (2 * d.ticks + 2)

-- ---- changes that are added to a text

pub record AddsChanges (ticks_per_second : ℕ) (cs : List Change) (last now : ℕ)
    (before after : List ℕ) : Type 0 where
  pub text : after ≡ before ++ dumped ticks_per_second last cs
  pub stamped : now ≡ last_half last cs
  pub short : length after ≤ length before + 50 * length cs
