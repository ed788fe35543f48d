-- The text of a log whose lines begin with their ticks. Our own format.
use Rattle.std.specs.Prelude.{ℕ, ◌+◌, ◌-◌, ◌^◌, min, List, [], ◌∷◌, ◌++◌, decimal, codes}
use Rattle.std.specs.Prelude.{Option, Some, None, Ok, Err}
use Rattle.ngc_fixed_length.specs.declared.points.StepPos.{StepPos}
use Rattle.ngc_events.specs.declared.reply.Ending.{Ending}
use Rattle.ngc_events.specs.declared.reply.Reply.TheVariants.{Loaded, Ticked, Held, Resumed}
use Rattle.ngc_events.specs.declared.reply.Reply.TheVariants.{Overridden, Switched, Started}
use Rattle.ngc_machine_model.specs.Step.{Outcome}
use Rattle.ngc_run_through.specs.Log.{ending_text, position_text, text_of}

-- the number of ticks before the event of a line took effect, and a space
abbrev pub time_text : ℕ → List ℕ
time_text ticks = decimal ticks ++ codes " "

abbrev pub timed_position : ℕ → Option StepPos → List ℕ
timed_position ticks None = []
timed_position ticks (Some p) = time_text ticks ++ position_text (Some p)

abbrev pub timed_ending : ℕ → Option Ending → List ℕ
timed_ending ticks None = []
timed_ending ticks (Some ending) = time_text ticks ++ ending_text (Some ending)

-- the lines of the log for an outcome, each with its ticks in front
abbrev pub timed_text : ℕ → Outcome → List ℕ
timed_text ticks (Ok (Ticked p ending)) = timed_position ticks p ++ timed_ending ticks ending
timed_text ticks (Ok (Loaded k)) = time_text ticks ++ text_of (Ok (Loaded k))
timed_text ticks (Ok Held) = time_text ticks ++ text_of (Ok Held)
timed_text ticks (Ok Resumed) = time_text ticks ++ text_of (Ok Resumed)
timed_text ticks (Ok (Overridden n)) = time_text ticks ++ text_of (Ok (Overridden n))
timed_text ticks (Ok (Switched on)) = time_text ticks ++ text_of (Ok (Switched on))
timed_text ticks (Ok Started) = time_text ticks ++ text_of (Ok Started)
timed_text ticks (Err e) = time_text ticks ++ text_of (Err e)

-- the most ticks that are counted; the count stays there
abbrev pub MOST_TICKS : ℕ
MOST_TICKS = 2 ^ 64 - 1

-- the number of ticks after an event with this outcome
abbrev pub ticks_with : ℕ → Outcome → ℕ
ticks_with ticks (Ok (Ticked p ending)) = min (ticks + 1) MOST_TICKS
ticks_with ticks (Ok (Loaded k)) = ticks
ticks_with ticks (Ok Held) = ticks
ticks_with ticks (Ok Resumed) = ticks
ticks_with ticks (Ok (Overridden n)) = ticks
ticks_with ticks (Ok (Switched on)) = ticks
ticks_with ticks (Ok Started) = ticks
ticks_with ticks (Err e) = ticks

abbrev pub ticks_after : ℕ → List Outcome → ℕ
ticks_after ticks [] = ticks
ticks_after ticks (o ∷ outcomes) = ticks_after (ticks_with ticks o) outcomes

-- the log of outcomes that follow this number of ticks
abbrev pub timed_log : ℕ → List Outcome → List ℕ
timed_log ticks [] = []
timed_log ticks (o ∷ outcomes) = timed_text ticks o ++ timed_log (ticks_with ticks o) outcomes
