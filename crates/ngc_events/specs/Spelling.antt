-- The text of a list of events, and the law that only this text is read as the list. Our own.
use Rattle.std.specs.Prelude.{◌≡◌, ◌↔◌, ◌≤◌, ℕ, nat_le, ◌==◌, List, ◌++◌, length, flat_map, decimal}
use Rattle.std.specs.Prelude.{codes, Ok}
use Rattle.std.specs.Prelude.{IsTrue, Bool, true, false, ◌&&◌}
use Rattle.std.specs.List.{list_all}
use Rattle.ngc_events.specs.declared.event.Event.{Event}
use Rattle.ngc_events.specs.declared.event.Event.TheVariants.{Load, Tick, Hold, Resume, Override}
use Rattle.ngc_events.specs.declared.event.Event.TheVariants.{StopSwitch, Start}
use Rattle.ngc_events.specs.declared.event.EventLine.{EventLine}
use Rattle.ngc_events.specs.Events.{parsed_events}

-- the line of an event that occurs `times` times
abbrev pub words_of : Event → ℕ → List ℕ
words_of Load times = codes "load"
words_of Tick times = codes "tick " ++ decimal times
words_of Hold times = codes "hold"
words_of Resume times = codes "resume"
words_of (Override percent) times = codes "override " ++ decimal percent
words_of (StopSwitch true) times = codes "switch on"
words_of (StopSwitch false) times = codes "switch off"
words_of Start times = codes "start"

abbrev pub event_text : EventLine → List ℕ
event_text line = words_of line.event line.times ++ codes "\n"

abbrev pub events_text : List EventLine → List ℕ
events_text lines = flat_map event_text lines

-- whether a line may have an event this number of times
abbrev pub is_given : Event → ℕ → Bool
is_given Load times = times == 1
is_given Tick times = nat_le 1 times && nat_le times 1000000
is_given Hold times = times == 1
is_given Resume times = times == 1
is_given (Override percent) times = nat_le percent 255 && (times == 1)
is_given (StopSwitch on) times = times == 1
is_given Start times = times == 1

-- the events that a file can hold
pub record AreEvents (lines : List EventLine) : Type 0 where
  pub count : length lines ≤ 1000000
  pub each : IsTrue (list_all (λ (line : EventLine). is_given line.event line.times) lines)

-- a text is read as events exactly if they are events that a file can hold, and it is their text
abbrev pub IsOneWriting : Type 0
IsOneWriting =
    (text : List ℕ) (lines : List EventLine)
    → (parsed_events text ≡ Ok lines) ↔ (AreEvents lines × (text ≡ events_text lines))
