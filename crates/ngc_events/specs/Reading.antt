-- The results of reading parts of a text. Our own.
use Rattle.std.specs.Prelude.{◌≡◌, ◌<◌, ◌+◌, ◌==◌, ℕ, List, ◌++◌, length, Result, Ok, Err}
use Rattle.std.specs.Borrow.{Bor}
use Rattle.std.specs.List.{slice_split}
use Rattle.ngc_events.specs.declared.event.EventLine.{EventLine}
use Rattle.ngc_events.specs.declared.fault.EventsFault.{EventsFault}
use Rattle.ngc_events.specs.Events.{parsed_lines, prefixed}

-- the events of a text whose first line has this number
abbrev pub parsed_from : ℕ → List ℕ → Result (List EventLine) EventsFault
parsed_from number text = parsed_lines number (slice_split (λ b. b == 10) text)

-- these lines in front of the others
abbrev pub all_prefixed : List EventLine → Result (List EventLine) EventsFault →
    Result (List EventLine) EventsFault
all_prefixed lines (Ok others) = Ok (lines ++ others)
all_prefixed lines (Err fault) = Err fault

-- the first line's event and the text after the line, or the fault of the line; the text isn't
-- empty
abbrev pub TakesLine : Result (EventLine × Bor (List ℕ)) EventsFault → ℕ → List ℕ → Type 0
TakesLine (Ok r) number text =
    (parsed_from number text ≡ prefixed (Ok r.0) (parsed_from (number + 1) r.1.now)) ×
    (length r.1.now < length text)
TakesLine (Err fault) number text = parsed_from number text ≡ Err fault
