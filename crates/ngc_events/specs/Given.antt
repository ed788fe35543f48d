-- How the result of reading an events file relates to the events of its text. Our own.
use Rattle.std.specs.Prelude.{◌≡◌, List, Vec, Result, Ok, Err}
use Rattle.ngc_events.specs.declared.event.EventLine.{EventLine}
use Rattle.ngc_events.specs.declared.fault.EventsFault.{EventsFault}
use Rattle.ngc_events.specs.declared.fault.EventsFault.TheVariants.{BadLine, TooManyLines, Memory}

-- the result is that of the text, unless memory ran out
abbrev pub EventsResultIs : {A : Type 0} → Result (Vec EventLine A) EventsFault →
    Result (List EventLine) EventsFault → Type 0
EventsResultIs (Ok events) says = says ≡ Ok events.items
EventsResultIs (Err (BadLine number)) says = says ≡ Err (BadLine number)
EventsResultIs (Err TooManyLines) says = says ≡ Err TooManyLines
EventsResultIs (Err Memory) says = Unit {0}
