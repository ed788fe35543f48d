-- The events of the bytes of an events file: one for each line, or the first fault. Our own.
use Rattle.std.specs.Prelude.{ℕ, zero, suc, ◌+◌, nat_le, ◌==◌, List, [], ◌∷◌, length, take, drop}
use Rattle.std.specs.Prelude.{codes, Option, Some, None}
use Rattle.std.specs.Prelude.{Result, Ok, Err, Bool, true, false, if◌then◌else◌}
use Rattle.std.specs.List.{slice_split}
use Rattle.std.specs.Option.{option_map, ok_or}
use Rattle.std.specs.Str.{bytes_eq}
use Rattle.ngc_text.specs.Decimals.{decimal_in}
use Rattle.ngc_events.specs.declared.event.Event.{Event}
use Rattle.ngc_events.specs.declared.event.Event.TheVariants.{Load, Tick, Hold, Resume, Override}
use Rattle.ngc_events.specs.declared.event.Event.TheVariants.{StopSwitch, Start}
use Rattle.ngc_events.specs.declared.event.EventLine.{EventLine}
use Rattle.ngc_events.specs.declared.fault.EventsFault.{EventsFault}
use Rattle.ngc_events.specs.declared.fault.EventsFault.TheVariants.{BadLine, TooManyLines}

-- ---- numbers

-- a number, if it is at most the limit
abbrev pub up_to : ℕ → Option ℕ → Option ℕ
up_to limit None = None
up_to limit (Some n) = if nat_le n limit then Some n else None

-- the number that a text is in decimal digits, if it is at most the limit
abbrev pub number_to : ℕ → List ℕ → Option ℕ
number_to limit text = up_to limit (decimal_in text)

-- ---- a line

abbrev pub once : Event → EventLine
once event = record { event = event; times = 1 }

abbrev pub ticks : Option ℕ → Option EventLine
ticks None = None
ticks (Some zero) = None
ticks (Some (suc n)) = Some (record { event = Tick; times = suc n })

abbrev pub override : Option ℕ → Option EventLine
override number = option_map (λ n. once (Override n)) number

abbrev pub begins : List ℕ → List ℕ → Bool
begins front line = bytes_eq (take (length front) line) front

-- the rest of a line after such a front
abbrev pub afterwards : List ℕ → List ℕ → List ℕ
afterwards front line = drop (length front) line

-- the event of a word
unfoldable pub parsed_word : List ℕ → Option Event
parsed_word word =
    if bytes_eq word (codes "load") then Some Load else
    if bytes_eq word (codes "hold") then Some Hold else
    if bytes_eq word (codes "resume") then Some Resume else
    if bytes_eq word (codes "start") then Some Start else
    if bytes_eq word (codes "switch on") then Some (StopSwitch true) else
    if bytes_eq word (codes "switch off") then Some (StopSwitch false) else None

-- the event of a line without its line feed
unfoldable pub parsed_event : List ℕ → Option EventLine
parsed_event line =
    if begins (codes "tick ") line then ticks (number_to 1000000 (afterwards (codes "tick ") line)) else
    if begins (codes "override ") line then override
    (number_to 255 (afterwards (codes "override ") line)) else
    option_map once (parsed_word line)

-- ---- the lines of a text

-- the result for the line of this number; a line after the 1,000,000th is too many, whatever it is
abbrev pub parsed_line : ℕ → Option EventLine → Result EventLine EventsFault
parsed_line number said =
    if nat_le number 1000000 then ok_or said (BadLine number) else Err TooManyLines

-- the first line's event in front of those of the other lines
abbrev pub prefixed : Result EventLine EventsFault → Result (List EventLine) EventsFault →
    Result (List EventLine) EventsFault
prefixed (Ok line) (Ok others) = Ok (line ∷ others)
prefixed (Ok line) (Err fault) = Err fault
prefixed (Err fault) others = Err fault

-- the events of lines, of which the first has this number; the last part is what follows the last
-- line feed, and must be empty
unfoldable pub parsed_lines : ℕ → List (List ℕ) → Result (List EventLine) EventsFault
parsed_lines number [] = Ok []
parsed_lines number (last ∷ []) =
    if length last == 0 then Ok [] else prefixed (parsed_line number None) (Ok [])
parsed_lines number (line ∷ next ∷ lines) =
    prefixed (parsed_line number (parsed_event line)) (parsed_lines (number + 1) (next ∷ lines))

unfoldable pub parsed_events : List ℕ → Result (List EventLine) EventsFault
parsed_events text = parsed_lines 1 (slice_split (λ b. b == 10) text)
