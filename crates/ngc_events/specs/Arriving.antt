-- Events whose text arrives in pieces of any size. Our own.
use Rattle.std.specs.Prelude.{◌≡◌, ◌⊎◌, ℕ, ◌+◌, ◌-◌, ◌*◌, ◌^◌, ◌<◌, ◌==◌, List, [], ◌∷◌, ◌++◌, length}
use Rattle.std.specs.Prelude.{Option, Some, None, Result, Ok, Err, IsTrue, Bool, not}
use Rattle.std.specs.Borrow.{Bor}
use Rattle.std.specs.List.{list_all}
use Rattle.ngc_events.specs.declared.event.EventLine.{EventLine}
use Rattle.ngc_events.specs.declared.fault.EventsFault.{EventsFault}
use Rattle.ngc_events.specs.declared.fault.EventsFault.TheVariants.{BadLine, TooManyLines, Memory}
use Rattle.ngc_events.specs.Events.{parsed_event}
use Rattle.ngc_events.specs.Spelling.{events_text, is_given}

-- the length of the longest line of an event, as `tick 1000000` and `override 255`
abbrev pub LONGEST_LINE : ℕ
LONGEST_LINE = 12

-- no byte is a line feed
abbrev pub is_feedless : List ℕ → Bool
is_feedless text = list_all (λ b. not (b == 10)) text

-- bytes that a line feed splits
pub record IsSplit (bytes line after : List ℕ) : Type 0 where
  pub feedless : IsTrue (is_feedless line)
  pub parts : bytes ≡ line ++ 10 ∷ after

-- the number of complete lines, and the bytes of the next line that have arrived
pub record Arriving : Type 0 where
  pub complete : ℕ
  pub begun : List ℕ

-- A text is the lines of these events, and a prefix of another line. By the law `IsOneWriting` it
-- lists these events up to that line, just as the text of an events file does.
pub record HaveArrived (text : List ℕ) (lines : List EventLine) (now : Arriving) : Type 0 where
  pub spelled : text ≡ events_text lines ++ now.begun
  pub given : IsTrue (list_all (λ (line : EventLine). is_given line.event line.times) lines)
  pub feedless : IsTrue (is_feedless now.begun)
  pub counted : now.complete ≡ length lines

-- a text begins with the lines of these events
pub record Begins (text : List ℕ) (lines : List EventLine) : Type 0 where
  pub after : List ℕ
  pub spelled : text ≡ events_text lines ++ after
  pub given : IsTrue (list_all (λ (line : EventLine). is_given line.event line.times) lines)

-- the first line of a text is no event, whatever follows the text
pub record IsNoEvent (text : List ℕ) : Type 0 where
  pub line : List ℕ
  pub after : List ℕ
  pub splits : text ≡ line ++ after
  pub feedless : IsTrue (is_feedless line)
  pub wrong : (LONGEST_LINE < length line) ⊎
      ((parsed_event line ≡ None) × (rest : List ℕ) × (after ≡ 10 ∷ rest))

-- a text is the lines of these events, and then a line, of this number, that is no event
pub record IsWrongAfter (text : List ℕ) (lines : List EventLine) (at : ℕ) : Type 0 where
  pub wrong : List ℕ
  pub spelled : text ≡ events_text lines ++ wrong
  pub given : IsTrue (list_all (λ (line : EventLine). is_given line.event line.times) lines)
  pub no_event : IsNoEvent wrong
  pub number : at ≡ length lines + 1

-- the largest number of lines that are counted
abbrev pub MOST_LINES : ℕ
MOST_LINES = 2 ^ 64 - 1

-- why no event is read after these
abbrev pub StopsAfter : List ℕ → List EventLine → EventsFault → Type 0
StopsAfter text lines (BadLine number) = IsWrongAfter text lines number
StopsAfter text lines TooManyLines = Begins text lines × (length lines ≡ MOST_LINES)
StopsAfter text lines Memory = ⊥

-- the most bytes that may have arrived, if each complete line has the greatest length
abbrev pub filled : Arriving → ℕ
filled now = (LONGEST_LINE + 1) * now.complete + length now.begun

-- the most bytes that may arrive at all
abbrev pub MOST_TEXT : ℕ
MOST_TEXT = (LONGEST_LINE + 1) * MOST_LINES + LONGEST_LINE

-- the first line that a piece completes, and the bytes after it
pub record TakesOne (text piece : List ℕ) (lines : List EventLine) (line : EventLine)
    (rest : List ℕ) (new : Arriving) : Type 0 where
  pub front : List ℕ
  pub splits : piece ≡ front ++ rest
  pub arrived : HaveArrived (text ++ front) (lines ++ line ∷ []) new
  pub shorter : length rest < length piece

-- the result for a piece that follows a text
abbrev pub Takes : List ℕ → List EventLine → List ℕ → Arriving →
    Result (Option (EventLine × Bor (List ℕ))) EventsFault → Type 0
Takes text lines piece new (Ok None) = HaveArrived (text ++ piece) lines new
Takes text lines piece new (Ok (Some (line, rest))) =
    TakesOne text piece lines line rest.now new
Takes text lines piece new (Err fault) = StopsAfter (text ++ piece) lines fault

-- a text is the lines of these events, and then a line of this number that lacks its line feed
pub record IsUnended (text : List ℕ) (lines : List EventLine) (at : ℕ) : Type 0 where
  pub begun : List ℕ
  pub spelled : text ≡ events_text lines ++ begun
  pub some : 0 < length begun
  pub number : at ≡ length lines + 1

-- the result after all of a text has arrived
abbrev pub Ends : List ℕ → List EventLine → Result (Unit {0}) EventsFault → Type 0
Ends text lines (Ok done) = text ≡ events_text lines
Ends text lines (Err (BadLine number)) = IsUnended text lines number
Ends text lines (Err TooManyLines) = length lines ≡ MOST_LINES
Ends text lines (Err Memory) = ⊥
