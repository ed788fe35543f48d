-- Reading a program in pieces: a state, and the remaining text.
use Rattle.std.specs.Prelude.{◌≡◌, ◌≢◌, ℕ, ◌+◌, ◌-◌, ◌*◌, ◌≤◌, ◌<◌, nat_le, ◌==◌, ◌&&◌, ◌||◌, List}
use Rattle.std.specs.Prelude.{[], ◌∷◌, ◌++◌, length, Bool, true, false, Option, Some, None, Result}
use Rattle.std.specs.Prelude.{Ok, Err, if◌then◌else◌}
use Rattle.std.specs.List.{AllByRecursion}
use Rattle.ngc_line_reader.specs.declared.program.fault.ReadFault.{ReadFault}
use Rattle.ngc_line_reader.specs.declared.program.fault.ReadFault.TheVariants as faults
use Rattle.ngc_line_reader.specs.declared.program.phase.Phase.{Phase}
use Rattle.ngc_line_reader.specs.declared.program.phase.Phase.TheVariants.{Start, Marked, Unmarked}
use Rattle.ngc_line_reader.specs.declared.program.loader.Step.{Step}
use Rattle.ngc_line_reader.specs.declared.program.loader.Step.TheVariants.{More, End}
use Rattle.ngc_line_reader.specs.declared.program.loader.LinesSoFar.{LinesSoFar}
use Rattle.ngc_line_reader.specs.declared.program.loader.Loader.{Loader}
use Rattle.ngc_line_reader.specs.Text.{text}
use Rattle.ngc_line_reader.specs.Program.{Line, is_percent_text, is_blank_text}
use Rattle.ngc_line_reader.specs.ProgramText.{ProgramText, Outcome, fault_of, fault_or}
use Rattle.ngc_line_reader.specs.ProgramView.{lines_in, FaultIs}
use Rattle.ngc_line_reader.specs.Stored.{line_of}

abbrev pub is_percent : List ℕ → Bool
is_percent bytes = nat_le (length bytes) 256 && is_percent_text (text bytes)

abbrev pub is_blank : List ℕ → Bool
is_blank bytes = is_blank_text (text bytes)

-- the bytes after the leading spaces and tabs
abbrev pub after_blanks : List ℕ → List ℕ
after_blanks [] = []
after_blanks (b ∷ rest) = if (b == 32) || (b == 9) then after_blanks rest else b ∷ rest

-- the number of the line after `done` lines: in a marked file the first % line is in front of it
abbrev pub number_in : Phase → ℕ → ℕ
number_in Start done = done + 1
number_in Marked done = done + 2
number_in Unmarked done = done + 1

abbrev pub phase_after : Phase → List ℕ → Phase
phase_after Start bytes = if is_blank bytes then Start else Unmarked
phase_after Marked bytes = Marked
phase_after Unmarked bytes = Unmarked

abbrev pub is_marking : Phase → Bool
is_marking Start = false
is_marking Marked = true
is_marking Unmarked = false

abbrev pub ended_in : Phase → List Line → ProgramText
ended_in phase found = record { lines = found; marked = is_marking phase }

-- at the file's end: a marked file lacks the second %
abbrev pub at_end : Phase → List Line → Outcome
at_end Start found = Ok (ended_in Start found)
at_end Marked found = Err faults.NoEnd
at_end Unmarked found = Ok (ended_in Unmarked found)

-- a % line: the first one marks the file, and a later one ends the text
abbrev pub at_percent : Phase → List Line → Outcome → Outcome
at_percent Start found more = more
at_percent Marked found more = Ok (ended_in Marked found)
at_percent Unmarked found more = Ok (ended_in Unmarked found)

abbrev pub with_line : List Line → Line → List Line
with_line found line = found ++ (line ∷ [])

-- the result of the lines of a file after `done` lines that were found
unfoldable pub walk : Phase → ℕ → List Line → List (List ℕ) → Outcome
walk phase done found [] = at_end phase found
walk phase done found (bytes ∷ lines) =
    if is_percent bytes then at_percent phase found (walk Marked done found lines) else
    fault_or (fault_of done (line_of (number_in phase done) bytes))
    (walk (phase_after phase bytes) (done + 1)
    (with_line found (line_of (number_in phase done) bytes)) lines)

-- the result of the lines so far, if the text ends here
abbrev pub ended : {A : Type 0} → LinesSoFar A → ProgramText
ended l = ended_in l.phase (lines_in l.lines)

-- the result of these lines after those so far
abbrev pub walked : {A : Type 0} → LinesSoFar A → List (List ℕ) → Outcome
walked l lines = walk l.phase (length (lines_in l.lines)) (lines_in l.lines) lines

-- the next line
abbrev pub next_line : {A : Type 0} → LinesSoFar A → List ℕ → Line
next_line l bytes = line_of (number_in l.phase (length (lines_in l.lines))) bytes

-- the next line is accepted
pub record TakesLine {A : Type 0} (old new : LinesSoFar A) (bytes : List ℕ) : Type 0 where
  pub sound : fault_of (length (lines_in old.lines)) (next_line old bytes) ≡ None
  pub few : length (lines_in old.lines) < 100000
  pub short : length bytes ≤ 256
  pub lines : lines_in new.lines ≡ with_line (lines_in old.lines) (next_line old bytes)
  pub phase : new.phase ≡ phase_after old.phase bytes

-- a fault is the line's, unless it is lack of memory
abbrev pub RefusedBy : Option ReadFault → ReadFault → Type 0
RefusedBy why (faults.Line n f) = why ≡ Some (faults.Line n f)
RefusedBy why faults.TooManyLines = why ≡ Some faults.TooManyLines
RefusedBy why faults.NoEnd = ⊥
RefusedBy why faults.Memory = Unit {0}
RefusedBy why faults.Device = ⊥

-- no byte is a line feed
abbrev pub HasNoLineFeed : List ℕ → Type 0
HasNoLineFeed bytes = AllByRecursion (λ b. b ≢ 10) bytes

-- the first line of some bytes begins in this way
pub record GoesOn (lines : List ℕ → List (List ℕ)) (line rest : List ℕ) : Type 0 where
  pub more : List ℕ
  pub afterwards : List (List ℕ)
  pub split : lines (line ++ rest) ≡ (line ++ more) ∷ afterwards

-- A way to split bytes into lines: a line feed ends one, and one that is already too long continues
-- with whatever follows.
pub record PartsLines (lines : List ℕ → List (List ℕ)) : Type 0 where
  pub ends : (line rest : List ℕ) → HasNoLineFeed line → lines (line ++ (10 ∷ rest)) ≡ line ∷ lines rest
  pub long : (line rest : List ℕ) → HasNoLineFeed line → 256 < length line → GoesOn lines line rest

-- the result of these bytes after those so far, split into lines in this way
abbrev pub resumed : {A : Type 0} → (List ℕ → List (List ℕ)) → Loader A → List ℕ → Outcome
resumed lines l bytes = walked l.found (lines (l.cut.items ++ bytes))

-- a fault that stays whatever follows
abbrev pub standing : Outcome → Option ReadFault
standing (Ok text) = None
standing (Err (faults.Line n f)) = Some (faults.Line n f)
standing (Err faults.NoEnd) = None
standing (Err faults.TooManyLines) = Some faults.TooManyLines
standing (Err faults.Memory) = None
standing (Err faults.Device) = None

-- a fault of the lines so far, or lack of memory
abbrev pub IsLineFault : ReadFault → Type 0
IsLineFault fault = (fault ≢ faults.NoEnd) × (fault ≢ faults.Device)

-- bytes that a line feed splits
pub record IsSplit (bytes line afterwards : List ℕ) : Type 0 where
  pub feedless : HasNoLineFeed line
  pub parts : bytes ≡ line ++ (10 ∷ afterwards)

pub record IsLoading {A : Type 0} (l : Loader A) : Type 0 where
  pub feedless : HasNoLineFeed l.cut.items
  pub short : length l.cut.items ≤ 256

abbrev pub phase_space : Phase → ℕ
phase_space Start = 257
phase_space Marked = 0
phase_space Unmarked = 0

-- the greatest number of further bytes
abbrev pub space_after : {A : Type 0} → LinesSoFar A → ℕ
space_after l = 257 * (100001 - length (lines_in l.lines)) + phase_space l.phase

abbrev pub room_of : {A : Type 0} → Loader A → ℕ
room_of l = space_after l.found - length l.cut.items

-- after a step the result of the text is still open, or certain
abbrev pub StepResultIs : Result Step ReadFault → Outcome → Outcome → ProgramText → Type 0
StepResultIs (Ok More) before after now = before ≡ after
StepResultIs (Ok End) before after now = before ≡ Ok now
StepResultIs (Err fault) before after now = FaultIs fault before
