-- A line of another control: its parts are read, its values computed, and its words become plain
-- lines, which are executed. Our own.
use Rattle.std.specs.Prelude.{ℕ, zero, suc, ◌*◌, ◌==◌, nat_le, ℤ, pos, ◌&&◌, ◌||◌, List, [], ◌∷◌, ◌++◌, length}
use Rattle.std.specs.Prelude.{Bool, true, false, Option, Some, None, is_some, option_map, Result, Ok, Err}
use Rattle.std.specs.Prelude.{if◌then◌else◌}
use Rattle.std.specs.List.{list_any}
use Rattle.std.specs.Ordering.{int_eq}
use Rattle.ngc_machine_files.specs.Machine.{MachineFile}
use Rattle.ngc_line_reader.specs.declared.letter.Letter.TheVariants as letters
use Rattle.ngc_canned_cycles.specs.declared.cycle.CycleMove.{CycleMove}
use Rattle.ngc_canonical.specs.State.{Setup, State, start_state}
use Rattle.ngc_dialect_names.specs.declared.dialect.Dialect.{Dialect}
use Rattle.ngc_dialect_reader.specs.declared.part.Part.{Part}
use Rattle.ngc_dialect_reader.specs.declared.part.PartKind.{PartKind}
use Rattle.ngc_dialect_reader.specs.declared.part.PartKind.TheVariants as kinds
use Rattle.ngc_dialect_reader.specs.Line.{line_of}
use Rattle.ngc_dialect_reader.specs.Table.{switches_of}
use Rattle.ngc_dialect_reader.specs.Text.{text}
use Rattle.ngc_dialect_parameters.specs.declared.fault.EvaluationFault.{EvaluationFault}
use Rattle.ngc_dialect_parameters.specs.declared.statement.Statement.{Statement}
use Rattle.ngc_dialect_parameters.specs.declared.statement.Statement.TheVariants as statements
use Rattle.ngc_dialect_parameters.specs.declared.statement.Word.{Word}
use Rattle.ngc_dialect_numbers.specs.Numbers.{ONE}
use Rattle.ngc_dialect_parameters.specs.Known.{Known as Values, known_from}
use Rattle.ngc_dialect_parameters.specs.Evaluation.{Sums, line_values}
use Rattle.ngc_dialect_parameters.specs.Stored.{Stored}
use Rattle.ngc_dialect_parameters.specs.Storing.{none_stored, set_by_all}
use Rattle.ngc_dialect_path.specs.declared.path.Path.{Path}
use Rattle.ngc_dialect_path.specs.declared.step.PathStep.{PathStep}
use Rattle.ngc_dialect_path.specs.Paths.{held_line, programmed}
use Rattle.ngc_dialect_notes.specs.declared.kind.Kind.TheVariants as notes
use Rattle.ngc_dialect_notes.specs.declared.notes.Notes.{Notes}
use Rattle.ngc_dialect_notes.specs.Noted.{noted, statements_noted}
use Rattle.ngc_dialect_notes.specs.Notes.{counted, no_notes}
use Rattle.ngc_dialect_execution.specs.declared.run.Wanted.{Wanted}
use Rattle.ngc_dialect_path.specs.Steps.{Written, path_end, path_step}
use Rattle.ngc_dialect_drilling.specs.Holes.{cycle_of}
use Rattle.ngc_dialect_drilling.specs.Moves.{move_lines, stop_lines}
use Rattle.ngc_dialect_rules.specs.declared.code.Code.{Code}
use Rattle.ngc_dialect_rules.specs.declared.code.Code.TheVariants.{G}
use Rattle.ngc_dialect_rules.specs.declared.fault.Cause.TheVariants as rules
use Rattle.ngc_dialect_rules.specs.declared.front.Front.{Front}
use Rattle.ngc_dialect_rules.specs.declared.front.KeptSeries.{KeptSeries}
use Rattle.ngc_dialect_rules.specs.declared.front.Known.{Known}
use Rattle.ngc_dialect_rules.specs.declared.plan.LineCycle.{LineCycle}
use Rattle.ngc_dialect_rules.specs.declared.plan.LineResult.{LineResult}
use Rattle.ngc_dialect_rules.specs.declared.plain.Plain.{Plain}
use Rattle.ngc_dialect_rules.specs.declared.plain.Plain.TheVariants as plain
use Rattle.ngc_dialect_rules.specs.Faults.{about_code}
use Rattle.ngc_dialect_rules.specs.Front.{start_front}
use Rattle.ngc_dialect_rules.specs.Rules.{plain_lines}
use Rattle.ngc_dialect_saved.specs.declared.modes.SavedModes.{SavedModes}
use Rattle.ngc_dialect_saved.specs.declared.saving.Saving.{Saving}
use Rattle.ngc_dialect_saved.specs.declared.saving.Saving.TheVariants.{Save, Forget, Restore, SaveToReturn}
use Rattle.ngc_dialect_saved.specs.declared.switches.Switches.{Switches}
use Rattle.ngc_dialect_saved.specs.Modes.{modes_now}
use Rattle.ngc_dialect_saved.specs.Restoring.{restoring}
use Rattle.ngc_dialect_saved.specs.Savings.{saving_code, saving_in}
use Rattle.ngc_dialect_saved.specs.Stack.{Stack, entered, forgotten, left, no_stack, returning, saved}
use Rattle.ngc_dialect_saved.specs.Switched.{start_switches, switches_after}
use Rattle.ngc_dialect_execution.specs.declared.beside.StepLines.{StepLines}
use Rattle.ngc_dialect_execution.specs.declared.beside.WaitingLine.{WaitingLine}
use Rattle.ngc_dialect_execution.specs.declared.fault.Cause.{Cause}
use Rattle.ngc_dialect_execution.specs.declared.fault.Cause.TheVariants as causes
use Rattle.ngc_dialect_execution.specs.declared.lines.Taken.{Taken}
use Rattle.ngc_dialect_execution.specs.declared.lines.Taken.TheVariants.{Done, HasFlow}
use Rattle.ngc_dialect_execution.specs.Executed.{PlainLine, Run, lines_at, run}
use Rattle.ngc_dialect_repeats.specs.declared.point.PolarEnd.{PolarEnd}
use Rattle.ngc_dialect_repeats.specs.declared.polar.PolarLine.{PolarLine}
use Rattle.ngc_dialect_repeats.specs.declared.refusal.PolarFault.{PolarFault}
use Rattle.ngc_dialect_repeats.specs.declared.refusal.PolarRefusal.{PolarRefusal}
use Rattle.ngc_dialect_repeats.specs.declared.turns.Turning.{Turning}
use Rattle.ngc_dialect_repeats.specs.Kept.{line_words}
use Rattle.ngc_dialect_repeats.specs.Polar.{end_of, has_polar, polar_line, polar_step}
use Rattle.ngc_dialect_repeats.specs.Turns.{turning_of, turn_step}
use Rattle.ngc_dialect_execution.specs.declared.fault.Refusal.{Refusal}
use Rattle.ngc_dialect_execution.specs.declared.fault.Refusal.TheVariants.{Because}
use Rattle.ngc_dialect_execution.specs.Faults.{◌>>=◌, caused, polar_caused, stored_cause}

-- what is known between two lines, besides the program's parameters
pub record Between : Type 0 where
  pub dialect : Dialect
  pub front : Front
  pub state : State
  pub path : Option Path
  pub waiting : List WaitingLine
  pub notes : Option Notes
  pub kept : Option (List PlainLine)
  pub polar : Option PolarEnd
  pub saved : Stack
  pub switches : Switches

abbrev pub nothing_wanted : Wanted
nothing_wanted = record { notes = false; lines = false }

-- what is collected while a program is executed begins empty
abbrev pub start_kept : Bool → Option (List PlainLine)
start_kept wanted = if wanted then Some [] else None

abbrev pub start_notes : Bool → Option Notes
start_notes wanted = if wanted then Some no_notes else None

-- what is known before the first line
abbrev pub start : Wanted → Dialect → MachineFile → Between
start w d machine = record {
  dialect = d;
  front = start_front d machine.home28 machine.home30;
  state = start_state machine;
  path = None;
  waiting = [];
  notes = start_notes w.notes;
  kept = start_kept w.lines;
  polar = None;
  saved = no_stack;
  switches = start_switches;
}

-- what is known between two lines of a program: also what it has set
pub record Progress : Type 0 where
  pub values : Stored
  pub between : Between

abbrev pub start_progress : Wanted → Dialect → MachineFile → Progress
start_progress w d machine = record { values = none_stored d; between = start w d machine }

-- ---- words

-- what the rules know
abbrev pub known_of : Between → Known
known_of b = record {
  dialect = b.dialect;
  front = b.front;
  modes = b.state.modes;
  frames = b.state.frames;
  place = b.state.place;
}

-- our own interpreter's state, with the plain lines that are kept
abbrev pub run_of : Between → Run
run_of b = record { state = b.state; kept = b.kept }

-- the same after plain lines, with what the dialect knows then
abbrev pub with_run : Between → Front → Run → Between
with_run b front r = record b { front = front; state = r.state; kept = r.kept }

abbrev pub with_notes : (Notes → Notes) → Between → Between
with_notes note b = record b { notes = option_map note b.notes }

-- plain lines, executed
abbrev pub plain_taken : Setup → ℕ → List Plain → Between → Result Between Cause
plain_taken setup line ps b = do
  r ← caused causes.Plain (run setup (lines_at line ps) (run_of b))
  Ok (with_run b b.front r)

-- a move of a canned cycle, by what is known before it
abbrev pub move_taken : Setup → ℕ → CycleMove → Between → Result Between Cause
move_taken setup line m b = do
  ps ← caused causes.Rule (move_lines (known_of b) m)
  plain_taken setup line ps b

-- moves in order
abbrev pub moves_taken : Setup → ℕ → List CycleMove → Between → Result Between Cause
moves_taken setup line [] b = Ok b
moves_taken setup line (m ∷ ms) b =
    move_taken setup line m b >>= λ c. moves_taken setup line ms c

abbrev pub with_series : KeptSeries → Between → Between
with_series kept b = record b { front = record b.front { series = Some kept } }

-- the moves of a canned cycle that begins, and then the stop of its line
unfoldable pub start_taken :
    Setup → ℕ → Option Code → KeptSeries → List CycleMove → Between → Result Between Cause
start_taken setup line stop kept moves b = do
  c ← moves_taken setup line moves (with_series kept b)
  plain_taken setup line (stop_lines stop) c

-- the canned cycle of a line
abbrev pub cycle_taken : Setup → ℕ → List Word → LineCycle → Between → Result Between Cause
cycle_taken setup line words cycle b = do
  start ← caused causes.Rule (cycle_of (known_of b) cycle.code words)
  start_taken setup line cycle.stop start.0 start.1 b

abbrev pub cycle_if : Setup → ℕ → List Word → Option LineCycle → Between → Result Between Cause
cycle_if setup line words None b = Ok b
cycle_if setup line words (Some cycle) b = cycle_taken setup line words cycle b

-- the line's plain lines, and then the moves of its canned cycle
unfoldable pub made_taken :
    Setup → ℕ → List Word → LineResult → List Plain → Between → Result Between Cause
made_taken setup line words made ps b = do
  r ← caused causes.Plain (run setup (lines_at line ps) (run_of b))
  cycle_if setup line words made.cycle (with_run b made.front r)

-- ---- beside a path: the end of a move waits for the next move, and plain lines wait with it

-- what waits, in order
unfoldable pub waiting_taken : Setup → List WaitingLine → Run → Result Run Cause
waiting_taken setup [] r = Ok r
waiting_taken setup (w ∷ ws) r =
    caused causes.Plain (run setup (lines_at w.line w.plain.items) r)
    >>= λ u. waiting_taken setup ws u

-- the held move, and then what waits for it
abbrev pub released : Setup → ℕ → List Plain → List WaitingLine → Run → Result Run Cause
released setup held made waiting r =
    caused causes.Plain (run setup (lines_at held made) r)
    >>= λ u. waiting_taken setup waiting u

-- the line's own plain lines, unless they wait
abbrev pub own_taken : Setup → Bool → ℕ → List Plain → Run → Result Run Cause
own_taken setup true line own r = Ok r
own_taken setup false line own r = caused causes.Plain (run setup (lines_at line own) r)

abbrev pub released_if :
    Setup → Bool → ℕ → List Plain → List WaitingLine → Run → Result Run Cause
released_if setup false held made waiting r = Ok r
released_if setup true held made waiting r = released setup held made waiting r

abbrev pub step_taken :
    Setup → StepLines → PathStep → Written → List WaitingLine → Run → Result Run Cause
step_taken setup at step w waiting r =
    released_if setup step.releases at.held w.made waiting r
    >>= λ u. own_taken setup step.waits at.own w.own u

-- at most 1,000 lines wait
abbrev pub with_waiting : ℕ → List Plain → List WaitingLine → Result (List WaitingLine) Cause
with_waiting line [] ws = Ok ws
with_waiting line (p ∷ ps) ws =
    if nat_le 1000 (length ws) then Err (causes.Rule (about_code rules.TooManyKept (G 410)))
    else Ok (ws ++ record { line = line; plain = record { items = p ∷ ps } } ∷ [])

-- what waits after a line: its own plain lines, or its stop
abbrev pub what_waits : PathStep → List Plain → List Plain
what_waits step own = if step.waits then own else stop_lines step.stop

abbrev pub still_waiting : Bool → List WaitingLine → List WaitingLine
still_waiting true ws = []
still_waiting false ws = ws

abbrev pub put_off : ℕ → PathStep → List Plain → List WaitingLine → Result (List WaitingLine) Cause
put_off line step own ws =
    with_waiting line (what_waits step own) (still_waiting step.releases ws)

abbrev pub with_step : Between → PathStep → Run → List WaitingLine → Between
with_step b step r ws =
    record b { front = step.front; state = r.state; kept = r.kept; path = step.path; waiting = ws }

unfoldable pub step_carried : Setup → StepLines → PathStep → Written → Between → Result Between Cause
step_carried setup at step w b = do
  r ← step_taken setup at step w b.waiting (run_of b)
  ws ← put_off at.own step w.own b.waiting
  Ok (with_step b step r ws)

abbrev pub step_lines : Option Path → ℕ → StepLines
step_lines path line = record { held = held_line path; own = line }

-- a line where cutter compensation is on, begins or ends
unfoldable pub path_taken : Setup → ℕ → List Word → Between → Result Between Cause
path_taken setup line words b = do
  x ← caused causes.Rule (path_step (known_of b) setup.tools line b.path words)
  step_carried setup (step_lines b.path line) x.0 x.1 b

-- ---- the words of a line

abbrev pub made_or_path :
    Setup → ℕ → List Word → LineResult × List Plain → Between → Result Between Cause
made_or_path setup line words made b =
    if is_some made.0.compensation then path_taken setup line words b
    else made_taken setup line words made.0 made.1 b

unfoldable pub plain_words_taken : Setup → ℕ → List Word → Between → Result Between Cause
plain_words_taken setup line words b = do
  made ← caused causes.Rule (plain_lines (known_of b) words)
  made_or_path setup line words made b

unfoldable pub words_executed : Setup → ℕ → List Word → Between → Result Between Cause
words_executed setup line words b =
    if is_some b.path then path_taken setup line words b
    else plain_words_taken setup line words b

-- the notes on a line, by what its words are read by
abbrev pub words_noted : ℕ → List Word → Between → Between
words_noted line words b = with_notes (noted line (programmed (known_of b) b.path) words) b

abbrev pub words_taken : Setup → ℕ → List Word → Between → Result Between Cause
words_taken setup line words b = words_executed setup line words (words_noted line words b)

-- M2, by which a program ends after its last line
abbrev pub END : List Plain
END = plain.Word (record { letter = letters.M; value = pos 2000000 }) ∷ plain.End ∷ []

-- a held move is made before the program ends
abbrev pub ended_path : Setup → Bool × List Plain → Between → Result Between Cause
ended_path setup e b =
    released_if setup e.0 (held_line b.path) e.1 b.waiting (run_of b)
    >>= λ r. Ok (with_run b b.front r)

unfoldable pub path_ended : Setup → Between → Result Between Cause
path_ended setup b = do
  e ← caused causes.Rule (path_end (known_of b) b.path)
  ended_path setup e b

-- the note on a program that hasn't ended before
abbrev pub end_noted : ℕ → Between → Between
end_noted line b =
    if b.state.ended then b else with_notes (counted line notes.ProgramEnd) b

unfoldable pub ended_at : Setup → ℕ → Between → Result Between Cause
ended_at setup line b = do
  c ← path_ended setup (end_noted line b)
  plain_taken setup line END c

-- ---- a line

-- the values of the control's parameters are unknown
abbrev pub known_values : Stored → Values
known_values k = known_from k (λ _. None) (λ _. None)

abbrev pub without_place : EvaluationFault → Cause
without_place e = causes.Value e.cause

-- what a line says, with its values, and the arguments of an O word
pub record Said : Type 0 where
  pub statements : List Statement
  pub arguments : List (Option ℤ)

abbrev pub said_of : Sums → Said
said_of sums = record { statements = sums.done; arguments = sums.stack }

-- what a line with this text and these parts says
unfoldable pub said_at : Stored → List ℕ → List Part → Result Said Cause
said_at k text parts =
    caused without_place (line_values (known_values k) text parts) >>= λ sums. Ok (said_of sums)

-- the words of statements
abbrev pub words_of : List Statement → List Word
words_of [] = []
words_of (statements.Word w ∷ rest) = w ∷ words_of rest
words_of (_ ∷ rest) = words_of rest

-- the M code with this number
abbrev pub is_m : ℕ → Word → Bool
is_m number w = (w.letter == 77) && int_eq w.value (pos (number * ONE))

-- whether a statement decides which line is next; GRBL has no M98 and no M99
abbrev pub decides : Dialect → Statement → Bool
decides d (statements.Word w) = (switches_of d).labels && (is_m 98 w || is_m 99 w)
decides d (statements.Flow keyword count) = true
decides d (statements.GoTo n) = true
decides d (statements.Loop holds n) = true
decides d (statements.EndLoop n) = true
decides d _ = false

abbrev pub has_flow : Dialect → List Statement → Bool
has_flow d said = list_any (decides d) said

-- whether a line begins with /
abbrev pub is_delete : PartKind → Bool
is_delete (kinds.Delete level) = true
is_delete _ = false

abbrev pub is_deleted : List Part → Bool
is_deleted [] = false
is_deleted (p ∷ parts) = is_delete p.kind

-- ---- lines of other words: polar words become X and Y, and a repeated polar hole and an arc of several
-- turns become several lines

abbrev pub because : PolarRefusal → Refusal
because refusal = Because (causes.Polar refusal)

-- ---- the turns of an arc

abbrev pub turn_taken : Setup → ℕ → Turning → List Word → ℕ → Between → Result Between Cause
turn_taken setup line t words left b = do
  l ← caused causes.Polar (turn_step t left)
  words_taken setup line (line_words l words) b

-- the turns that are left
unfoldable pub turns_taken : Setup → ℕ → Turning → List Word → ℕ → Between → Result Between Cause
turns_taken setup line t words zero b = Ok b
turns_taken setup line t words (suc left) b =
    turn_taken setup line t words (suc left) b >>= λ c. turns_taken setup line t words left c

-- beside a path an arc has one turn
abbrev pub turning_in : List Word → Between → Option Turning
turning_in words b = if is_some b.path then None else turning_of (known_of b) words

abbrev pub turned_by : Setup → ℕ → List Word → Option Turning → Between → Result Between Cause
turned_by setup line words None b = words_taken setup line words b
turned_by setup line words (Some t) b =
    turns_taken setup line t words t.count (with_notes (counted line notes.SeveralTurns) b)

abbrev pub turned_taken : Setup → ℕ → List Word → Between → Result Between Cause
turned_taken setup line words b = turned_by setup line words (turning_in words b) b

-- ---- polar words

abbrev pub polar_step_taken : Setup → ℕ → PolarLine → List Word → ℕ → Between → Result Between Cause
polar_step_taken setup line p words left b = do
  l ← caused causes.Polar (polar_step p left)
  turned_taken setup line (line_words l words) b

-- the lines that are left
unfoldable pub polar_steps_taken : Setup → ℕ → PolarLine → List Word → ℕ → Between → Result Between Cause
polar_steps_taken setup line p words zero b = Ok b
polar_steps_taken setup line p words (suc left) b =
    polar_step_taken setup line p words (suc left) b
    >>= λ c. polar_steps_taken setup line p words left c

-- where polar words lead: from the programmed point, if a path is beside it
abbrev pub polar_in : List Word → Between → Result PolarLine PolarFault
polar_in words b = polar_line (programmed (known_of b) b.path) b.polar words

abbrev pub with_polar : Option PolarEnd → Between → Between
with_polar end b = record b { polar = end }

abbrev pub polar_taken : Setup → ℕ → List Word → Between → Result Between Cause
polar_taken setup line words b = do
  p ← polar_caused (polar_in words b)
  c ← polar_steps_taken setup line p words p.count (with_notes (counted line notes.PolarWords) b)
  Ok (with_polar (end_of p) c)

-- ---- all words

unfoldable pub all_taken : Setup → ℕ → List Word → Between → Result Between Cause
all_taken setup line words b =
    if has_polar words then polar_taken setup line words b else turned_taken setup line words b

-- ---- saved modes (LinuxCNC's documentation, "M70" to "M73")

abbrev pub modes_in : Between → SavedModes
modes_in b = modes_now (known_of b) b.switches

-- what a line with these words has switched is kept
abbrev pub switched : List Word → Between → Between
switched words b = record b { switches = switches_after words b.switches }

-- a word that restores a mode, as a line of its own
abbrev pub word_restored : Setup → ℕ → Option Word → Between → Result Between Cause
word_restored setup line None b = Ok b
word_restored setup line (Some w) b =
    words_executed setup line (w ∷ []) b >>= λ c. Ok (switched (w ∷ []) c)

unfoldable pub words_restored : Setup → ℕ → List (Option Word) → Between → Result Between Cause
words_restored setup line [] b = Ok b
words_restored setup line (w ∷ ws) b =
    word_restored setup line w b >>= λ c. words_restored setup line ws c

-- modes where others are in force
abbrev pub restored : Setup → ℕ → SavedModes → Between → Result Between Cause
restored setup line modes b = words_restored setup line (restoring modes (modes_in b)) b

abbrev pub restored_from : Setup → ℕ → Option SavedModes → Between → Result Between Cause
restored_from setup line None b = Err causes.NothingSaved
restored_from setup line (Some modes) b = restored setup line modes b

abbrev pub restored_if : Setup → ℕ → Option SavedModes → Between → Result Between Cause
restored_if setup line None b = Ok b
restored_if setup line (Some modes) b = restored setup line modes b

abbrev pub with_stack : Stack → Between → Between
with_stack stack b = record b { saved = stack }

abbrev pub with_saved : Bool → Between → Between
with_saved returns b = with_stack (saved returns (modes_in b) b.saved) b

abbrev pub saving_done : Setup → ℕ → Saving → Between → Result Between Cause
saving_done setup line Save b = Ok (with_saved false b)
saving_done setup line Forget b = Ok (with_stack (forgotten b.saved) b)
saving_done setup line Restore b = restored_from setup line b.saved.here.modes b
saving_done setup line SaveToReturn b = Ok (with_saved true b)

-- not while cutter compensation is on: our own limit
abbrev pub saving_taken : Setup → ℕ → Saving → Between → Result Between Cause
saving_taken setup line saving b =
    if is_some b.path
    then Err (causes.Rule (about_code rules.WhileCompensating (saving_code saving)))
    else saving_done setup line saving b

abbrev pub switched_taken : Setup → ℕ → List Word → Between → Result Between Cause
switched_taken setup line words b =
    all_taken setup line words b >>= λ c. Ok (switched words c)

abbrev pub line_by : Setup → ℕ → List Word → Option Saving → Between → Result Between Cause
line_by setup line words None b = switched_taken setup line words b
line_by setup line words (Some saving) b = saving_taken setup line saving b

-- the words of a line
unfoldable pub line_words_taken : Setup → ℕ → List Word → Between → Result Between Cause
line_words_taken setup line words b = line_by setup line words (saving_in b.dialect words) b

-- a call begins, in which nothing is saved yet
abbrev pub call_begun : Between → Result Between Cause
call_begun b = Ok (with_stack (entered b.saved) b)

-- a call ends, and what M73 saved in it is restored
abbrev pub call_ended : Setup → ℕ → Between → Result Between Cause
call_ended setup line b = restored_if setup line (returning b.saved) (with_stack (left b.saved) b)

-- a line with this text takes effect: its settings are made, and its words executed
unfoldable pub done_at : Setup → ℕ → List ℕ → List Statement → List Word → Progress →
    Result Progress Cause
done_at setup line text said words p = do
  k ← caused stored_cause (set_by_all text said p.values)
  b ← line_words_taken setup line words (with_notes (statements_noted line said) p.between)
  Ok (record { values = k; between = b })

-- what was done, and what is known then
abbrev pub as_done : Result Progress Cause → Result (Taken × Progress) Cause
as_done r = r >>= λ p. Ok (Done, p)

-- A line with this text and these parts. All values are those before the line, but for Fanuc's
-- settings. A line that has flow isn't executed here.
unfoldable pub statements_taken :
    Setup → ℕ → List ℕ → List Part → Progress → Result (Taken × Progress) Cause
statements_taken setup line text parts p =
    said_at p.values text parts >>= λ said.
    if has_flow p.between.dialect said.statements then Ok (HasFlow, p)
    else as_done (done_at setup line text said.statements (words_of said.statements) p)

-- a line by its parts, unless block delete takes it out
abbrev pub parts_taken : Setup → Bool → ℕ → List ℕ → List Part → Progress →
    Result (Taken × Progress) Cause
parts_taken setup block_delete line bytes parts p =
    if block_delete && is_deleted parts then Ok (Done, p)
    else statements_taken setup line (text bytes) parts p

-- a line, without its line feed
unfoldable pub line_taken : Setup → Bool → ℕ → List ℕ → Progress → Result (Taken × Progress) Cause
line_taken setup block_delete line bytes p = do
  parts ← caused causes.Reading (line_of p.between.dialect bytes)
  parts_taken setup block_delete line bytes parts p
