-- What a program does doesn't depend on what is collected while it is executed.
use Rattle.std.proofs.Common.{◌≡◌, ℕ, zero, suc, ℤ, slice_get, List, [], ◌∷◌, ◌++◌, Bool, true, false, Result, Ok, Err, refl, ◌∙◌, ap}
use Rattle.std.specs.Prelude.{if◌then◌else◌, nat_lt, ◌&&◌, Option, Some, None, is_some}
use Rattle.ngc_canonical.specs.declared.fault.Fault.{Fault}
use Rattle.ngc_canonical.specs.declared.fault.Fault.TheVariants.{NoEnd}
use Rattle.ngc_canonical.specs.State.{Setup, State}
use Rattle.ngc_canonical.specs.Steps.{◌>>=◌}
use Rattle.ngc_frames.specs.declared.change.FrameChange.{FrameChange}
use Rattle.ngc_dialect_parameters.specs.declared.statement.Statement.{Statement}
use Rattle.ngc_dialect_parameters.specs.declared.statement.Word.{Word}
use Rattle.ngc_dialect_parameters.specs.Stored.{Stored}
use Rattle.ngc_dialect_parameters.specs.Storing.{called, set_by_all}
use Rattle.ngc_dialect_names.specs.declared.dialect.Dialect.{Dialect}
use Rattle.ngc_dialect_reader.specs.declared.part.Part.{Part}
use Rattle.ngc_dialect_reader.specs.Line.{line_of}
use Rattle.ngc_dialect_reader.specs.Text.{text}
use Rattle.ngc_canned_cycles.specs.declared.cycle.CycleMove.{CycleMove}
use Rattle.ngc_dialect_drilling.specs.Holes.{cycle_of}
use Rattle.ngc_dialect_drilling.specs.Moves.{move_lines, stop_lines}
use Rattle.ngc_dialect_notes.specs.declared.kind.Kind.TheVariants as kinds
use Rattle.ngc_dialect_notes.specs.Notes.{counted}
use Rattle.ngc_dialect_rules.specs.declared.code.Code.{Code}
use Rattle.ngc_dialect_rules.specs.declared.front.KeptSeries.{KeptSeries}
use Rattle.ngc_dialect_rules.specs.declared.plain.Plain.{Plain}
use Rattle.ngc_dialect_rules.specs.declared.plan.LineCycle.{LineCycle}
use Rattle.ngc_dialect_rules.specs.declared.plan.LineResult.{LineResult}
use Rattle.ngc_dialect_rules.specs.Rules.{plain_lines}
use Rattle.ngc_line_reader.specs.Program.{split_lines}
use Rattle.ngc_dialect_path.specs.declared.step.PathStep.{PathStep}
use Rattle.ngc_dialect_path.specs.Paths.{held_line}
use Rattle.ngc_dialect_path.specs.Steps.{Written, path_end, path_step}
use Rattle.ngc_dialect_flow.specs.declared.effect.Effect.{Effect}
use Rattle.ngc_dialect_flow.specs.declared.effect.Effect.TheVariants as effects
use Rattle.ngc_dialect_flow.specs.Next.{needs_values, next, skipped}
use Rattle.ngc_dialect_flow.specs.Places.{Plan}
use Rattle.ngc_dialect_flow.specs.Returning.{returned}
use Rattle.ngc_dialect_flow.specs.State.{Flow, begun}
use Rattle.ngc_dialect_execution.specs.declared.beside.StepLines.{StepLines}
use Rattle.ngc_dialect_execution.specs.declared.beside.WaitingLine.{WaitingLine}
use Rattle.ngc_dialect_execution.specs.declared.doing.Depths.{Depths}
use Rattle.ngc_dialect_execution.specs.declared.fault.Cause.{Cause}
use Rattle.ngc_dialect_execution.specs.declared.fault.Cause.TheVariants as causes
use Rattle.ngc_dialect_execution.specs.declared.fault.DialectFault.{DialectFault}
use Rattle.ngc_dialect_execution.specs.declared.lines.Taken.{Taken}
use Rattle.ngc_dialect_execution.specs.declared.lines.Taken.TheVariants.{Done, HasFlow}
use Rattle.ngc_dialect_execution.specs.declared.run.Wanted.{Wanted}
use Rattle.ngc_dialect_execution.specs.declared.text.LinesBefore.{LinesBefore}
use Rattle.ngc_dialect_execution.specs.declared.text.Mark.{Mark}
use Rattle.ngc_dialect_execution.specs.declared.text.Mark.TheVariants.{Begins, Ends, IsLine}
use Rattle.ngc_dialect_execution.specs.Ending.{Framed, Outcome, at, changed_by, ended_only, finished, with_changes}
use Rattle.ngc_dialect_execution.specs.Executed.{PlainLine, Run, execute_plain, kept_with, line_run, lines_at, run}
use Rattle.ngc_dialect_execution.specs.Faults.{◌>>=◌ as ◌>>=c◌, caused, stored_cause}
use Rattle.ngc_dialect_execution.specs.Flow.{FlowProgress, depths, effect_done, effect_taken, ends, flow_line_taken, flow_statements_taken, flow_taken, level_begun, level_ended, level_taken, line_or_end, number_at, other_words, others_taken, passed_over, said_if, stepped, then_on, turned, values_from, with_line, with_values}
use Rattle.ngc_dialect_execution.specs.Mounting.{before_lines, first_number, mounted, mounting, with_between, with_mounted}
use Rattle.ngc_dialect_execution.specs.Program.{leaves_out, changes_of, commands_in, from_begun, go_from, go_on, lines_taken, marked_taken, traced_in}
use Rattle.ngc_dialect_repeats.specs.declared.polar.PolarLine.{PolarLine}
use Rattle.ngc_dialect_repeats.specs.declared.turns.Turning.{Turning}
use Rattle.ngc_dialect_repeats.specs.Kept.{line_words}
use Rattle.ngc_dialect_repeats.specs.Polar.{end_of, has_polar, polar_step}
use Rattle.ngc_dialect_repeats.specs.Turns.{turn_step}
use Rattle.ngc_dialect_execution.specs.Faults.{polar_caused}
use Rattle.ngc_dialect_execution.specs.Taken.{all_taken, polar_in, polar_step_taken, polar_steps_taken, polar_taken, turn_taken, turned_by, turned_taken, turning_in, turns_taken, with_polar}
use Rattle.ngc_dialect_execution.specs.Taken.{Between, Progress, Said, END, cycle_if, cycle_taken, done_at, end_noted, ended_at, has_flow, is_deleted, known_of, line_taken, made_taken, move_taken, moves_taken, nothing_wanted, own_taken, path_ended, path_taken, plain_taken, plain_words_taken, put_off, released_if, run_of, said_at, start_progress, start_taken, statements_taken, step_carried, step_lines, step_taken, waiting_taken, with_notes, with_run, with_series, words_executed, words_noted, words_of, words_taken}
use Rattle.ngc_dialect_saved.specs.declared.modes.SavedModes.{SavedModes}
use Rattle.ngc_dialect_saved.specs.declared.saving.Saving.{Saving}
use Rattle.ngc_dialect_saved.specs.declared.saving.Saving.TheVariants.{Save, Forget, Restore, SaveToReturn}
use Rattle.ngc_dialect_saved.specs.Restoring.{restoring}
use Rattle.ngc_dialect_saved.specs.Savings.{saving_in}
use Rattle.ngc_dialect_saved.specs.Stack.{left, returning}
use Rattle.ngc_dialect_execution.specs.Taken.{call_begun, call_ended, line_by, line_words_taken, modes_in, restored, restored_from, restored_if, saving_done, switched, with_stack, word_restored, words_restored}
use Rattle.ngc_dialect_execution.specs.Text.{ProgramLines, first_byte, is_end, lines_after, mark_of, no_lines, number_of, program_of}

-- ---- nothing collected

abbrev bare_run : Run → Run
bare_run r = record { state = r.state; kept = None }

abbrev bare : Between → Between
bare b = record b { notes = None; kept = None }

abbrev bare_progress : Progress → Progress
bare_progress p = record { values = p.values; between = bare p.between }

abbrev bare_flow : FlowProgress → FlowProgress
bare_flow r = record { progress = bare_progress r.progress; flow = r.flow }

abbrev bare_taken : Taken × Progress → Taken × Progress
bare_taken x = (x.0, bare_progress x.1)

abbrev bare_effect : Effect × FlowProgress → Effect × FlowProgress
bare_effect x = (x.0, bare_flow x.1)

abbrev bare_framed : Framed → Framed
bare_framed f = record f { notes = None; lines = None }

-- a result with its value changed
abbrev mapped : {A B E : Type 0} → (A → B) → Result A E → Result B E
mapped f (Ok x) = Ok (f x)
mapped f (Err e) = Err e

-- ---- one step after another

after : {A B : Type 0} (g : B → B) (r : Result A Cause) (f h : A → Result B Cause) → ((a : A) → f a ≡ mapped g (h a)) → (r >>=c f) ≡ mapped g (r >>=c h)
after g (Ok a) f h same = same a
after g (Err e) f h same = refl

chain : {A B : Type 0} (k : A → A) (g : B → B) (s r : Result A Cause) (f h : A → Result B Cause) → s ≡ mapped k r → ((a : A) → f (k a) ≡ mapped g (h a))
    → (s >>=c f) ≡ mapped g (r >>=c h)
chain k g s (Ok a) f h is same = ap (λ t. t >>=c f) is ∙ same a
chain k g s (Err e) f h is same = ap (λ t. t >>=c f) is

either : {B : Type 0} (g : B → B) (b : Bool) (x y v w : Result B Cause) → x ≡ mapped g v → y ≡ mapped g w
    → (if b then x else y) ≡ mapped g (if b then v else w)
either g true x y v w e f = e
either g false x y v w e f = f

-- ---- plain lines

rest_runs : (l : PlainLine) (r : Run) (rest : Run → Result Run Fault) (q : Result State Fault) →
    ((u : Run) → rest (bare_run u) ≡ mapped bare_run (rest u)) →
    ((q >>= λ s. Ok (record { state = s; kept = kept_with l (bare_run r).kept })) >>= rest)
    ≡ mapped bare_run ((q >>= λ s. Ok (record { state = s; kept = kept_with l r.kept })) >>= rest)
rest_runs l r rest (Ok s) same = same (record { state = s; kept = kept_with l r.kept })
rest_runs l r rest (Err e) same = refl

runs : (setup : Setup) (ls : List PlainLine) (r : Run) → run setup ls (bare_run r) ≡ mapped bare_run (run setup ls r)
unfolding run
runs setup [] r = refl
runs setup (l ∷ ls) r = by r.state.ended (rest_runs l r (λ u. run setup ls u) (execute_plain setup l r.state) (λ u. runs setup ls u)) where
  by : (b : Bool) → (line_run setup l (bare_run r) >>= λ u. run setup ls u) ≡ mapped bare_run (line_run setup l r >>= λ u. run setup ls u)
      → (let same : Result Run Fault = Ok (bare_run r) in if b then same else (line_run setup l (bare_run r) >>= λ u. run setup ls u))
      ≡ (let same : Result Run Fault = Ok r in mapped bare_run (if b then same else (line_run setup l r >>= λ u. run setup ls u)))
  by true e = refl
  by false e = e

caused_same : (r s : Result Run Fault) → s ≡ mapped bare_run r → caused causes.Plain s ≡ mapped bare_run (caused causes.Plain r)
caused_same (Ok u) s e = ap (caused causes.Plain) e
caused_same (Err fault) s e = ap (caused causes.Plain) e

ran : (setup : Setup) (ls : List PlainLine) (r : Run) →
    caused causes.Plain (run setup ls (bare_run r)) ≡ mapped bare_run (caused causes.Plain (run setup ls r))
ran setup ls r = caused_same (run setup ls r) (run setup ls (bare_run r)) (runs setup ls r)

plain : (setup : Setup) (line : ℕ) (ps : List Plain) (b : Between) → plain_taken setup line ps (bare b) ≡ mapped bare (plain_taken setup line ps b)
plain setup line ps b =
    chain bare_run bare _ (caused causes.Plain (run setup (lines_at line ps) (run_of b))) (λ r. Ok (with_run (bare b) b.front r)) (λ r. Ok (with_run b b.front r))
    (ran setup (lines_at line ps) (run_of b)) (λ r. refl)

move : (setup : Setup) (line : ℕ) (m : CycleMove) (b : Between) → move_taken setup line m (bare b) ≡ mapped bare (move_taken setup line m b)
move setup line m b = after bare (caused causes.Rule (move_lines (known_of b) m)) _ _ (λ ps. plain setup line ps b)

moves : (setup : Setup) (line : ℕ) (ms : List CycleMove) (b : Between) → moves_taken setup line ms (bare b) ≡ mapped bare (moves_taken setup line ms b)
moves setup line [] b = refl
moves setup line (m ∷ ms) b =
    chain bare bare _ (move_taken setup line m b) (λ c. moves_taken setup line ms c) (λ c. moves_taken setup line ms c) (move setup line m b)
    (λ c. moves setup line ms c)

start : (setup : Setup) (line : ℕ) (stop : Option Code) (kept : KeptSeries) (ms : List CycleMove) (b : Between) →
    start_taken setup line stop kept ms (bare b) ≡ mapped bare (start_taken setup line stop kept ms b)
unfolding start_taken
start setup line stop kept ms b =
    chain bare bare _ (moves_taken setup line ms (with_series kept b)) (λ c. plain_taken setup line (stop_lines stop) c)
    (λ c. plain_taken setup line (stop_lines stop) c) (moves setup line ms (with_series kept b)) (λ c. plain setup line (stop_lines stop) c)

cycle : (setup : Setup) (line : ℕ) (words : List Word) (c : LineCycle) (b : Between) →
    cycle_taken setup line words c (bare b) ≡ mapped bare (cycle_taken setup line words c b)
cycle setup line words c b =
    after bare (caused causes.Rule (cycle_of (known_of b) c.code words)) _ _ (λ s. start setup line c.stop s.0 s.1 b)

cycles : (setup : Setup) (line : ℕ) (words : List Word) (c : Option LineCycle) (b : Between) →
    cycle_if setup line words c (bare b) ≡ mapped bare (cycle_if setup line words c b)
cycles setup line words None b = refl
cycles setup line words (Some c) b = cycle setup line words c b

made : (setup : Setup) (line : ℕ) (words : List Word) (m : LineResult) (ps : List Plain) (b : Between) →
    made_taken setup line words m ps (bare b) ≡ mapped bare (made_taken setup line words m ps b)
unfolding made_taken
made setup line words m ps b =
    chain bare_run bare _ (caused causes.Plain (run setup (lines_at line ps) (run_of b))) (λ r. cycle_if setup line words m.cycle (with_run (bare b) m.front r))
    (λ r. cycle_if setup line words m.cycle (with_run b m.front r)) (ran setup (lines_at line ps) (run_of b))
    (λ r. cycles setup line words m.cycle (with_run b m.front r))

-- ---- beside a path

waiting : (setup : Setup) (ws : List WaitingLine) (r : Run) → waiting_taken setup ws (bare_run r) ≡ mapped bare_run (waiting_taken setup ws r)
unfolding waiting_taken
waiting setup [] r = refl
waiting setup (w ∷ ws) r =
    chain bare_run bare_run _ (caused causes.Plain (run setup (lines_at w.line w.plain.items) r)) (λ u. waiting_taken setup ws u) (λ u. waiting_taken setup ws u)
    (ran setup (lines_at w.line w.plain.items) r) (λ u. waiting setup ws u)

releases : (setup : Setup) (b : Bool) (held : ℕ) (m : List Plain) (ws : List WaitingLine) (r : Run) →
    released_if setup b held m ws (bare_run r) ≡ mapped bare_run (released_if setup b held m ws r)
releases setup false held m ws r = refl
releases setup true held m ws r =
    chain bare_run bare_run _ (caused causes.Plain (run setup (lines_at held m) r)) (λ u. waiting_taken setup ws u) (λ u. waiting_taken setup ws u)
    (ran setup (lines_at held m) r) (λ u. waiting setup ws u)

own : (setup : Setup) (b : Bool) (line : ℕ) (ps : List Plain) (r : Run) → own_taken setup b line ps (bare_run r) ≡ mapped bare_run (own_taken setup b line ps r)
own setup true line ps r = refl
own setup false line ps r = ran setup (lines_at line ps) r

step : (setup : Setup) (at : StepLines) (s : PathStep) (w : Written) (ws : List WaitingLine) (r : Run) →
    step_taken setup at s w ws (bare_run r) ≡ mapped bare_run (step_taken setup at s w ws r)
step setup at s w ws r =
    chain bare_run bare_run _ (released_if setup s.releases at.held w.made ws r) (λ u. own_taken setup s.waits at.own w.own u)
    (λ u. own_taken setup s.waits at.own w.own u) (releases setup s.releases at.held w.made ws r) (λ u. own setup s.waits at.own w.own u)

carried : (setup : Setup) (at : StepLines) (s : PathStep) (w : Written) (b : Between) →
    step_carried setup at s w (bare b) ≡ mapped bare (step_carried setup at s w b)
unfolding step_carried
carried setup at s w b =
    chain bare_run bare _ (step_taken setup at s w b.waiting (run_of b)) _ _ (step setup at s w b.waiting (run_of b))
    (λ r. after bare (put_off at.own s w.own b.waiting) _ _ (λ ws. refl))

path : (setup : Setup) (line : ℕ) (words : List Word) (b : Between) → path_taken setup line words (bare b) ≡ mapped bare (path_taken setup line words b)
unfolding path_taken
path setup line words b =
    after bare (caused causes.Rule (path_step (known_of b) setup.tools line b.path words)) _ _ (λ x. carried setup (step_lines b.path line) x.0 x.1 b)

-- ---- the words of a line

plain_words : (setup : Setup) (line : ℕ) (words : List Word) (b : Between) →
    plain_words_taken setup line words (bare b) ≡ mapped bare (plain_words_taken setup line words b)
unfolding plain_words_taken
plain_words setup line words b =
    after bare (caused causes.Rule (plain_lines (known_of b) words)) _ _
    (λ m. either bare (is_some m.0.compensation) _ _ _ _ (path setup line words b) (made setup line words m.0 m.1 b))

executes : (setup : Setup) (line : ℕ) (words : List Word) (b : Between) → words_executed setup line words (bare b) ≡ mapped bare (words_executed setup line words b)
unfolding words_executed
executes setup line words b = either bare (is_some b.path) _ _ _ _ (path setup line words b) (plain_words setup line words b)

words_same : (setup : Setup) (line : ℕ) (words : List Word) (b : Between) → words_taken setup line words (bare b) ≡ mapped bare (words_taken setup line words b)
words_same setup line words b = executes setup line words (words_noted line words b)

-- the turns of an arc, and lines with polar words
turn : (setup : Setup) (line : ℕ) (t : Turning) (words : List Word) (left : ℕ) (b : Between) →
    turn_taken setup line t words left (bare b) ≡ mapped bare (turn_taken setup line t words left b)
turn setup line t words left b = after bare (caused causes.Polar (turn_step t left)) _ _ (λ l. words_same setup line (line_words l words) b)

turns : (setup : Setup) (line : ℕ) (t : Turning) (words : List Word) (left : ℕ) (b : Between) →
    turns_taken setup line t words left (bare b) ≡ mapped bare (turns_taken setup line t words left b)
unfolding turns_taken
turns setup line t words zero b = refl
turns setup line t words (suc left) b =
    chain bare bare _ (turn_taken setup line t words (suc left) b) (λ c. turns_taken setup line t words left c) (λ c. turns_taken setup line t words left c)
    (turn setup line t words (suc left) b) (λ c. turns setup line t words left c)

turning_same : (setup : Setup) (line : ℕ) (words : List Word) (t : Option Turning) (b : Between) →
    turned_by setup line words t (bare b) ≡ mapped bare (turned_by setup line words t b)
turning_same setup line words None b = words_same setup line words b
turning_same setup line words (Some t) b = turns setup line t words t.count (with_notes (counted line kinds.SeveralTurns) b)

turned_words : (setup : Setup) (line : ℕ) (words : List Word) (b : Between) → turned_taken setup line words (bare b) ≡ mapped bare (turned_taken setup line words b)
turned_words setup line words b = turning_same setup line words (turning_in words b) b

polar_one : (setup : Setup) (line : ℕ) (p : PolarLine) (words : List Word) (left : ℕ) (b : Between) →
    polar_step_taken setup line p words left (bare b) ≡ mapped bare (polar_step_taken setup line p words left b)
polar_one setup line p words left b = after bare (caused causes.Polar (polar_step p left)) _ _ (λ l. turned_words setup line (line_words l words) b)

polar_all : (setup : Setup) (line : ℕ) (p : PolarLine) (words : List Word) (left : ℕ) (b : Between) →
    polar_steps_taken setup line p words left (bare b) ≡ mapped bare (polar_steps_taken setup line p words left b)
unfolding polar_steps_taken
polar_all setup line p words zero b = refl
polar_all setup line p words (suc left) b =
    chain bare bare _ (polar_step_taken setup line p words (suc left) b) (λ c. polar_steps_taken setup line p words left c)
    (λ c. polar_steps_taken setup line p words left c) (polar_one setup line p words (suc left) b) (λ c. polar_all setup line p words left c)

polar_same : (setup : Setup) (line : ℕ) (words : List Word) (b : Between) → polar_taken setup line words (bare b) ≡ mapped bare (polar_taken setup line words b)
polar_same setup line words b =
    after bare (polar_caused (polar_in words b)) _ _
    (λ p. chain bare bare _ (polar_steps_taken setup line p words p.count (with_notes (counted line kinds.PolarWords) b))
    (λ c. Ok (with_polar (end_of p) c)) (λ c. Ok (with_polar (end_of p) c))
    (polar_all setup line p words p.count (with_notes (counted line kinds.PolarWords) b)) (λ c. refl))

all_same : (setup : Setup) (line : ℕ) (words : List Word) (b : Between) → all_taken setup line words (bare b) ≡ mapped bare (all_taken setup line words b)
unfolding all_taken
all_same setup line words b = either bare (has_polar words) _ _ _ _ (polar_same setup line words b) (turned_words setup line words b)

-- saved modes
restored_word : (setup : Setup) (line : ℕ) (w : Option Word) (b : Between) → word_restored setup line w (bare b) ≡ mapped bare (word_restored setup line w b)
restored_word setup line None b = refl
restored_word setup line (Some w) b =
    chain bare bare _ (words_executed setup line (w ∷ []) b) (λ c. Ok (switched (w ∷ []) c)) (λ c. Ok (switched (w ∷ []) c))
    (executes setup line (w ∷ []) b) (λ c. refl)

restored_words : (setup : Setup) (line : ℕ) (ws : List (Option Word)) (b : Between) → words_restored setup line ws (bare b) ≡ mapped bare (words_restored setup line ws b)
unfolding words_restored
restored_words setup line [] b = refl
restored_words setup line (w ∷ ws) b =
    chain bare bare _ (word_restored setup line w b) (λ c. words_restored setup line ws c) (λ c. words_restored setup line ws c)
    (restored_word setup line w b) (λ c. restored_words setup line ws c)

restored_same : (setup : Setup) (line : ℕ) (modes : SavedModes) (b : Between) → restored setup line modes (bare b) ≡ mapped bare (restored setup line modes b)
restored_same setup line modes b = restored_words setup line (restoring modes (modes_in b)) b

restored_if_same : (setup : Setup) (line : ℕ) (modes : Option SavedModes) (b : Between) →
    restored_if setup line modes (bare b) ≡ mapped bare (restored_if setup line modes b)
restored_if_same setup line None b = refl
restored_if_same setup line (Some modes) b = restored_same setup line modes b

restored_from_same : (setup : Setup) (line : ℕ) (modes : Option SavedModes) (b : Between) →
    restored_from setup line modes (bare b) ≡ mapped bare (restored_from setup line modes b)
restored_from_same setup line None b = refl
restored_from_same setup line (Some modes) b = restored_same setup line modes b

saving_same : (setup : Setup) (line : ℕ) (saving : Saving) (b : Between) → saving_done setup line saving (bare b) ≡ mapped bare (saving_done setup line saving b)
saving_same setup line Save b = refl
saving_same setup line Forget b = refl
saving_same setup line Restore b = restored_from_same setup line b.saved.here.modes b
saving_same setup line SaveToReturn b = refl

line_by_same : (setup : Setup) (line : ℕ) (words : List Word) (saving : Option Saving) (b : Between) →
    line_by setup line words saving (bare b) ≡ mapped bare (line_by setup line words saving b)
line_by_same setup line words None b =
    chain bare bare _ (all_taken setup line words b) (λ c. Ok (switched words c)) (λ c. Ok (switched words c)) (all_same setup line words b) (λ c. refl)
line_by_same setup line words (Some saving) b = either bare (is_some b.path) _ _ _ _ refl (saving_same setup line saving b)

line_words_same : (setup : Setup) (line : ℕ) (words : List Word) (b : Between) →
    line_words_taken setup line words (bare b) ≡ mapped bare (line_words_taken setup line words b)
unfolding line_words_taken
line_words_same setup line words b = line_by_same setup line words (saving_in b.dialect words) b

path_over : (setup : Setup) (b : Between) → path_ended setup (bare b) ≡ mapped bare (path_ended setup b)
unfolding path_ended
path_over setup b =
    after bare (caused causes.Rule (path_end (known_of b) b.path)) _ _
    (λ e. chain bare_run bare _ (released_if setup e.0 (held_line b.path) e.1 b.waiting (run_of b)) (λ r. Ok (with_run (bare b) b.front r))
    (λ r. Ok (with_run b b.front r)) (releases setup e.0 (held_line b.path) e.1 b.waiting (run_of b)) (λ r. refl))

end_bare : (line : ℕ) (b : Between) → end_noted line (bare b) ≡ bare (end_noted line b)
end_bare line b = by b.state.ended where
  by : (e : Bool) → (if e then bare b else with_notes (counted line kinds.ProgramEnd) (bare b)) ≡ bare (if e then b else with_notes (counted line kinds.ProgramEnd) b)
  by true = refl
  by false = refl

over : (setup : Setup) (line : ℕ) (b : Between) → ended_at setup line (bare b) ≡ mapped bare (ended_at setup line b)
unfolding ended_at
over setup line b =
    chain bare bare _ (path_ended setup (end_noted line b)) (λ c. plain_taken setup line END c) (λ c. plain_taken setup line END c)
    (ap (path_ended setup) (end_bare line b) ∙ path_over setup (end_noted line b)) (λ c. plain setup line END c)

-- ---- a line

effect : (setup : Setup) (line : ℕ) (bytes : List ℕ) (said : List Statement) (words : List Word) (p : Progress) →
    done_at setup line bytes said words (bare_progress p) ≡ mapped bare_progress (done_at setup line bytes said words p)
unfolding done_at
effect setup line bytes said words p =
    after bare_progress (caused stored_cause (set_by_all bytes said p.values)) _ _
    (λ k. chain bare bare_progress _ (line_words_taken setup line words (with_notes _ p.between)) (λ b. Ok (record { values = k; between = b }))
    (λ b. Ok (record { values = k; between = b })) (line_words_same setup line words (with_notes _ p.between)) (λ b. refl))

statements : (setup : Setup) (line : ℕ) (bytes : List ℕ) (parts : List Part) (p : Progress) →
    statements_taken setup line bytes parts (bare_progress p) ≡ mapped bare_taken (statements_taken setup line bytes parts p)
unfolding statements_taken
statements setup line bytes parts p =
    after bare_taken (said_at p.values bytes parts) _ _
    (λ said. either bare_taken (has_flow p.between.dialect said.statements) _ _ _ _ refl
    (chain bare_progress bare_taken _ (done_at setup line bytes said.statements (words_of said.statements) p) (λ q. Ok (Done, q)) (λ q. Ok (Done, q))
    (effect setup line bytes said.statements (words_of said.statements) p) (λ q. refl)))

line_same : (setup : Setup) (block_delete : Bool) (line : ℕ) (bytes : List ℕ) (p : Progress) →
    line_taken setup block_delete line bytes (bare_progress p) ≡ mapped bare_taken (line_taken setup block_delete line bytes p)
unfolding line_taken
line_same setup block_delete line bytes p =
    after bare_taken (caused causes.Reading (line_of p.between.dialect bytes)) _ _
    (λ parts. either bare_taken (block_delete && is_deleted parts) _ _ _ _ refl (statements setup line (text bytes) parts p))

marked : (setup : Setup) (block_delete : Bool) (line : ℕ) (mark : Mark) (bytes : List ℕ) (p : Progress) →
    marked_taken setup block_delete line mark bytes (bare_progress p) ≡ mapped bare_taken (marked_taken setup block_delete line mark bytes p)
marked setup block_delete line Begins bytes p = refl
marked setup block_delete line Ends bytes p = refl
marked setup block_delete line IsLine bytes p = line_same setup block_delete line bytes p

-- ---- a line of the flow

valued : (p : Progress) (r : Result Stored Cause) → with_values (bare_progress p) r ≡ mapped bare_progress (with_values p r)
valued p (Ok k) = refl
valued p (Err e) = refl

effects_same : (e : Effect) (arguments : List (Option ℤ)) (p : Progress) →
    effect_taken e arguments (bare_progress p) ≡ mapped bare_progress (effect_taken e arguments p)
effects_same effects.Stay arguments p = refl
effects_same effects.Enter arguments p = valued p (caused stored_cause (called arguments p.values))
effects_same (effects.Return value) arguments p = valued p (caused stored_cause (returned value p.values))
effects_same effects.End arguments p = refl

lined : (p : Progress) (s r : Result Between Cause) → s ≡ mapped bare r → with_line (bare_progress p) s ≡ mapped bare_progress (with_line p r)
lined p s r is = chain bare bare_progress s r (λ b. Ok (record { values = p.values; between = b })) (λ b. Ok (record { values = p.values; between = b })) is (λ b. refl)

ended_level : (setup : Setup) (line : ℕ) (p : Progress) → level_ended setup line (bare_progress p) ≡ mapped bare_progress (level_ended setup line p)
ended_level setup line p =
    lined p _ (call_ended setup line p.between)
    (restored_if_same setup line (returning p.between.saved) (with_stack (left p.between.saved) p.between))

level_same : (setup : Setup) (line : ℕ) (d : Depths) (p : Progress) →
    level_taken setup line d (bare_progress p) ≡ mapped bare_progress (level_taken setup line d p)
level_same setup line d p =
    either bare_progress (nat_lt d.before d.after) _ _ _ _ refl
    (either bare_progress (nat_lt d.after d.before) _ _ _ _ (ended_level setup line p)
    (either bare_progress (d.returns && nat_lt 0 d.after) _ _ _ _
    (chain bare_progress bare_progress _ (level_ended setup line p) (λ q. level_begun q) (λ q. level_begun q) (ended_level setup line p) (λ q. refl)) refl))

abbrev bare_done : Effect × Progress → Effect × Progress
bare_done x = (x.0, bare_progress x.1)

level_done : (setup : Setup) (line : ℕ) (d : Depths) (e : Effect) (q : Progress) →
    (level_taken setup line d (bare_progress q) >>=c λ r. Ok (e, r)) ≡ mapped bare_done (level_taken setup line d q >>=c λ r. Ok (e, r))
level_done setup line d e q =
    chain bare_progress bare_done _ (level_taken setup line d q) (λ r. Ok (e, r)) (λ r. Ok (e, r)) (level_same setup line d q) (λ r. refl)

effect_same : (setup : Setup) (line : ℕ) (d : Depths) (e : Effect) (arguments : List (Option ℤ)) (p : Progress) →
    effect_done setup line d e arguments (bare_progress p) ≡ mapped bare_done (effect_done setup line d e arguments p)
effect_same setup line d e arguments p =
    chain bare_progress bare_done _ (effect_taken e arguments p) (λ q. level_taken setup line d q >>=c λ r. Ok (e, r))
    (λ q. level_taken setup line d q >>=c λ r. Ok (e, r)) (effects_same e arguments p) (λ q. level_done setup line d e q)

stepped_same : (setup : Setup) (line : ℕ) (plan : Plan) (bytes : List ℕ) (said : Said) (s : Flow) (p : Progress) →
    stepped setup line plan bytes said s (bare_progress p) ≡ mapped bare_effect (stepped setup line plan bytes said s p)
unfolding stepped
stepped_same setup line plan bytes said s p =
    after bare_effect (caused causes.Flow (next plan (values_from bytes said) s)) _ _
    (λ x. chain bare_done bare_effect _ (effect_done setup line (depths s x.0 said.statements) x.1 said.arguments p) (λ done. Ok (done.0, record { progress = done.1; flow = x.0 }))
    (λ done. Ok (done.0, record { progress = done.1; flow = x.0 })) (effect_same setup line (depths s x.0 said.statements) x.1 said.arguments p) (λ done. refl))

turned_same : (setup : Setup) (line : ℕ) (plan : Plan) (bytes : List ℕ) (said : Said) (s : Flow) (p : Progress) →
    turned setup line plan bytes said s (bare_progress p) ≡ mapped bare_effect (turned setup line plan bytes said s p)
turned_same setup line plan bytes said s p = either bare_effect p.between.state.ended _ _ _ _ refl (stepped_same setup line plan bytes said s p)

others : (setup : Setup) (plan : Plan) (line : ℕ) (bytes : List ℕ) (said : Said) (r : FlowProgress) →
    others_taken setup plan line bytes said (bare_flow r) ≡ mapped bare_effect (others_taken setup plan line bytes said r)
unfolding others_taken
others setup plan line bytes said r =
    chain bare_progress bare_effect _ (done_at setup line bytes said.statements (other_words (words_of said.statements)) r.progress)
    (λ p. turned setup line plan bytes said r.flow p) (λ p. turned setup line plan bytes said r.flow p)
    (effect setup line bytes said.statements (other_words (words_of said.statements)) r.progress) (λ p. turned_same setup line plan bytes said r.flow p)

flow_statements : (setup : Setup) (plan : Plan) (line : ℕ) (bytes : List ℕ) (parts : List Part) (r : FlowProgress) →
    flow_statements_taken setup plan line bytes parts (bare_flow r) ≡ mapped bare_effect (flow_statements_taken setup plan line bytes parts r)
unfolding flow_statements_taken
flow_statements setup plan line bytes parts r =
    after bare_effect (said_if (needs_values plan r.flow) r.progress.values bytes parts) _ _ (λ said. others setup plan line bytes said r)

passed : (r : FlowProgress) → passed_over (bare_flow r) ≡ mapped bare_effect (passed_over r)
passed r = after bare_effect (caused causes.Flow (skipped r.flow)) _ _ (λ s. refl)

flow_line : (setup : Setup) (block_delete : Bool) (plan : Plan) (line : ℕ) (bytes : List ℕ) (r : FlowProgress) →
    flow_line_taken setup block_delete plan line bytes (bare_flow r) ≡ mapped bare_effect (flow_line_taken setup block_delete plan line bytes r)
unfolding flow_line_taken
flow_line setup block_delete plan line bytes r =
    after bare_effect (caused causes.Reading (line_of r.progress.between.dialect bytes)) _ _
    (λ parts. either bare_effect (block_delete && is_deleted parts) _ _ _ _ (passed r) (flow_statements setup plan line (text bytes) parts r))

-- ---- a program

abbrev bare_outcome : Outcome → Outcome
bare_outcome o = mapped bare_framed o

at_same : {A : Type 0} (g : A → A) (line : ℕ) (s r : Result A Cause) → s ≡ mapped g r → at line s ≡ mapped g (at line r)
at_same g line s (Ok x) e = ap (at line) e
at_same g line s (Err c) e = ap (at line) e

ended_bare : (b : Between) → ended_only (bare b) ≡ mapped bare (ended_only b)
ended_bare b = by b.state.ended where
  by : (e : Bool) → (let none : Result Between Cause = Err (causes.Plain NoEnd) in (if e then Ok (bare b) else none) ≡ mapped bare (if e then Ok b else none))
  by true = refl
  by false = refl

finish : (setup : Setup) (last : ℕ) (p : Progress) → finished setup last (bare_progress p) ≡ mapped bare (finished setup last p)
unfolding finished
finish setup last p =
    at_same bare last _ (ended_at setup last p.between >>=c λ b. ended_only b)
    (chain bare bare _ (ended_at setup last p.between) (λ b. ended_only b) (λ b. ended_only b) (over setup last p.between) (λ b. ended_bare b))

changed : (cs : List FrameChange) (s r : Result Between DialectFault) → s ≡ mapped bare r → with_changes cs s ≡ bare_outcome (with_changes cs r)
changed cs s (Ok b) e = ap (with_changes cs) e
changed cs s (Err f) e = ap (with_changes cs) e

last_same : (setup : Setup) (last : ℕ) (cs : List FrameChange) (p : Progress) →
    with_changes cs (finished setup last (bare_progress p)) ≡ bare_outcome (with_changes cs (finished setup last p))
last_same setup last cs p = changed cs _ (finished setup last p) (finish setup last p)

either_outcome : (b : Bool) (x y v w : Outcome) → x ≡ bare_outcome v → y ≡ bare_outcome w → (if b then x else y) ≡ bare_outcome (if b then v else w)
either_outcome true x y v w e f = e
either_outcome false x y v w e f = f

then_same : (setup : Setup) (line : ℕ) (p : Progress) (cs : List FrameChange) (s r : Result (Effect × FlowProgress) DialectFault)
    (rest : FlowProgress → List FrameChange → Outcome) → s ≡ mapped bare_effect r
    → ((q : FlowProgress) (more : List FrameChange) → rest (bare_flow q) more ≡ bare_outcome (rest q more))
    → then_on setup line (bare_progress p) cs s rest ≡ bare_outcome (then_on setup line p cs r rest)
then_same setup line p cs s (Err e) rest is same = ap (λ t. then_on setup line (bare_progress p) cs t rest) is
then_same setup line p cs s (Ok x) rest is same =
    let now : List FrameChange = cs ++ changed_by line p x.1.progress in
    ap (λ t. then_on setup line (bare_progress p) cs t rest) is
    ∙ either_outcome (ends x.0) _ _ _ _ (last_same setup line now x.1.progress) (same x.1 now)

line_or : (found : Option (List ℕ)) (x v : Outcome) (f g : List ℕ → Outcome) → x ≡ bare_outcome v → ((bytes : List ℕ) → f bytes ≡ bare_outcome (g bytes))
    → line_or_end found x f ≡ bare_outcome (line_or_end found v g)
line_or None x v f g e same = e
line_or (Some bytes) x v f g e same = same bytes

flow_same : (setup : Setup) (block_delete : Bool) (plan : Plan) (program : ProgramLines) (fuel : ℕ) (r : FlowProgress) (cs : List FrameChange) →
    flow_taken setup block_delete plan program fuel (bare_flow r) cs ≡ bare_outcome (flow_taken setup block_delete plan program fuel r cs)
unfolding flow_taken
flow_same setup block_delete plan program zero r cs =
    line_or (slice_get program.lines r.flow.line) _ _ _ _ (last_same setup program.last cs r.progress) (λ bytes. refl)
flow_same setup block_delete plan program (suc fuel) r cs =
    line_or (slice_get program.lines r.flow.line) _ _ _ _ (last_same setup program.last cs r.progress)
    (λ bytes. then_same setup (number_at r) r.progress cs _ (at (number_at r) (flow_line_taken setup block_delete plan (number_at r) bytes r)) _
    (at_same bare_effect (number_at r) _ _ (flow_line setup block_delete plan (number_at r) bytes r))
    (λ q more. flow_same setup block_delete plan program fuel q more))

went : (t : Taken) (q : Progress) (cs : List FrameChange) (flow : Progress → Outcome) (rest : Progress → List FrameChange → Outcome) →
    flow (bare_progress q) ≡ bare_outcome (flow q) → rest (bare_progress q) cs ≡ bare_outcome (rest q cs)
    → go_from t (bare_progress q) cs flow rest ≡ bare_outcome (go_from t q cs flow rest)
went HasFlow q cs flow rest f m = f
went Done q cs flow rest f m = either_outcome q.between.state.ended _ _ _ _ refl m

go_same : (line : ℕ) (p : Progress) (cs : List FrameChange) (s r : Result (Taken × Progress) DialectFault) (flow : Progress → Outcome)
    (rest : Progress → List FrameChange → Outcome) → s ≡ mapped bare_taken r
    → ((q : Progress) → flow (bare_progress q) ≡ bare_outcome (flow q))
    → ((q : Progress) (more : List FrameChange) → rest (bare_progress q) more ≡ bare_outcome (rest q more))
    → go_on line (bare_progress p) cs s flow rest ≡ bare_outcome (go_on line p cs r flow rest)
go_same line p cs s (Err e) flow rest is f m = ap (λ t. go_on line (bare_progress p) cs t flow rest) is
go_same line p cs s (Ok x) flow rest is f m =
    ap (λ t. go_on line (bare_progress p) cs t flow rest) is
    ∙ went x.0 x.1 (cs ++ changed_by line p x.1) flow rest (f x.1) (m x.1 (cs ++ changed_by line p x.1))

lines_same : (setup : Setup) (block_delete : Bool) (program : ProgramLines) (before : LinesBefore) (lines : List (List ℕ)) (p : Progress)
    (cs : List FrameChange) →
    lines_taken setup block_delete program before lines (bare_progress p) cs ≡ bare_outcome (lines_taken setup block_delete program before lines p cs)
unfolding lines_taken
lines_same setup block_delete program before [] p cs = last_same setup (number_of before.count) cs p
lines_same setup block_delete program before (bytes ∷ rest) p cs =
    let now : LinesBefore = lines_after before (first_byte bytes) in
    let mark : Mark = mark_of before p.between.dialect (first_byte bytes) in
    let number : ℕ = number_of now.count in
    either_outcome (is_end mark) _ _ _ _ (last_same setup number cs p)
    (go_same number p cs _ (at number (marked_taken setup block_delete number mark bytes p)) _ _
    (at_same bare_taken number _ _ (marked setup block_delete number mark bytes p))
    (λ q. flow_same setup block_delete _ program _ (record { progress = q; flow = begun before.count }) cs)
    (λ q more. lines_same setup block_delete program now rest q more))

mounts : (setup : Setup) (n : Option ℕ) (b : Between) → mounted setup n (bare b) ≡ mapped bare (mounted setup n b)
mounts setup None b = refl
mounts setup (Some n) b = plain setup 1 (mounting n) (with_notes (counted 1 kinds.FirstTool) b)

before : (w : Wanted) (d : Dialect) (setup : Setup) → before_lines nothing_wanted d setup ≡ mapped bare_progress (before_lines w d setup)
before w d setup =
    let p : Progress = start_progress w d setup.machine in
    at_same bare_progress 1 _ (with_mounted setup (first_number d setup.tools) p)
    (chain bare bare_progress _ (mounted setup (first_number d setup.tools) p.between) (λ b. Ok (with_between (bare_progress p) b)) (λ b. Ok (with_between p b))
    (mounts setup (first_number d setup.tools) p.between) (λ b. refl))

begun_same : (s r : Result Progress DialectFault) (rest : Progress → Outcome) → s ≡ mapped bare_progress r
    → ((p : Progress) → rest (bare_progress p) ≡ bare_outcome (rest p)) → from_begun s rest ≡ bare_outcome (from_begun r rest)
begun_same s (Ok p) rest is same = ap (λ t. from_begun t rest) is ∙ same p
begun_same s (Err e) rest is same = ap (λ t. from_begun t rest) is

pub nothing_changes : (w : Wanted) (d : Dialect) (setup : Setup) (block_delete : Bool) (text : List ℕ) →
    traced_in nothing_wanted d setup block_delete text ≡ bare_outcome (traced_in w d setup block_delete text)
nothing_changes w d setup block_delete text =
    begun_same _ (before_lines w d setup) _ (before w d setup)
    (λ p. lines_same setup (leaves_out block_delete text) (program_of d text) no_lines (split_lines text) p [])

bare_commands : (o : Outcome) → commands_in (bare_outcome o) ≡ commands_in o
bare_commands (Ok f) = refl
bare_commands (Err e) = refl

bare_changes : (o : Outcome) → changes_of (bare_outcome o) ≡ changes_of o
bare_changes (Ok f) = refl
bare_changes (Err e) = refl

-- the commands don't depend on what is wanted
pub same_commands : (w : Wanted) (d : Dialect) (setup : Setup) (block_delete : Bool) (text : List ℕ) →
    commands_in (traced_in nothing_wanted d setup block_delete text) ≡ commands_in (traced_in w d setup block_delete text)
same_commands w d setup block_delete text =
    ap commands_in (nothing_changes w d setup block_delete text) ∙ bare_commands (traced_in w d setup block_delete text)

-- nor do the changes of the frame
pub same_changes : (w : Wanted) (d : Dialect) (setup : Setup) (block_delete : Bool) (text : List ℕ) →
    changes_of (traced_in nothing_wanted d setup block_delete text) ≡ changes_of (traced_in w d setup block_delete text)
same_changes w d setup block_delete text =
    ap changes_of (nothing_changes w d setup block_delete text) ∙ bare_changes (traced_in w d setup block_delete text)
