-- What a program's plain lines lead to.
use Rattle.std.proofs.Common.{◌≡◌, ℕ, zero, suc, ℤ, slice_get, List, [], ◌∷◌, ◌++◌, Bool, true, false, Result, Ok, Err, refl, sym, ◌∙◌, ap, subst}
use Rattle.std.specs.Prelude.{if◌then◌else◌, nat_lt, ◌&&◌, IfOk, IfSome, Option, Some, None, is_some}
use Rattle.std.proofs.lemmas.List.{append_assoc, append-nil}
use Rattle.ngc_canonical.specs.declared.fault.Fault.{Fault}
use Rattle.ngc_canonical.specs.declared.fault.Fault.TheVariants.{NoEnd}
use Rattle.ngc_canonical.specs.State.{Setup, State, start_state}
use Rattle.ngc_canonical.specs.Steps.{◌>>=◌}
use Rattle.ngc_commands.specs.declared.command.Command.{Command}
use Rattle.ngc_frames.specs.declared.change.FrameChange.{FrameChange}
use Rattle.ngc_dialect_parameters.specs.declared.statement.Word.{Word}
use Rattle.ngc_dialect_names.specs.declared.dialect.Dialect.{Dialect}
use Rattle.ngc_dialect_reader.specs.declared.part.Part.{Part}
use Rattle.ngc_dialect_reader.specs.Line.{line_of}
use Rattle.ngc_dialect_reader.specs.Text.{text}
use Rattle.ngc_canned_cycles.specs.declared.cycle.CycleMove.{CycleMove}
use Rattle.ngc_dialect_drilling.specs.Holes.{cycle_of}
use Rattle.ngc_dialect_drilling.specs.Moves.{move_lines, stop_lines}
use Rattle.ngc_dialect_rules.specs.declared.code.Code.{Code}
use Rattle.ngc_dialect_rules.specs.declared.front.Front.{Front}
use Rattle.ngc_dialect_rules.specs.declared.front.KeptSeries.{KeptSeries}
use Rattle.ngc_dialect_rules.specs.declared.plain.Plain.{Plain}
use Rattle.ngc_dialect_rules.specs.declared.plan.LineCycle.{LineCycle}
use Rattle.ngc_dialect_rules.specs.declared.plan.LineResult.{LineResult}
use Rattle.ngc_dialect_rules.specs.Rules.{plain_lines}
use Rattle.ngc_line_reader.specs.Program.{split_lines}
use Rattle.ngc_dialect_path.specs.declared.step.PathStep.{PathStep}
use Rattle.ngc_dialect_path.specs.Paths.{held_line}
use Rattle.ngc_dialect_path.specs.Steps.{Written, path_end, path_step}
use Rattle.ngc_dialect_execution.specs.declared.beside.StepLines.{StepLines}
use Rattle.ngc_dialect_execution.specs.declared.beside.WaitingLine.{WaitingLine}
use Rattle.ngc_dialect_execution.specs.declared.doing.Depths.{Depths}
use Rattle.ngc_dialect_execution.specs.declared.fault.Cause.{Cause}
use Rattle.ngc_dialect_execution.specs.declared.fault.Cause.TheVariants as causes
use Rattle.ngc_dialect_execution.specs.declared.fault.DialectFault.{DialectFault}
use Rattle.ngc_dialect_execution.specs.declared.fault.DialectFault.TheVariants as faults
use Rattle.ngc_dialect_execution.specs.declared.text.LinesBefore.{LinesBefore}
use Rattle.ngc_dialect_execution.specs.declared.text.Mark.{Mark}
use Rattle.ngc_dialect_execution.specs.declared.text.Mark.TheVariants.{Begins, Ends, IsLine}
use Rattle.ngc_dialect_execution.specs.Executed.{PlainLine, Run, execute_plain, executed, kept_with, line_run, lines_at, run}
use Rattle.ngc_dialect_execution.specs.declared.lines.Taken.{Taken}
use Rattle.ngc_dialect_execution.specs.declared.lines.Taken.TheVariants.{Done, HasFlow}
use Rattle.ngc_dialect_flow.specs.declared.effect.Effect.{Effect}
use Rattle.ngc_dialect_flow.specs.declared.effect.Effect.TheVariants as effects
use Rattle.ngc_dialect_flow.specs.Next.{needs_values, next, skipped}
use Rattle.ngc_dialect_flow.specs.Places.{Plan}
use Rattle.ngc_dialect_flow.specs.Returning.{returned}
use Rattle.ngc_dialect_flow.specs.State.{Flow, begun}
use Rattle.ngc_dialect_parameters.specs.declared.statement.Statement.{Statement}
use Rattle.ngc_dialect_parameters.specs.Stored.{Stored}
use Rattle.ngc_dialect_parameters.specs.Storing.{called, set_by_all}
use Rattle.ngc_dialect_execution.specs.Ending.{Framed, Outcome, at, changed_by, ended_only, finished, framed_by, with_changes}
use Rattle.ngc_dialect_execution.specs.Faults.{◌>>=◌ as ◌>>=c◌, caused, stored_cause, ProgramSays}
use Rattle.ngc_dialect_execution.specs.Flow.{FlowProgress, depths, effect_done, effect_taken, ends, flow_line_taken, flow_statements_taken, flow_taken, level_begun, level_ended, level_taken, line_or_end, number_at, other_words, others_taken, passed_over, said_if, stepped, then_on, turned, values_from, with_line, with_values}
use Rattle.ngc_dialect_execution.specs.Laws.{AreLawful, AreExecuted, LeadTo}
use Rattle.ngc_dialect_execution.specs.Mounting.{before_lines, first_number, mounted, mounting, with_between}
use Rattle.ngc_dialect_execution.specs.Program.{leaves_out, commands_in, meaning_in, from_begun, go_from, go_on, lines_taken, marked_taken, traced_in}
use Rattle.ngc_dialect_execution.specs.declared.run.Wanted.{Wanted}
use Rattle.ngc_dialect_notes.specs.declared.kind.Kind.TheVariants as kinds
use Rattle.ngc_dialect_notes.specs.Noted.{statements_noted}
use Rattle.ngc_dialect_notes.specs.Notes.{counted}
use Rattle.ngc_dialect_repeats.specs.declared.polar.PolarLine.{PolarLine}
use Rattle.ngc_dialect_repeats.specs.declared.turns.Turning.{Turning}
use Rattle.ngc_dialect_repeats.specs.Kept.{line_words}
use Rattle.ngc_dialect_repeats.specs.Polar.{end_of, has_polar, polar_step}
use Rattle.ngc_dialect_repeats.specs.Turns.{turn_step}
use Rattle.ngc_dialect_execution.specs.Faults.{polar_caused}
use Rattle.ngc_dialect_execution.specs.Taken.{all_taken, polar_in, polar_step_taken, polar_steps_taken, polar_taken, turn_taken, turned_by, turned_taken, turning_in, turns_taken, with_polar}
use Rattle.ngc_dialect_execution.specs.Taken.{Between, Progress, Said, END, done_at, ended_at, has_flow, is_deleted, known_of, line_taken, nothing_wanted, parts_taken, said_at, start_progress, run_of, start_kept, statements_taken, with_notes, with_run, words_executed, words_noted, words_of, words_taken, end_noted, plain_taken, move_taken, moves_taken, with_series, start_taken, cycle_taken, cycle_if, made_taken, own_taken, path_ended, path_taken, plain_words_taken, put_off, released_if, step_carried, step_lines, step_taken, waiting_taken}
use Rattle.ngc_dialect_saved.specs.declared.modes.SavedModes.{SavedModes}
use Rattle.ngc_dialect_saved.specs.declared.saving.Saving.{Saving}
use Rattle.ngc_dialect_saved.specs.declared.saving.Saving.TheVariants.{Save, Forget, Restore, SaveToReturn}
use Rattle.ngc_dialect_saved.specs.Restoring.{restoring}
use Rattle.ngc_dialect_saved.specs.Savings.{saving_in}
use Rattle.ngc_dialect_saved.specs.Stack.{left, returning}
use Rattle.ngc_dialect_execution.specs.Taken.{call_begun, call_ended, line_by, line_words_taken, modes_in, restored, restored_from, restored_if, saving_done, switched, with_stack, word_restored, words_restored}
use Rattle.ngc_dialect_execution.specs.Text.{ProgramLines, first_byte, is_end, lines_after, mark_of, no_lines, number_of, program_of}
use Rattle.ngc_dialect_execution.proofs.Lawful.{are_lawful, in_order}

-- ---- plain lines that are kept

abbrev all_kept : List PlainLine → Option (List PlainLine) → Option (List PlainLine)
all_kept lines None = None
all_kept lines (Some ls) = Some (ls ++ lines)

kept_none : (kept : Option (List PlainLine)) → kept ≡ all_kept [] kept
kept_none None = refl
kept_none (Some ls) = ap (λ (l : List PlainLine). Some l) (sym (append-nil ls))

kept_more : (first more : List PlainLine) (kept : Option (List PlainLine)) → all_kept more (all_kept first kept) ≡ all_kept (first ++ more) kept
kept_more first more None = refl
kept_more first more (Some ls) = ap (λ (l : List PlainLine). Some l) (append_assoc ls first more)

kept_first : (l : PlainLine) (more : List PlainLine) (kept : Option (List PlainLine)) → all_kept more (kept_with l kept) ≡ all_kept (l ∷ more) kept
kept_first l more None = refl
kept_first l more (Some ls) = ap (λ (x : List PlainLine). Some x) (append_assoc ls (l ∷ []) more)

-- plain lines lead from a state to another, and are kept
pub record Leads (setup : Setup) (s t : Run) : Type 0 where
  pub lines : List PlainLine
  pub leads : executed setup lines s.state ≡ Ok t.state
  pub keeps : t.kept ≡ all_kept lines s.kept

stays_there : (setup : Setup) (s : Run) → Leads setup s s
unfolding executed
stays_there setup s = record { lines = []; leads = refl; keeps = kept_none s.kept }

-- plain lines lead from a state to a second, and from that to a third
on_leads : (setup : Setup) (s t u : Run) → Leads setup s t → Leads setup t u → Leads setup s u
on_leads setup s t u first more = record {
  lines = first.lines ++ more.lines;
  leads = in_order setup first.lines more.lines s.state
      ∙ ap (λ (r : Result State Fault). r >>= λ v. executed setup more.lines v) first.leads ∙ more.leads;
  keeps = more.keeps ∙ ap (all_kept more.lines) first.keeps ∙ kept_more first.lines more.lines s.kept;
}

-- one line, and those after it
one_leads : (setup : Setup) (l : PlainLine) (r : Run) (s : State) (t : Run) → r.state.ended ≡ false → execute_plain setup l r.state ≡ Ok s
    → Leads setup (record { state = s; kept = kept_with l r.kept }) t → Leads setup r t
unfolding executed
one_leads setup l r s t still does more =
    let same : Result State Fault = Ok r.state in
    record {
      lines = l ∷ more.lines;
      leads = ap (λ (b : Bool). if b then same else (execute_plain setup l r.state >>= λ u. executed setup more.lines u)) still
          ∙ ap (λ (q : Result State Fault). q >>= λ u. executed setup more.lines u) does ∙ more.leads;
      keeps = more.keeps ∙ kept_first l more.lines r.kept;
    }

-- plain lines that are run lead on
abbrev RunLeads : Setup → Run → Result Run Fault → Type 0
RunLeads setup r q = IfOk q (λ (u : Run). Leads setup r u)

abbrev after_one : PlainLine → Run → State → Run
after_one l r s = record { state = s; kept = kept_with l r.kept }

more_leads : (setup : Setup) (l : PlainLine) (r : Run) (s : State) (q : Result Run Fault) → r.state.ended ≡ false → execute_plain setup l r.state ≡ Ok s
    → RunLeads setup (after_one l r s) q → RunLeads setup r q
more_leads setup l r s (Ok u) still does h = one_leads setup l r s u still does h
more_leads setup l r s (Err e) still does h = tt

rest_leads : (setup : Setup) (l : PlainLine) (r : Run) (rest : Run → Result Run Fault) (q : Result State Fault) → r.state.ended ≡ false
    → execute_plain setup l r.state ≡ q → ((u : Run) → RunLeads setup u (rest u))
    → RunLeads setup r ((q >>= λ s. Ok (after_one l r s)) >>= rest)
rest_leads setup l r rest (Ok s) still does h = more_leads setup l r s (rest (after_one l r s)) still does (h (after_one l r s))
rest_leads setup l r rest (Err e) still does h = tt

run_leads : (setup : Setup) (lines : List PlainLine) (r : Run) → RunLeads setup r (run setup lines r)
unfolding run
run_leads setup [] r = stays_there setup r
run_leads setup (l ∷ ls) r =
    by_ended r.state.ended refl
    (λ e. rest_leads setup l r (λ u. run setup ls u) (execute_plain setup l r.state) e refl (λ u. run_leads setup ls u)) where
      by_ended : (b : Bool) → r.state.ended ≡ b → (r.state.ended ≡ false → RunLeads setup r (line_run setup l r >>= λ u. run setup ls u))
          → (let same : Result Run Fault = Ok r in RunLeads setup r (if b then same else (line_run setup l r >>= λ u. run setup ls u)))
      by_ended true e on = stays_there setup r
      by_ended false e on = on e

-- what is reached from the machine's start
abbrev first_run : Setup → Bool → Run
first_run setup w = record { state = start_state setup.machine; kept = start_kept w }

abbrev Reached : Setup → Bool → Run → Type 0
Reached setup w r = Leads setup (first_run setup w) r

on_from : (setup : Setup) (w : Bool) (s t : Run) → Reached setup w s → Leads setup s t → Reached setup w t
on_from setup w s t reached more = on_leads setup (first_run setup w) s t reached more

-- ---- a line

-- whatever the result of the first step is
after_any : {A B : Type 0} (Q : B → Type 0) (r : Result A Cause) (f : A → Result B Cause) → ((a : A) → IfOk (f a) Q) → IfOk (r >>=c f) Q
after_any Q (Ok a) f rest = rest a
after_any Q (Err e) f rest = tt

after_step : {A B : Type 0} (P : A → Type 0) (Q : B → Type 0) (r : Result A Cause) (f : A → Result B Cause) → IfOk r P → ((a : A) → P a → IfOk (f a) Q)
    → IfOk (r >>=c f) Q
after_step P Q (Ok a) f first rest = rest a first
after_step P Q (Err e) f first rest = tt

caused_run : (setup : Setup) (b : Between) (front : Front) (r : Result Run Fault) → IfOk r (λ (u : Run). Leads setup (run_of b) u) →
    IfOk (caused causes.Plain r >>=c λ u. Ok (with_run b front u)) (λ (c : Between). Leads setup (run_of b) (run_of c))
caused_run setup b front (Ok u) e = e
caused_run setup b front (Err fault) e = tt

-- what is known leads on
abbrev KnownLeads : Setup → Run → Result Between Cause → Type 0
KnownLeads setup s r = IfOk r (λ (c : Between). Leads setup s (run_of c))

from_there : (setup : Setup) (s t : Run) (r : Result Between Cause) → Leads setup s t → KnownLeads setup t r → KnownLeads setup s r
from_there setup s t (Ok b) first leads = on_leads setup s t (run_of b) first leads
from_there setup s t (Err e) first leads = tt

-- a second step goes on from where the first one leads
chain : (setup : Setup) (s : Run) (r : Result Between Cause) (f : Between → Result Between Cause) → KnownLeads setup s r →
    ((c : Between) → KnownLeads setup (run_of c) (f c)) → KnownLeads setup s (r >>=c f)
chain setup s (Ok c) f leads rest = from_there setup s (run_of c) (f c) leads (rest c)
chain setup s (Err e) f leads rest = tt

plain_lead : (setup : Setup) (line : ℕ) (ps : List Plain) (b : Between) → KnownLeads setup (run_of b) (plain_taken setup line ps b)
plain_lead setup line ps b = caused_run setup b b.front (run setup (lines_at line ps) (run_of b)) (run_leads setup (lines_at line ps) (run_of b))

move_leads : (setup : Setup) (line : ℕ) (m : CycleMove) (b : Between) → KnownLeads setup (run_of b) (move_taken setup line m b)
move_leads setup line m b =
    after_any (λ (c : Between). Leads setup (run_of b) (run_of c)) (caused causes.Rule (move_lines (known_of b) m)) _ (λ ps. plain_lead setup line ps b)

moves_lead : (setup : Setup) (line : ℕ) (ms : List CycleMove) (b : Between) → KnownLeads setup (run_of b) (moves_taken setup line ms b)
moves_lead setup line [] b = stays_there setup (run_of b)
moves_lead setup line (m ∷ ms) b =
    chain setup (run_of b) (move_taken setup line m b) (λ c. moves_taken setup line ms c) (move_leads setup line m b) (λ c. moves_lead setup line ms c)

start_leads : (setup : Setup) (line : ℕ) (stop : Option Code) (kept : KeptSeries) (moves : List CycleMove) (b : Between) →
    KnownLeads setup (run_of b) (start_taken setup line stop kept moves b)
unfolding start_taken
start_leads setup line stop kept moves b =
    chain setup (run_of b) (moves_taken setup line moves (with_series kept b)) (λ c. plain_taken setup line (stop_lines stop) c)
    (moves_lead setup line moves (with_series kept b)) (λ c. plain_lead setup line (stop_lines stop) c)

cycle_leads : (setup : Setup) (line : ℕ) (words : List Word) (cycle : LineCycle) (b : Between) → KnownLeads setup (run_of b) (cycle_taken setup line words cycle b)
cycle_leads setup line words cycle b =
    after_any (λ (c : Between). Leads setup (run_of b) (run_of c)) (caused causes.Rule (cycle_of (known_of b) cycle.code words)) _
    (λ start. start_leads setup line cycle.stop start.0 start.1 b)

cycle_if_leads : (setup : Setup) (line : ℕ) (words : List Word) (cycle : Option LineCycle) (b : Between) →
    KnownLeads setup (run_of b) (cycle_if setup line words cycle b)
cycle_if_leads setup line words None b = stays_there setup (run_of b)
cycle_if_leads setup line words (Some cycle) b = cycle_leads setup line words cycle b

after_plain : (setup : Setup) (line : ℕ) (words : List Word) (made : LineResult) (b : Between) (r : Result Run Fault) →
    IfOk r (λ (u : Run). Leads setup (run_of b) u) →
    KnownLeads setup (run_of b) (caused causes.Plain r >>=c λ u. cycle_if setup line words made.cycle (with_run b made.front u))
after_plain setup line words made b (Ok u) e =
    from_there setup (run_of b) u (cycle_if setup line words made.cycle (with_run b made.front u)) e
    (cycle_if_leads setup line words made.cycle (with_run b made.front u))
after_plain setup line words made b (Err fault) e = tt

made_leads : (setup : Setup) (line : ℕ) (words : List Word) (made : LineResult) (ps : List Plain) (b : Between) →
    KnownLeads setup (run_of b) (made_taken setup line words made ps b)
unfolding made_taken
made_leads setup line words made ps b =
    after_plain setup line words made b (run setup (lines_at line ps) (run_of b)) (run_leads setup (lines_at line ps) (run_of b))

-- ---- beside a path

-- a state leads on
abbrev StateLeads : Setup → Run → Result Run Cause → Type 0
StateLeads setup s r = IfOk r (λ (t : Run). Leads setup s t)

executed_leads : (setup : Setup) (s : Run) (r : Result Run Fault) → IfOk r (λ (u : Run). Leads setup s u) → StateLeads setup s (caused causes.Plain r)
executed_leads setup s (Ok t) e = e
executed_leads setup s (Err fault) e = tt

from_state : (setup : Setup) (s t : Run) (r : Result Run Cause) → Leads setup s t → StateLeads setup t r → StateLeads setup s r
from_state setup s t (Ok u) first leads = on_leads setup s t u first leads
from_state setup s t (Err e) first leads = tt

then_state : (setup : Setup) (s : Run) (r : Result Run Cause) (f : Run → Result Run Cause) → StateLeads setup s r
    → ((t : Run) → StateLeads setup t (f t)) → StateLeads setup s (r >>=c f)
then_state setup s (Ok t) f leads rest = from_state setup s t (f t) leads (rest t)
then_state setup s (Err e) f leads rest = tt

waiting_leads : (setup : Setup) (ws : List WaitingLine) (s : Run) → StateLeads setup s (waiting_taken setup ws s)
unfolding waiting_taken
waiting_leads setup [] s = stays_there setup s
waiting_leads setup (w ∷ ws) s =
    then_state setup s _ _ (executed_leads setup s (run setup (lines_at w.line w.plain.items) s) (run_leads setup (lines_at w.line w.plain.items) s))
    (λ t. waiting_leads setup ws t)

released_leads : (setup : Setup) (releases : Bool) (held : ℕ) (made : List Plain) (ws : List WaitingLine) (s : Run) →
    StateLeads setup s (released_if setup releases held made ws s)
released_leads setup false held made ws s = stays_there setup s
released_leads setup true held made ws s =
    then_state setup s _ _ (executed_leads setup s (run setup (lines_at held made) s) (run_leads setup (lines_at held made) s)) (λ t. waiting_leads setup ws t)

own_leads : (setup : Setup) (waits : Bool) (line : ℕ) (own : List Plain) (s : Run) → StateLeads setup s (own_taken setup waits line own s)
own_leads setup true line own s = stays_there setup s
own_leads setup false line own s = executed_leads setup s (run setup (lines_at line own) s) (run_leads setup (lines_at line own) s)

step_leads : (setup : Setup) (at : StepLines) (step : PathStep) (w : Written) (ws : List WaitingLine) (s : Run) →
    StateLeads setup s (step_taken setup at step w ws s)
step_leads setup at step w ws s =
    then_state setup s _ _ (released_leads setup step.releases at.held w.made ws s) (λ t. own_leads setup step.waits at.own w.own t)

carried_leads : (setup : Setup) (at : StepLines) (step : PathStep) (w : Written) (b : Between) →
    KnownLeads setup (run_of b) (step_carried setup at step w b)
unfolding step_carried
carried_leads setup at step w b =
    after_step (λ (s : Run). Leads setup (run_of b) s) (λ (c : Between). Leads setup (run_of b) (run_of c)) (step_taken setup at step w b.waiting (run_of b)) _
    (step_leads setup at step w b.waiting (run_of b))
    (λ s leads. after_any (λ (c : Between). Leads setup (run_of b) (run_of c)) (put_off at.own step w.own b.waiting) _ (λ ws. leads))

path_leads : (setup : Setup) (line : ℕ) (words : List Word) (b : Between) → KnownLeads setup (run_of b) (path_taken setup line words b)
unfolding path_taken
path_leads setup line words b =
    after_any (λ (c : Between). Leads setup (run_of b) (run_of c)) (caused causes.Rule (path_step (known_of b) setup.tools line b.path words)) _
    (λ x. carried_leads setup (step_lines b.path line) x.0 x.1 b)

either_known : (setup : Setup) (s : Run) (b : Bool) (x y : Result Between Cause) → KnownLeads setup s x → KnownLeads setup s y
    → KnownLeads setup s (if b then x else y)
either_known setup s true x y h k = h
either_known setup s false x y h k = k

plain_words_lead : (setup : Setup) (line : ℕ) (words : List Word) (b : Between) → KnownLeads setup (run_of b) (plain_words_taken setup line words b)
unfolding plain_words_taken
plain_words_lead setup line words b =
    after_any (λ (c : Between). Leads setup (run_of b) (run_of c)) (caused causes.Rule (plain_lines (known_of b) words)) _
    (λ made. either_known setup (run_of b) (is_some made.0.compensation) _ _ (path_leads setup line words b)
    (made_leads setup line words made.0 made.1 b))

words_executed_lead : (setup : Setup) (line : ℕ) (words : List Word) (b : Between) → KnownLeads setup (run_of b) (words_executed setup line words b)
unfolding words_executed
words_executed_lead setup line words b =
    either_known setup (run_of b) (is_some b.path) _ _ (path_leads setup line words b) (plain_words_lead setup line words b)

words_lead : (setup : Setup) (line : ℕ) (words : List Word) (b : Between) → KnownLeads setup (run_of b) (words_taken setup line words b)
words_lead setup line words b = words_executed_lead setup line words (words_noted line words b)

-- the turns of an arc, and lines with polar words
turn_leads : (setup : Setup) (line : ℕ) (t : Turning) (words : List Word) (left : ℕ) (b : Between) →
    KnownLeads setup (run_of b) (turn_taken setup line t words left b)
turn_leads setup line t words left b =
    after_any (λ (c : Between). Leads setup (run_of b) (run_of c)) (caused causes.Polar (turn_step t left)) _
    (λ l. words_lead setup line (line_words l words) b)

turns_lead : (setup : Setup) (line : ℕ) (t : Turning) (words : List Word) (left : ℕ) (b : Between) →
    KnownLeads setup (run_of b) (turns_taken setup line t words left b)
unfolding turns_taken
turns_lead setup line t words zero b = stays_there setup (run_of b)
turns_lead setup line t words (suc left) b =
    chain setup (run_of b) (turn_taken setup line t words (suc left) b) (λ c. turns_taken setup line t words left c)
    (turn_leads setup line t words (suc left) b) (λ c. turns_lead setup line t words left c)

turned_by_leads : (setup : Setup) (line : ℕ) (words : List Word) (t : Option Turning) (b : Between) →
    KnownLeads setup (run_of b) (turned_by setup line words t b)
turned_by_leads setup line words None b = words_lead setup line words b
turned_by_leads setup line words (Some t) b =
    turns_lead setup line t words t.count (with_notes (counted line kinds.SeveralTurns) b)

turning_leads : (setup : Setup) (line : ℕ) (words : List Word) (b : Between) → KnownLeads setup (run_of b) (turned_taken setup line words b)
turning_leads setup line words b = turned_by_leads setup line words (turning_in words b) b

polar_step_leads : (setup : Setup) (line : ℕ) (p : PolarLine) (words : List Word) (left : ℕ) (b : Between) →
    KnownLeads setup (run_of b) (polar_step_taken setup line p words left b)
polar_step_leads setup line p words left b =
    after_any (λ (c : Between). Leads setup (run_of b) (run_of c)) (caused causes.Polar (polar_step p left)) _
    (λ l. turning_leads setup line (line_words l words) b)

polar_steps_lead : (setup : Setup) (line : ℕ) (p : PolarLine) (words : List Word) (left : ℕ) (b : Between) →
    KnownLeads setup (run_of b) (polar_steps_taken setup line p words left b)
unfolding polar_steps_taken
polar_steps_lead setup line p words zero b = stays_there setup (run_of b)
polar_steps_lead setup line p words (suc left) b =
    chain setup (run_of b) (polar_step_taken setup line p words (suc left) b) (λ c. polar_steps_taken setup line p words left c)
    (polar_step_leads setup line p words (suc left) b) (λ c. polar_steps_lead setup line p words left c)

polar_leads : (setup : Setup) (line : ℕ) (words : List Word) (b : Between) → KnownLeads setup (run_of b) (polar_taken setup line words b)
polar_leads setup line words b =
    after_any (λ (c : Between). Leads setup (run_of b) (run_of c)) (polar_caused (polar_in words b)) _
    (λ p. chain setup (run_of b) (polar_steps_taken setup line p words p.count (with_notes (counted line kinds.PolarWords) b))
    (λ c. Ok (with_polar (end_of p) c)) (polar_steps_lead setup line p words p.count (with_notes (counted line kinds.PolarWords) b))
    (λ c. stays_there setup (run_of c)))

all_lead : (setup : Setup) (line : ℕ) (words : List Word) (b : Between) → KnownLeads setup (run_of b) (all_taken setup line words b)
unfolding all_taken
all_lead setup line words b = either_known setup (run_of b) (has_polar words) _ _ (polar_leads setup line words b) (turning_leads setup line words b)

-- saved modes
word_restored_leads : (setup : Setup) (line : ℕ) (w : Option Word) (b : Between) → KnownLeads setup (run_of b) (word_restored setup line w b)
word_restored_leads setup line None b = stays_there setup (run_of b)
word_restored_leads setup line (Some w) b =
    chain setup (run_of b) (words_executed setup line (w ∷ []) b) (λ c. Ok (switched (w ∷ []) c)) (words_executed_lead setup line (w ∷ []) b)
    (λ c. stays_there setup (run_of c))

words_restored_lead : (setup : Setup) (line : ℕ) (ws : List (Option Word)) (b : Between) → KnownLeads setup (run_of b) (words_restored setup line ws b)
unfolding words_restored
words_restored_lead setup line [] b = stays_there setup (run_of b)
words_restored_lead setup line (w ∷ ws) b =
    chain setup (run_of b) (word_restored setup line w b) (λ c. words_restored setup line ws c) (word_restored_leads setup line w b)
    (λ c. words_restored_lead setup line ws c)

restored_leads : (setup : Setup) (line : ℕ) (modes : SavedModes) (b : Between) → KnownLeads setup (run_of b) (restored setup line modes b)
restored_leads setup line modes b = words_restored_lead setup line (restoring modes (modes_in b)) b

restored_if_leads : (setup : Setup) (line : ℕ) (modes : Option SavedModes) (b : Between) → KnownLeads setup (run_of b) (restored_if setup line modes b)
restored_if_leads setup line None b = stays_there setup (run_of b)
restored_if_leads setup line (Some modes) b = restored_leads setup line modes b

restored_from_leads : (setup : Setup) (line : ℕ) (modes : Option SavedModes) (b : Between) → KnownLeads setup (run_of b) (restored_from setup line modes b)
restored_from_leads setup line None b = tt
restored_from_leads setup line (Some modes) b = restored_leads setup line modes b

saving_leads : (setup : Setup) (line : ℕ) (saving : Saving) (b : Between) → KnownLeads setup (run_of b) (saving_done setup line saving b)
saving_leads setup line Save b = stays_there setup (run_of b)
saving_leads setup line Forget b = stays_there setup (run_of b)
saving_leads setup line Restore b = restored_from_leads setup line b.saved.here.modes b
saving_leads setup line SaveToReturn b = stays_there setup (run_of b)

line_by_leads : (setup : Setup) (line : ℕ) (words : List Word) (saving : Option Saving) (b : Between) →
    KnownLeads setup (run_of b) (line_by setup line words saving b)
line_by_leads setup line words None b =
    chain setup (run_of b) (all_taken setup line words b) (λ c. Ok (switched words c)) (all_lead setup line words b) (λ c. stays_there setup (run_of c))
line_by_leads setup line words (Some saving) b = either_known setup (run_of b) (is_some b.path) _ _ tt (saving_leads setup line saving b)

line_words_lead : (setup : Setup) (line : ℕ) (words : List Word) (b : Between) → KnownLeads setup (run_of b) (line_words_taken setup line words b)
unfolding line_words_taken
line_words_lead setup line words b = line_by_leads setup line words (saving_in b.dialect words) b

-- the end of the program
path_end_leads : (setup : Setup) (b : Between) → KnownLeads setup (run_of b) (path_ended setup b)
unfolding path_ended
path_end_leads setup b =
    after_any (λ (c : Between). Leads setup (run_of b) (run_of c)) (caused causes.Rule (path_end (known_of b) b.path)) _
    (λ e. after_step (λ (r : Run). Leads setup (run_of b) r) (λ (c : Between). Leads setup (run_of b) (run_of c))
    (released_if setup e.0 (held_line b.path) e.1 b.waiting (run_of b)) _ (released_leads setup e.0 (held_line b.path) e.1 b.waiting (run_of b)) (λ r leads. leads))

end_unchanged : (line : ℕ) (b : Between) → run_of (end_noted line b) ≡ run_of b
end_unchanged line b = by b.state.ended where
  by : (e : Bool) → run_of (if e then b else with_notes (counted line kinds.ProgramEnd) b) ≡ run_of b
  by true = refl
  by false = refl

end_leads : (setup : Setup) (line : ℕ) (b : Between) → KnownLeads setup (run_of b) (ended_at setup line b)
unfolding ended_at
end_leads setup line b =
    subst (λ (r : Run). KnownLeads setup r (path_ended setup (end_noted line b) >>=c λ c. plain_taken setup line END c)) (end_unchanged line b)
    (chain setup (run_of (end_noted line b)) (path_ended setup (end_noted line b)) (λ c. plain_taken setup line END c)
    (path_end_leads setup (end_noted line b)) (λ c. plain_lead setup line END c))

-- the result leads on
abbrev LeadsOn : Setup → Run → Result (Taken × Progress) Cause → Type 0
LeadsOn setup s r = IfOk r (λ (x : Taken × Progress). Leads setup s (run_of x.1.between))

-- a line takes effect
effect_leads : (setup : Setup) (line : ℕ) (text : List ℕ) (said : List Statement) (words : List Word) (p : Progress) →
    IfOk (done_at setup line text said words p) (λ (q : Progress). Leads setup (run_of p.between) (run_of q.between))
unfolding done_at
effect_leads setup line text said words p =
    after_any (λ (q : Progress). Leads setup (run_of p.between) (run_of q.between)) (caused stored_cause (set_by_all text said p.values)) _
    (λ k. after_step (λ (c : Between). Leads setup (run_of p.between) (run_of c)) (λ (q : Progress). Leads setup (run_of p.between) (run_of q.between))
    (line_words_taken setup line words (with_notes (statements_noted line said) p.between)) _
    (line_words_lead setup line words (with_notes (statements_noted line said) p.between)) (λ b leads. leads))

either_leads : (setup : Setup) (s : Run) (b : Bool) (x y : Result (Taken × Progress) Cause) → LeadsOn setup s x → LeadsOn setup s y
    → LeadsOn setup s (if b then x else y)
either_leads setup s true x y h k = h
either_leads setup s false x y h k = k

statements_lead : (setup : Setup) (line : ℕ) (text : List ℕ) (parts : List Part) (p : Progress) →
    LeadsOn setup (run_of p.between) (statements_taken setup line text parts p)
unfolding statements_taken
statements_lead setup line text parts p =
    after_any (λ (x : Taken × Progress). Leads setup (run_of p.between) (run_of x.1.between)) (said_at p.values text parts) _
    (λ said. either_leads setup (run_of p.between) (has_flow p.between.dialect said.statements) _ _ (stays_there setup (run_of p.between))
    (after_step (λ (q : Progress). Leads setup (run_of p.between) (run_of q.between)) (λ (x : Taken × Progress). Leads setup (run_of p.between) (run_of x.1.between))
    (done_at setup line text said.statements (words_of said.statements) p) _
    (effect_leads setup line text said.statements (words_of said.statements) p) (λ q leads. leads)))

parts_lead : (setup : Setup) (block_delete : Bool) (line : ℕ) (bytes : List ℕ) (parts : List Part) (p : Progress) →
    LeadsOn setup (run_of p.between) (parts_taken setup block_delete line bytes parts p)
parts_lead setup block_delete line bytes parts p =
    either_leads setup (run_of p.between) (block_delete && is_deleted parts) _ _ (stays_there setup (run_of p.between))
    (statements_lead setup line (text bytes) parts p)

line_leads : (setup : Setup) (block_delete : Bool) (line : ℕ) (bytes : List ℕ) (p : Progress) →
    LeadsOn setup (run_of p.between) (line_taken setup block_delete line bytes p)
unfolding line_taken
line_leads setup block_delete line bytes p =
    after_any (λ (x : Taken × Progress). Leads setup (run_of p.between) (run_of x.1.between)) (caused causes.Reading (line_of p.between.dialect bytes)) _
    (λ parts. parts_lead setup block_delete line bytes parts p)

marked_leads : (setup : Setup) (block_delete : Bool) (line : ℕ) (mark : Mark) (bytes : List ℕ) (p : Progress) →
    LeadsOn setup (run_of p.between) (marked_taken setup block_delete line mark bytes p)
marked_leads setup block_delete line Begins bytes p = stays_there setup (run_of p.between)
marked_leads setup block_delete line Ends bytes p = stays_there setup (run_of p.between)
marked_leads setup block_delete line IsLine bytes p = line_leads setup block_delete line bytes p

-- ---- a line of the flow

abbrev FlowLeads : Setup → Run → Result (Effect × FlowProgress) Cause → Type 0
FlowLeads setup s r = IfOk r (λ (x : Effect × FlowProgress). Leads setup s (run_of x.1.progress.between))

either_flow : (setup : Setup) (s : Run) (b : Bool) (x y : Result (Effect × FlowProgress) Cause) → FlowLeads setup s x → FlowLeads setup s y
    → FlowLeads setup s (if b then x else y)
either_flow setup s true x y h k = h
either_flow setup s false x y h k = k

-- an effect moves nothing, but that saved modes are restored
abbrev EffectLeads : Setup → Progress → Result Progress Cause → Type 0
EffectLeads setup p r = IfOk r (λ (q : Progress). Leads setup (run_of p.between) (run_of q.between))

values_stay : (setup : Setup) (p : Progress) (r : Result Stored Cause) → EffectLeads setup p (with_values p r)
values_stay setup p (Ok k) = stays_there setup (run_of p.between)
values_stay setup p (Err e) = tt

effect_leads_on : (setup : Setup) (effect : Effect) (arguments : List (Option ℤ)) (p : Progress) → EffectLeads setup p (effect_taken effect arguments p)
effect_leads_on setup effects.Stay arguments p = stays_there setup (run_of p.between)
effect_leads_on setup effects.Enter arguments p = values_stay setup p (caused stored_cause (called arguments p.values))
effect_leads_on setup (effects.Return value) arguments p = values_stay setup p (caused stored_cause (returned value p.values))
effect_leads_on setup effects.End arguments p = stays_there setup (run_of p.between)

line_left : (setup : Setup) (p : Progress) (r : Result Between Cause) → KnownLeads setup (run_of p.between) r → EffectLeads setup p (with_line p r)
line_left setup p (Ok b) h = h
line_left setup p (Err e) h = tt

ended_leads : (setup : Setup) (line : ℕ) (p : Progress) → EffectLeads setup p (level_ended setup line p)
ended_leads setup line p =
    line_left setup p (call_ended setup line p.between) (restored_if_leads setup line (returning p.between.saved) (with_stack (left p.between.saved) p.between))

begun_leads : (setup : Setup) (p : Progress) → EffectLeads setup p (level_begun p)
begun_leads setup p = stays_there setup (run_of p.between)

effect_on : (setup : Setup) (p q : Progress) (r : Result Progress Cause) → Leads setup (run_of p.between) (run_of q.between) → EffectLeads setup q r
    → EffectLeads setup p r
effect_on setup p q (Ok x) first h = on_leads setup (run_of p.between) (run_of q.between) (run_of x.between) first h
effect_on setup p q (Err e) first h = tt

effect_chain : (setup : Setup) (p : Progress) (r : Result Progress Cause) (f : Progress → Result Progress Cause) → EffectLeads setup p r
    → ((q : Progress) → EffectLeads setup q (f q)) → EffectLeads setup p (r >>=c f)
effect_chain setup p (Ok q) f h rest = effect_on setup p q (f q) h (rest q)
effect_chain setup p (Err e) f h rest = tt

either_effect : (setup : Setup) (p : Progress) (b : Bool) (x y : Result Progress Cause) → EffectLeads setup p x → EffectLeads setup p y
    → EffectLeads setup p (if b then x else y)
either_effect setup p true x y h k = h
either_effect setup p false x y h k = k

level_leads : (setup : Setup) (line : ℕ) (d : Depths) (p : Progress) → EffectLeads setup p (level_taken setup line d p)
level_leads setup line d p =
    either_effect setup p (nat_lt d.before d.after) _ _ (begun_leads setup p)
    (either_effect setup p (nat_lt d.after d.before) _ _ (ended_leads setup line p)
    (either_effect setup p (d.returns && nat_lt 0 d.after) _ _
    (effect_chain setup p (level_ended setup line p) (λ q. level_begun q) (ended_leads setup line p) (λ q. begun_leads setup q))
    (stays_there setup (run_of p.between))))

abbrev with_effect : Effect → Result Progress Cause → Result (Effect × Progress) Cause
with_effect effect r = r >>=c λ q. Ok (effect, q)

abbrev with_flow : Flow → Result (Effect × Progress) Cause → Result (Effect × FlowProgress) Cause
with_flow flow r = r >>=c λ done. Ok (done.0, record { progress = done.1; flow = flow })

-- an effect, and then the level
level_after : (setup : Setup) (line : ℕ) (d : Depths) (flow : Flow) (effect : Effect) (p : Progress) (r : Result Progress Cause) → EffectLeads setup p r
    → FlowLeads setup (run_of p.between) (with_flow flow (r >>=c λ q. with_effect effect (level_taken setup line d q)))
level_after setup line d flow effect p (Ok q) leads = by (level_taken setup line d q) (effect_on setup p q _ leads (level_leads setup line d q)) where
  by : (x : Result Progress Cause) → EffectLeads setup p x → FlowLeads setup (run_of p.between) (with_flow flow (with_effect effect x))
  by (Ok z) h = h
  by (Err e) h = tt
level_after setup line d flow effect p (Err e) leads = tt

effect_done_leads : (setup : Setup) (line : ℕ) (d : Depths) (flow : Flow) (effect : Effect) (arguments : List (Option ℤ)) (p : Progress) →
    FlowLeads setup (run_of p.between) (with_flow flow (effect_done setup line d effect arguments p))
effect_done_leads setup line d flow effect arguments p =
    level_after setup line d flow effect p (effect_taken effect arguments p) (effect_leads_on setup effect arguments p)

stepped_leads : (setup : Setup) (line : ℕ) (plan : Plan) (text : List ℕ) (said : Said) (s : Flow) (p : Progress) →
    FlowLeads setup (run_of p.between) (stepped setup line plan text said s p)
unfolding stepped
stepped_leads setup line plan text said s p =
    after_any (λ (x : Effect × FlowProgress). Leads setup (run_of p.between) (run_of x.1.progress.between))
    (caused causes.Flow (next plan (values_from text said) s)) _
    (λ step. effect_done_leads setup line (depths s step.0 said.statements) step.0 step.1 said.arguments p)

turned_leads : (setup : Setup) (line : ℕ) (plan : Plan) (text : List ℕ) (said : Said) (s : Flow) (p : Progress) →
    FlowLeads setup (run_of p.between) (turned setup line plan text said s p)
turned_leads setup line plan text said s p =
    either_flow setup (run_of p.between) p.between.state.ended _ _ (stays_there setup (run_of p.between)) (stepped_leads setup line plan text said s p)

flow_from_there : (setup : Setup) (s t : Run) (r : Result (Effect × FlowProgress) Cause) → Leads setup s t → FlowLeads setup t r → FlowLeads setup s r
flow_from_there setup s t (Ok x) first leads = on_leads setup s t (run_of x.1.progress.between) first leads
flow_from_there setup s t (Err e) first leads = tt

others_lead : (setup : Setup) (plan : Plan) (line : ℕ) (text : List ℕ) (said : Said) (r : FlowProgress) →
    FlowLeads setup (run_of r.progress.between) (others_taken setup plan line text said r)
unfolding others_taken
others_lead setup plan line text said r =
    after_step (λ (q : Progress). Leads setup (run_of r.progress.between) (run_of q.between))
    (λ (x : Effect × FlowProgress). Leads setup (run_of r.progress.between) (run_of x.1.progress.between))
    (done_at setup line text said.statements (other_words (words_of said.statements)) r.progress) _
    (effect_leads setup line text said.statements (other_words (words_of said.statements)) r.progress)
    (λ q leads. flow_from_there setup (run_of r.progress.between) (run_of q.between) (turned setup line plan text said r.flow q) leads
    (turned_leads setup line plan text said r.flow q))

flow_statements_lead : (setup : Setup) (plan : Plan) (line : ℕ) (text : List ℕ) (parts : List Part) (r : FlowProgress) →
    FlowLeads setup (run_of r.progress.between) (flow_statements_taken setup plan line text parts r)
unfolding flow_statements_taken
flow_statements_lead setup plan line text parts r =
    after_any (λ (x : Effect × FlowProgress). Leads setup (run_of r.progress.between) (run_of x.1.progress.between))
    (said_if (needs_values plan r.flow) r.progress.values text parts) _ (λ said. others_lead setup plan line text said r)

passed_stays : (setup : Setup) (r : FlowProgress) → FlowLeads setup (run_of r.progress.between) (passed_over r)
passed_stays setup r =
    after_any (λ (x : Effect × FlowProgress). Leads setup (run_of r.progress.between) (run_of x.1.progress.between))
    (caused causes.Flow (skipped r.flow)) _ (λ s. stays_there setup (run_of r.progress.between))

flow_line_leads : (setup : Setup) (block_delete : Bool) (plan : Plan) (line : ℕ) (bytes : List ℕ) (r : FlowProgress) →
    FlowLeads setup (run_of r.progress.between) (flow_line_taken setup block_delete plan line bytes r)
unfolding flow_line_taken
flow_line_leads setup block_delete plan line bytes r =
    after_any (λ (x : Effect × FlowProgress). Leads setup (run_of r.progress.between) (run_of x.1.progress.between))
    (caused causes.Reading (line_of r.progress.between.dialect bytes)) _
    (λ parts. either_flow setup (run_of r.progress.between) (block_delete && is_deleted parts) _ _ (passed_stays setup r)
    (flow_statements_lead setup plan line (text bytes) parts r))

-- ---- a program

at_any : {A : Type 0} (Q : A → Type 0) (line : ℕ) (r : Result A Cause) → IfOk r Q → IfOk (at line r) Q
at_any Q line (Ok x) h = h
at_any Q line (Err e) h = tt

-- what is known once a program has ended
record IsDone (setup : Setup) (w : Bool) (b : Between) : Type 0 where
  reached : Reached setup w (run_of b)
  ended : b.state.ended ≡ true

handed_out : (setup : Setup) (w : Bool) (b : Between) → Reached setup w (run_of b) → IfOk (ended_only b) (IsDone setup w)
handed_out setup w b reached = by_ended b.state.ended refl where
  by_ended : (e : Bool) → b.state.ended ≡ e
      → (let none : Result Between Cause = Err (causes.Plain NoEnd) in IfOk (if e then Ok b else none) (IsDone setup w))
  by_ended true e = record { reached = reached; ended = e }
  by_ended false e = tt

finish_executed : (setup : Setup) (w : Bool) (last : ℕ) (p : Progress) → Reached setup w (run_of p.between) → IfOk (finished setup last p) (IsDone setup w)
unfolding finished
finish_executed setup w last p reached =
    at_any (IsDone setup w) last (ended_at setup last p.between >>=c λ b. ended_only b)
    (after_step (λ (c : Between). Leads setup (run_of p.between) (run_of c)) (IsDone setup w) (ended_at setup last p.between) _
    (end_leads setup last p.between)
    (λ b leads. handed_out setup w b (on_from setup w (run_of p.between) (run_of b) reached leads)))

-- the commands of an outcome are those of plain lines, which are kept
pub record IsTraced (setup : Setup) (w : Bool) (f : Framed) : Type 0 where
  pub lines : List PlainLine
  pub lead : LeadTo setup lines f.commands
  pub keeps : f.lines ≡ all_kept lines (start_kept w)

abbrev Executes : Setup → Bool → Outcome → Type 0
Executes setup w o = IfOk o (IsTraced setup w)

traced_by : (setup : Setup) (w : Bool) (b : Between) (cs : List FrameChange) → IsDone setup w b → IsTraced setup w (framed_by b cs)
traced_by setup w b cs done = record {
  lines = done.reached.lines;
  lead = record { state = b.state; leads = done.reached.leads; ended = done.ended; are = refl };
  keeps = done.reached.keeps;
}

either : (setup : Setup) (w : Bool) (b : Bool) (last more : Outcome) → Executes setup w last → Executes setup w more → Executes setup w (if b then last else more)
either setup w true last more l m = l
either setup w false last more l m = m

with_executed : (setup : Setup) (w : Bool) (cs : List FrameChange) (r : Result Between DialectFault) → IfOk r (IsDone setup w)
    → Executes setup w (with_changes cs r)
with_executed setup w cs (Ok b) h = traced_by setup w b cs h
with_executed setup w cs (Err e) h = tt

last_executed : (setup : Setup) (w : Bool) (last : ℕ) (cs : List FrameChange) (p : Progress) → Reached setup w (run_of p.between)
    → Executes setup w (with_changes cs (finished setup last p))
last_executed setup w last cs p reached = with_executed setup w cs (finished setup last p) (finish_executed setup w last p reached)

-- a program's flow, from a line on
then_executed : (setup : Setup) (w : Bool) (line : ℕ) (p : Progress) (cs : List FrameChange) (r : Result (Effect × FlowProgress) DialectFault)
    (rest : FlowProgress → List FrameChange → Outcome) → Reached setup w (run_of p.between)
    → IfOk r (λ (x : Effect × FlowProgress). Leads setup (run_of p.between) (run_of x.1.progress.between))
    → ((q : FlowProgress) (more : List FrameChange) → Reached setup w (run_of q.progress.between) → Executes setup w (rest q more))
    → Executes setup w (then_on setup line p cs r rest)
then_executed setup w line p cs (Err e) rest reached leads more = tt
then_executed setup w line p cs (Ok x) rest reached leads more =
    let there : Reached setup w (run_of x.1.progress.between) = on_from setup w (run_of p.between) (run_of x.1.progress.between) reached leads in
    let now : List FrameChange = cs ++ changed_by line p x.1.progress in
    either setup w (ends x.0) _ _ (last_executed setup w line now x.1.progress there) (more x.1 now there)

line_executed : (setup : Setup) (w : Bool) (found : Option (List ℕ)) (over : Outcome) (line : List ℕ → Outcome) → Executes setup w over
    → ((bytes : List ℕ) → Executes setup w (line bytes)) → Executes setup w (line_or_end found over line)
line_executed setup w None over line h k = h
line_executed setup w (Some bytes) over line h k = k bytes

flow_executed : (setup : Setup) (w : Bool) (block_delete : Bool) (plan : Plan) (program : ProgramLines) (fuel : ℕ) (r : FlowProgress) (cs : List FrameChange) →
    Reached setup w (run_of r.progress.between) → Executes setup w (flow_taken setup block_delete plan program fuel r cs)
unfolding flow_taken
flow_executed setup w block_delete plan program zero r cs reached =
    line_executed setup w (slice_get program.lines r.flow.line) _ _ (last_executed setup w program.last cs r.progress reached) (λ bytes. tt)
flow_executed setup w block_delete plan program (suc fuel) r cs reached =
    line_executed setup w (slice_get program.lines r.flow.line) _ _ (last_executed setup w program.last cs r.progress reached)
    (λ bytes. then_executed setup w (number_at r) r.progress cs
    (at (number_at r) (flow_line_taken setup block_delete plan (number_at r) bytes r)) _ reached
    (at_any (λ (x : Effect × FlowProgress). Leads setup (run_of r.progress.between) (run_of x.1.progress.between)) (number_at r) _
    (flow_line_leads setup block_delete plan (number_at r) bytes r))
    (λ q more there. flow_executed setup w block_delete plan program fuel q more there))

-- the lines of a text
went_from : (setup : Setup) (w : Bool) (t : Taken) (q : Progress) (cs : List FrameChange) (flow : Progress → Outcome) (rest : Progress → List FrameChange → Outcome) →
    Reached setup w (run_of q.between) → Executes setup w (flow q) → Executes setup w (rest q cs) → Executes setup w (go_from t q cs flow rest)
went_from setup w HasFlow q cs flow rest there f m = f
went_from setup w Done q cs flow rest there f m = by_ended q.between.state.ended refl where
  by_ended : (b : Bool) → q.between.state.ended ≡ b
      → (let all : Outcome = Ok (framed_by q.between cs) in Executes setup w (if b then all else rest q cs))
  by_ended true e = traced_by setup w q.between cs (record { reached = there; ended = e })
  by_ended false e = m

went_on : (setup : Setup) (w : Bool) (line : ℕ) (p : Progress) (cs : List FrameChange) (r : Result (Taken × Progress) DialectFault) (flow : Progress → Outcome)
    (rest : Progress → List FrameChange → Outcome) → Reached setup w (run_of p.between) →
    IfOk r (λ (x : Taken × Progress). Leads setup (run_of p.between) (run_of x.1.between))
    → ((q : Progress) → Reached setup w (run_of q.between) → Executes setup w (flow q))
    → ((q : Progress) (more : List FrameChange) → Reached setup w (run_of q.between) → Executes setup w (rest q more))
    → Executes setup w (go_on line p cs r flow rest)
went_on setup w line p cs (Err e) flow rest reached leads f more = tt
went_on setup w line p cs (Ok x) flow rest reached leads f more =
    let there : Reached setup w (run_of x.1.between) = on_from setup w (run_of p.between) (run_of x.1.between) reached leads in
    let now : List FrameChange = cs ++ changed_by line p x.1 in
    went_from setup w x.0 x.1 now flow rest there (f x.1 there) (more x.1 now there)

lines_executed : (setup : Setup) (w : Bool) (block_delete : Bool) (program : ProgramLines) (before : LinesBefore) (lines : List (List ℕ)) (p : Progress)
    (cs : List FrameChange) → Reached setup w (run_of p.between) → Executes setup w (lines_taken setup block_delete program before lines p cs)
unfolding lines_taken
lines_executed setup w block_delete program before [] p cs reached = last_executed setup w (number_of before.count) cs p reached
lines_executed setup w block_delete program before (bytes ∷ rest) p cs reached =
    let now : LinesBefore = lines_after before (first_byte bytes) in
    let mark : Mark = mark_of before p.between.dialect (first_byte bytes) in
    let number : ℕ = number_of now.count in
    either setup w (is_end mark) _ _ (last_executed setup w number cs p reached)
    (went_on setup w number p cs (at number (marked_taken setup block_delete number mark bytes p)) _ _ reached
    (at_any (λ (x : Taken × Progress). Leads setup (run_of p.between) (run_of x.1.between)) number _
    (marked_leads setup block_delete number mark bytes p))
    (λ q there. flow_executed setup w block_delete _ program _ (record { progress = q; flow = begun before.count }) cs there)
    (λ q more there. lines_executed setup w block_delete program now rest q more there))

-- the tool that is mounted first
mounted_leads : (setup : Setup) (n : Option ℕ) (b : Between) → KnownLeads setup (run_of b) (mounted setup n b)
mounted_leads setup None b = stays_there setup (run_of b)
mounted_leads setup (Some n) b = plain_lead setup 1 (mounting n) (with_notes (counted 1 kinds.FirstTool) b)

with_mounted_reached : (setup : Setup) (w : Bool) (p : Progress) (r : Result Between Cause) → Reached setup w (run_of p.between) → KnownLeads setup (run_of p.between) r
    → IfOk (at 1 (r >>=c λ b. Ok (with_between p b))) (λ (q : Progress). Reached setup w (run_of q.between))
with_mounted_reached setup w p (Ok b) reached leads = on_from setup w (run_of p.between) (run_of b) reached leads
with_mounted_reached setup w p (Err e) reached leads = tt

before_reached : (w : Wanted) (d : Dialect) (setup : Setup) → IfOk (before_lines w d setup) (λ (p : Progress). Reached setup w.lines (run_of p.between))
before_reached w d setup =
    let p = start_progress w d setup.machine in
    with_mounted_reached setup w.lines p (mounted setup (first_number d setup.tools) p.between) (stays_there setup (run_of p.between))
    (mounted_leads setup (first_number d setup.tools) p.between)

from_begun_executed : (setup : Setup) (w : Bool) (r : Result Progress DialectFault) (rest : Progress → Outcome) → IfOk r (λ (p : Progress). Reached setup w (run_of p.between))
    → ((p : Progress) → Reached setup w (run_of p.between) → Executes setup w (rest p)) → Executes setup w (from_begun r rest)
from_begun_executed setup w (Ok p) rest there on = on p there
from_begun_executed setup w (Err e) rest there on = tt

pub program_traced : (w : Wanted) (d : Dialect) (setup : Setup) (block_delete : Bool) (text : List ℕ) →
    Executes setup w.lines (traced_in w d setup block_delete text)
program_traced w d setup block_delete text =
    from_begun_executed setup w.lines (before_lines w d setup) _ (before_reached w d setup)
    (λ p there. lines_executed setup w.lines (leaves_out block_delete text) (program_of d text) no_lines (split_lines text) p [] there)

-- ---- what a call returns

said_of : {X : Type 0} (view : X → Framed) (Q : Framed → Type 0) (r : Result X DialectFault) (m : Outcome) →
    ProgramSays view r m → IfOk m Q → IfOk r (λ x. Q (view x))
said_of view Q (Ok x) m says h = subst (λ (k : Outcome). IfOk k Q) says h
said_of view Q (Err e) m says h = tt

pub are_traced : {X : Type 0} (view : X → Framed) (r : Result X DialectFault) (w : Wanted) (d : Dialect) (setup : Setup) (block_delete : Bool)
    (text : List ℕ) → ProgramSays view r (traced_in w d setup block_delete text)
    → IfOk r (λ x. IsTraced setup w.lines (view x))
are_traced view r w d setup block_delete text says =
    said_of view (IsTraced setup w.lines) r (traced_in w d setup block_delete text) says (program_traced w d setup block_delete text)

executed_by : (setup : Setup) (w : Bool) (f : Framed) → IsTraced setup w f → AreExecuted setup f.commands
executed_by setup w f t = record { state = t.lead.state; reached = record { lines = t.lines; leads = t.lead.leads }; ended = t.lead.ended; are = t.lead.are }

pub are_executed : {X : Type 0} (view : X → Framed) (r : Result X DialectFault) (w : Bool) (setup : Setup) →
    IfOk r (λ x. IsTraced setup w (view x)) → IfOk r (λ x. AreExecuted setup (view x).commands)
are_executed view (Ok x) w setup t = executed_by setup w (view x) t
are_executed view (Err e) w setup t = tt

lead_by : (setup : Setup) (lines : List PlainLine) (commands : List Command) (w : Bool) (kept : Option (List PlainLine)) →
    LeadTo setup lines commands → kept ≡ all_kept lines (start_kept w) → IfSome kept (λ ls. LeadTo setup ls commands)
lead_by setup lines commands true kept lead keeps = subst (λ (k : Option (List PlainLine)). IfSome k (λ ls. LeadTo setup ls commands)) (sym keeps) lead
lead_by setup lines commands false kept lead keeps = subst (λ (k : Option (List PlainLine)). IfSome k (λ ls. LeadTo setup ls commands)) (sym keeps) tt

pub kept_lead : {X : Type 0} (view : X → Framed) (r : Result X DialectFault) (w : Bool) (setup : Setup) →
    IfOk r (λ x. IsTraced setup w (view x)) → IfOk r (λ x. IfSome (view x).lines (λ lines. LeadTo setup lines (view x).commands))
kept_lead view (Ok x) w setup t = lead_by setup t.lines (view x).commands w (view x).lines t.lead t.keeps
kept_lead view (Err e) w setup t = tt

-- what holds of lawful commands
pub lawfully : {X : Type 0} (view : X → List Command) (Q : List Command → Type 0) (setup : Setup) (r : Result X DialectFault) →
    ((s : State) → s.ended ≡ true → AreLawful setup.machine.start s → Q s.commands) → IfOk r (λ x. AreExecuted setup (view x))
    → IfOk r (λ x. Q (view x))
lawfully view Q setup (Ok x) law e =
    subst Q (sym e.are) (law e.state e.ended (are_lawful setup e.reached.lines e.state e.reached.leads))
lawfully view Q setup (Err fault) law e = tt

-- what is said of everything together is said of each
pub commands_said : {X : Type 0} (view : X → Framed) (r : Result X DialectFault) (o : Outcome) →
    ProgramSays view r o → ProgramSays (λ x. (view x).commands) r (commands_in o)
commands_said view (Ok x) o says = ap commands_in says
commands_said view (Err (faults.At line cause)) o says = ap commands_in says
commands_said view (Err faults.Memory) o says = tt

pub part_said : {X A : Type 0} (view : X → Framed) (part : Framed → A) (of : Outcome → A) (r : Result X DialectFault) (o : Outcome) →
    ((f : Framed) → of (Ok f) ≡ part f) → ProgramSays view r o → IfOk r (λ x. part (view x) ≡ of o)
part_said view part of (Ok x) o is says = sym (ap of says ∙ is (view x))
part_said view part of (Err e) o is says = tt

of_outcome : (setup : Setup) (w : Bool) (o : Outcome) (commands : List Command) → Executes setup w o → commands_in o ≡ Ok commands → AreExecuted setup commands
of_outcome setup w (Ok f) commands t e = let same : f.commands ≡ commands = cc in subst (AreExecuted setup) same (executed_by setup w f t)
of_outcome setup w (Err fault) commands t e = absurd (cc e)

-- the commands that a program means are those of plain lines
pub meaning_executed : (d : Dialect) (setup : Setup) (block_delete : Bool) (text : List ℕ) (commands : List Command) →
    meaning_in d setup block_delete text ≡ Ok commands → AreExecuted setup commands
meaning_executed d setup block_delete text commands means =
    of_outcome setup false (traced_in nothing_wanted d setup block_delete text) commands (program_traced nothing_wanted d setup block_delete text) means
