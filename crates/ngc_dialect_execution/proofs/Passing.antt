-- What a step returns, passed on by the steps after it; and the moves of a canned cycle, one after another.
use Rattle.std.proofs.Common.{◌≡◌, ℕ, zero, suc, ◌+◌, ◌-◌, ◌<◌, List, [], ◌∷◌, Bool, true, false, Result, Ok, Err, refl, sym, ◌∙◌, ap, subst, arith}
use Rattle.std.specs.Prelude.{Option, is_some, if◌then◌else◌}
use Rattle.ngc_canned_cycles.specs.declared.cycle.CycleMove.{CycleMove}
use Rattle.ngc_canonical.specs.State.{Setup}
use Rattle.ngc_dialect_parameters.specs.declared.statement.Word.{Word}
use Rattle.ngc_dialect_drilling.specs.Holes.{cycle_of}
use Rattle.ngc_dialect_drilling.specs.Moves.{move_lines, stop_lines}
use Rattle.ngc_dialect_rules.specs.declared.code.Code.{Code}
use Rattle.ngc_dialect_rules.specs.declared.fault.Fault.{Fault as RuleFault}
use Rattle.ngc_dialect_rules.specs.declared.front.KeptSeries.{KeptSeries}
use Rattle.ngc_dialect_rules.specs.declared.plain.Plain.{Plain}
use Rattle.ngc_dialect_rules.specs.declared.plan.LineCycle.{LineCycle}
use Rattle.ngc_dialect_rules.specs.declared.plan.LineResult.{LineResult}
use Rattle.ngc_dialect_rules.specs.Rules.{plain_lines}
use Rattle.ngc_dialect_rules.specs.Straight.{straight_result}
use Rattle.ngc_dialect_rules.specs.declared.straight_line.StraightLine.{StraightLine}
use Rattle.ngc_modal_state.specs.declared.modes.Modes.{Modes}
use Rattle.ngc_dialect_execution.specs.declared.fault.Cause.{Cause}
use Rattle.ngc_dialect_execution.specs.declared.fault.Cause.TheVariants as causes
use Rattle.ngc_dialect_execution.specs.declared.fault.Refusal.{Refusal}
use Rattle.ngc_dialect_execution.specs.declared.fault.Refusal.TheVariants.{Because, Memory}
use Rattle.ngc_dialect_execution.specs.Executed.{Run, lines_at, run}
use Rattle.ngc_dialect_execution.specs.Faults.{◌>>=◌, caused, Says}
use Rattle.ngc_dialect_repeats.specs.declared.polar.PolarLine.{PolarLine}
use Rattle.ngc_dialect_repeats.specs.declared.turns.Turning.{Turning}
use Rattle.ngc_dialect_path.specs.declared.step.PathStep.{PathStep}
use Rattle.ngc_dialect_path.specs.Steps.{Written}
use Rattle.ngc_dialect_execution.specs.declared.beside.StepLines.{StepLines}
use Rattle.ngc_dialect_execution.specs.declared.beside.WaitingLine.{WaitingLine}
use Rattle.ngc_dialect_execution.specs.Taken.{put_off, step_carried, step_taken, with_step}
use Rattle.ngc_dialect_execution.specs.Taken.{polar_step_taken, polar_steps_taken, turn_taken, turns_taken}
use Rattle.ngc_dialect_execution.specs.Taken.{Between, known_of, run_of, with_run, with_series, plain_taken, move_taken, moves_taken, start_taken, cycle_taken, made_or_path, made_taken, path_taken, plain_words_taken}

-- a step that always succeeds after another
pub goes_on : {X Y Z : Type 0} (view : X → Y) (seen : X → Z) (f : Y → Result Z Cause) (r : Result X Refusal) (says : Result Y Cause) →
    Says view r says → ((x : X) → f (view x) ≡ Ok (seen x)) → Says seen r (says >>= f)
goes_on view seen f (Ok x) says e rest = ap (λ s. s >>= f) e ∙ rest x
goes_on view seen f (Err (Because cause)) says e rest = ap (λ s. s >>= f) e
goes_on view seen f (Err Memory) says e rest = tt

-- a refusal of the first step is one of both
pub stops : {X Y Z W : Type 0} (view : X → Y) (seen : W → Z) (f : Y → Result Z Cause) (refusal : Refusal) (says : Result Y Cause) →
    Says view (Err refusal) says → Says seen (Err refusal) (says >>= f)
stops view seen f (Because cause) says e = ap (λ s. s >>= f) e
stops view seen f Memory says e = tt

-- after a first step that succeeded both return what the second returns
pub follows : {X Y Z : Type 0} (seen : X → Z) (f : Y → Result Z Cause) (r : Result X Refusal) (says : Result Y Cause) (y : Y) →
    says ≡ Ok y → Says seen r (f y) → Says seen r (says >>= f)
follows seen f r says y e h = subst (λ s. Says seen r s) (sym (ap (λ s. s >>= f) e)) h

-- ---- a step beside a path

-- what waits after a step whose plain lines were executed
abbrev then_waits : StepLines → PathStep → Written → Between → Run → Result Between Cause
then_waits at step w b r = put_off at.own step w.own b.waiting >>= λ (us : List WaitingLine). Ok (with_step b step r us)

pub step_stops : {V W : Type 0} (view : V → Run) (seen : W → Between) (setup : Setup) (at : StepLines) (step : PathStep) (w : Written) (b : Between)
    (ws : List WaitingLine) (refusal : Refusal) → ws ≡ b.waiting →
    Says view (Err refusal) (step_taken setup at step w ws (run_of b)) → Says seen (Err refusal) (step_carried setup at step w b)
unfolding step_carried
step_stops view seen setup at step w b ws refusal same e =
    stops view seen (then_waits at step w b) refusal (step_taken setup at step w b.waiting (run_of b))
    (subst (λ (us : List WaitingLine). Says view (Err refusal) (step_taken setup at step w us (run_of b))) same e)

taken_here : (setup : Setup) (at : StepLines) (step : PathStep) (w : Written) (b : Between) (ws : List WaitingLine) (r : Run) → ws ≡ b.waiting →
    step_taken setup at step w ws (run_of b) ≡ Ok r → step_carried setup at step w b ≡ then_waits at step w b r
unfolding step_carried
taken_here setup at step w b ws r same e =
    ap (λ (x : Result Run Cause). x >>= then_waits at step w b) (subst (λ (us : List WaitingLine). step_taken setup at step w us (run_of b) ≡ Ok r) same e)

pub wait_stops : {V W : Type 0} (view : V → List WaitingLine) (seen : W → Between) (setup : Setup) (at : StepLines) (step : PathStep) (w : Written)
    (b : Between) (ws : List WaitingLine) (r : Run) (refusal : Refusal) → ws ≡ b.waiting → step_taken setup at step w ws (run_of b) ≡ Ok r →
    Says view (Err refusal) (put_off at.own step w.own b.waiting) → Says seen (Err refusal) (step_carried setup at step w b)
wait_stops view seen setup at step w b ws r refusal same taken e =
    subst (λ (x : Result Between Cause). Says seen (Err refusal) x) (sym (taken_here setup at step w b ws r same taken))
    (stops view seen (λ (us : List WaitingLine). Ok (with_step b step r us)) refusal (put_off at.own step w.own b.waiting) e)

pub step_done : (setup : Setup) (at : StepLines) (step : PathStep) (w : Written) (b : Between) (ws us : List WaitingLine) (r : Run) → ws ≡ b.waiting →
    step_taken setup at step w ws (run_of b) ≡ Ok r → put_off at.own step w.own b.waiting ≡ Ok us → step_carried setup at step w b ≡ Ok (with_step b step r us)
step_done setup at step w b ws us r same taken waits =
    taken_here setup at step w b ws r same taken ∙ ap (λ (x : Result (List WaitingLine) Cause). x >>= λ (vs : List WaitingLine). Ok (with_step b step r vs)) waits

-- ---- plain lines, and moves

pub plain_says : (setup : Setup) (line : ℕ) (ps : List Plain) (b : Between) (s : Run) (r : Result (Unit {0}) Refusal) →
    Says (λ (x : Unit {0}). s) r (caused causes.Plain (run setup (lines_at line ps) (run_of b))) →
    Says (λ (x : Unit {0}). with_run b b.front s) r (plain_taken setup line ps b)
plain_says setup line ps b s r e =
    goes_on (λ (x : Unit {0}). s) (λ (x : Unit {0}). with_run b b.front s) (λ t. Ok (with_run b b.front t)) r
    (caused causes.Plain (run setup (lines_at line ps) (run_of b))) e (λ x. refl)

pub moves_next : (setup : Setup) (line : ℕ) (ms rest : List CycleMove) (m : CycleMove) (b c : Between) (whole : Result Between Cause) →
    ms ≡ m ∷ rest → move_taken setup line m b ≡ Ok c → moves_taken setup line ms b ≡ whole → moves_taken setup line rest c ≡ whole
moves_next setup line ms rest m b c whole is taken e =
    sym (ap (λ (r : Result Between Cause). r >>= λ d. moves_taken setup line rest d) taken)
    ∙ sym (ap (λ (l : List CycleMove). moves_taken setup line l b) is) ∙ e

pub moves_stop : {W : Type 0} (setup : Setup) (line : ℕ) (ms rest : List CycleMove) (m : CycleMove) (b c : Between) (whole : Result Between Cause)
    (seen : W → Between) (refusal : Refusal) →
    ms ≡ m ∷ rest → Says (λ (x : Unit {0}). c) (Err refusal) (move_taken setup line m b) → moves_taken setup line ms b ≡ whole
    → Says seen (Err refusal) whole
moves_stop setup line ms rest m b c whole seen refusal is says e =
    subst (λ (r : Result Between Cause). Says seen (Err refusal) r) (sym (ap (λ (l : List CycleMove). moves_taken setup line l b) is) ∙ e)
    (stops (λ (x : Unit {0}). c) seen (λ d. moves_taken setup line rest d) refusal (move_taken setup line m b) says)

pub moves_end : (setup : Setup) (line : ℕ) (ms : List CycleMove) (b : Between) (whole : Result Between Cause) →
    ms ≡ [] → moves_taken setup line ms b ≡ whole → whole ≡ Ok b
moves_end setup line ms b whole is e = sym e ∙ ap (λ (l : List CycleMove). moves_taken setup line l b) is

-- ---- lines of other words

pub turns_next : (setup : Setup) (line : ℕ) (t : Turning) (words : List Word) (left : ℕ) (b c : Between) (whole : Result Between Cause) →
    0 < left → turn_taken setup line t words left b ≡ Ok c → turns_taken setup line t words left b ≡ whole → turns_taken setup line t words (left - 1) c ≡ whole
unfolding turns_taken
turns_next setup line t words zero b c whole some taken e = absurd (omega arith)
turns_next setup line t words (suc left) b c whole some taken e =
    let one : suc left - 1 ≡ left = omega arith in
    ap (λ (n : ℕ). turns_taken setup line t words n c) one ∙ (sym (ap (λ (r : Result Between Cause). r >>= λ d. turns_taken setup line t words left d) taken) ∙ e)

pub turns_stop : {W : Type 0} (setup : Setup) (line : ℕ) (t : Turning) (words : List Word) (left : ℕ) (b c : Between) (whole : Result Between Cause)
    (seen : W → Between) (refusal : Refusal) → 0 < left → Says (λ (x : Unit {0}). c) (Err refusal) (turn_taken setup line t words left b)
    → turns_taken setup line t words left b ≡ whole → Says seen (Err refusal) whole
unfolding turns_taken
turns_stop setup line t words zero b c whole seen refusal some says e = absurd (omega arith)
turns_stop setup line t words (suc left) b c whole seen refusal some says e =
    subst (λ (r : Result Between Cause). Says seen (Err refusal) r) e
    (stops (λ (x : Unit {0}). c) seen (λ d. turns_taken setup line t words left d) refusal (turn_taken setup line t words (suc left) b) says)

pub turns_end : (setup : Setup) (line : ℕ) (t : Turning) (words : List Word) (left : ℕ) (b : Between) (whole : Result Between Cause) →
    left ≡ 0 → turns_taken setup line t words left b ≡ whole → whole ≡ Ok b
unfolding turns_taken
turns_end setup line t words left b whole is e = sym e ∙ ap (λ (n : ℕ). turns_taken setup line t words n b) is

pub polar_steps_next : (setup : Setup) (line : ℕ) (p : PolarLine) (words : List Word) (left : ℕ) (b c : Between) (whole : Result Between Cause) →
    0 < left → polar_step_taken setup line p words left b ≡ Ok c → polar_steps_taken setup line p words left b ≡ whole → polar_steps_taken setup line p words (left - 1) c ≡ whole
unfolding polar_steps_taken
polar_steps_next setup line p words zero b c whole some taken e = absurd (omega arith)
polar_steps_next setup line p words (suc left) b c whole some taken e =
    let one : suc left - 1 ≡ left = omega arith in
    ap (λ (n : ℕ). polar_steps_taken setup line p words n c) one ∙ (sym (ap (λ (r : Result Between Cause). r >>= λ d. polar_steps_taken setup line p words left d) taken) ∙ e)

pub polar_steps_stop : {W : Type 0} (setup : Setup) (line : ℕ) (p : PolarLine) (words : List Word) (left : ℕ) (b c : Between) (whole : Result Between Cause)
    (seen : W → Between) (refusal : Refusal) → 0 < left → Says (λ (x : Unit {0}). c) (Err refusal) (polar_step_taken setup line p words left b)
    → polar_steps_taken setup line p words left b ≡ whole → Says seen (Err refusal) whole
unfolding polar_steps_taken
polar_steps_stop setup line p words zero b c whole seen refusal some says e = absurd (omega arith)
polar_steps_stop setup line p words (suc left) b c whole seen refusal some says e =
    subst (λ (r : Result Between Cause). Says seen (Err refusal) r) e
    (stops (λ (x : Unit {0}). c) seen (λ d. polar_steps_taken setup line p words left d) refusal (polar_step_taken setup line p words (suc left) b) says)

pub polar_steps_end : (setup : Setup) (line : ℕ) (p : PolarLine) (words : List Word) (left : ℕ) (b : Between) (whole : Result Between Cause) →
    left ≡ 0 → polar_steps_taken setup line p words left b ≡ whole → whole ≡ Ok b
unfolding polar_steps_taken
polar_steps_end setup line p words left b whole is e = sym e ∙ ap (λ (n : ℕ). polar_steps_taken setup line p words n b) is

pub move_refused : (setup : Setup) (line : ℕ) (m : CycleMove) (b : Between) (fault : RuleFault) →
    move_lines (known_of b) m ≡ Err fault → move_taken setup line m b ≡ Err (causes.Rule fault)
move_refused setup line m b fault e =
    ap (λ (r : Result (List Plain) RuleFault). caused causes.Rule r >>= λ ps. plain_taken setup line ps b) e

pub move_written : (setup : Setup) (line : ℕ) (m : CycleMove) (b c : Between) (ps : List Plain) (r : Result (Unit {0}) Refusal) →
    move_lines (known_of b) m ≡ Ok ps → Says (λ (x : Unit {0}). c) r (plain_taken setup line ps b)
    → Says (λ (x : Unit {0}). c) r (move_taken setup line m b)
move_written setup line m b c ps r e says =
    follows (λ (x : Unit {0}). c) (λ qs. plain_taken setup line qs b) r (caused causes.Rule (move_lines (known_of b) m)) ps
    (ap (λ (q : Result (List Plain) RuleFault). caused causes.Rule q) e) says

-- ---- a cycle

pub start_stops : (setup : Setup) (line : ℕ) (stop : Option Code) (kept : KeptSeries) (moves : List CycleMove) (b c d : Between) (refusal : Refusal) →
    Says (λ (x : Unit {0}). c) (Err refusal) (moves_taken setup line moves (with_series kept b))
    → Says (λ (x : Unit {0}). d) (Err refusal) (start_taken setup line stop kept moves b)
unfolding start_taken
start_stops setup line stop kept moves b c d refusal says =
    stops (λ (x : Unit {0}). c) (λ (x : Unit {0}). d) (λ e. plain_taken setup line (stop_lines stop) e) refusal
    (moves_taken setup line moves (with_series kept b)) says

pub start_follows : (setup : Setup) (line : ℕ) (stop : Option Code) (kept : KeptSeries) (moves : List CycleMove) (b c d : Between)
    (r : Result (Unit {0}) Refusal) →
    moves_taken setup line moves (with_series kept b) ≡ Ok c → Says (λ (x : Unit {0}). d) r (plain_taken setup line (stop_lines stop) c)
    → Says (λ (x : Unit {0}). d) r (start_taken setup line stop kept moves b)
unfolding start_taken
start_follows setup line stop kept moves b c d r e says =
    follows (λ (x : Unit {0}). d) (λ f. plain_taken setup line (stop_lines stop) f) r (moves_taken setup line moves (with_series kept b)) c e says

pub start_written : (setup : Setup) (line : ℕ) (stop : Option Code) (kept : KeptSeries) (moves : List CycleMove) (b c d : Between) (ps : List Plain)
    (r : Result (Unit {0}) Refusal) →
    moves_taken setup line moves (with_series kept b) ≡ Ok c → ps ≡ stop_lines stop → Says (λ (x : Unit {0}). d) r (plain_taken setup line ps c)
    → Says (λ (x : Unit {0}). d) r (start_taken setup line stop kept moves b)
start_written setup line stop kept moves b c d ps r e is says =
    start_follows setup line stop kept moves b c d r e
    (subst (λ (qs : List Plain). Says (λ (x : Unit {0}). d) r (plain_taken setup line qs c)) is says)

pub cycle_refused : (setup : Setup) (line : ℕ) (words : List Word) (cycle : LineCycle) (b : Between) (fault : RuleFault) →
    cycle_of (known_of b) cycle.code words ≡ Err fault → cycle_taken setup line words cycle b ≡ Err (causes.Rule fault)
cycle_refused setup line words cycle b fault e =
    ap (λ (r : Result (KeptSeries × List CycleMove) RuleFault). caused causes.Rule r >>= λ start. start_taken setup line cycle.stop start.0 start.1 b) e

pub cycle_starts : (setup : Setup) (line : ℕ) (words : List Word) (cycle : LineCycle) (b d : Between) (start : KeptSeries × List CycleMove)
    (r : Result (Unit {0}) Refusal) →
    cycle_of (known_of b) cycle.code words ≡ Ok start → Says (λ (x : Unit {0}). d) r (start_taken setup line cycle.stop start.0 start.1 b)
    → Says (λ (x : Unit {0}). d) r (cycle_taken setup line words cycle b)
cycle_starts setup line words cycle b d start r e says =
    follows (λ (x : Unit {0}). d) (λ s. start_taken setup line cycle.stop s.0 s.1 b) r (caused causes.Rule (cycle_of (known_of b) cycle.code words)) start
    (ap (λ (q : Result (KeptSeries × List CycleMove) RuleFault). caused causes.Rule q) e) says

-- ---- the words of a line

words_follow : (setup : Setup) (line : ℕ) (words : List Word) (b d : Between) (made : LineResult × List Plain) (r : Result (Unit {0}) Refusal) →
    plain_lines (known_of b) words ≡ Ok made → Says (λ (x : Unit {0}). d) r (made_or_path setup line words made b)
    → Says (λ (x : Unit {0}). d) r (plain_words_taken setup line words b)
unfolding plain_words_taken
words_follow setup line words b d made r e says =
    follows (λ (x : Unit {0}). d) (λ m. made_or_path setup line words m b) r (caused causes.Rule (plain_lines (known_of b) words)) made
    (ap (λ (q : Result (LineResult × List Plain) RuleFault). caused causes.Rule q) e) says

no : {A : Type 0} (b : Bool) (x y : A) → b ≡ false → (if b then x else y) ≡ y
no true x y e = absurd (cc e)
no false x y e = refl

pub words_go_on : (setup : Setup) (line : ℕ) (words : List Word) (b d : Between) (made : LineResult × List Plain) (begins : Bool)
    (r : Result (Unit {0}) Refusal) → plain_lines (known_of b) words ≡ Ok made → begins ≡ is_some made.0.compensation → begins ≡ false
    → Says (λ (x : Unit {0}). d) r (made_taken setup line words made.0 made.1 b) → Says (λ (x : Unit {0}). d) r (plain_words_taken setup line words b)
words_go_on setup line words b d made begins r e is fails says =
    words_follow setup line words b d made r e
    (subst (Says (λ (x : Unit {0}). d) r)
    (sym (no (is_some made.0.compensation) (path_taken setup line words b) (made_taken setup line words made.0 made.1 b) (sym is ∙ fails))) says)

-- a line of one straight motion, which has no cycle
pub goes_straight : (setup : Setup) (line : ℕ) (words : List Word) (b d : Between) (made : StraightLine) (ps : List Plain) (modes : Modes)
    (r : Result (Unit {0}) Refusal) → modes ≡ b.state.modes
    → plain_lines (record (known_of b) { modes = modes }) words ≡ Ok (straight_result made b.front, ps)
    → Says (λ (x : Unit {0}). d) r (made_taken setup line [] (straight_result made b.front) ps b)
    → Says (λ (x : Unit {0}). d) r (plain_words_taken setup line words b)
unfolding made_taken
goes_straight setup line words b d made ps modes r is e says =
    words_go_on setup line words b d (straight_result made b.front, ps) false r
    (ap (λ (m : Modes). plain_lines (record (known_of b) { modes = m }) words) (sym is) ∙ e) refl refl says

pub straight_refused : (setup : Setup) (line : ℕ) (words : List Word) (b : Between) (modes : Modes) (fault : RuleFault) → modes ≡ b.state.modes
    → plain_lines (record (known_of b) { modes = modes }) words ≡ Err fault → plain_words_taken setup line words b ≡ Err (causes.Rule fault)
unfolding plain_words_taken
straight_refused setup line words b modes fault is e =
    ap (λ (q : Result (LineResult × List Plain) RuleFault). caused causes.Rule q >>= λ m. made_or_path setup line words m b)
    (ap (λ (m : Modes). plain_lines (record (known_of b) { modes = m }) words) (sym is) ∙ e)
