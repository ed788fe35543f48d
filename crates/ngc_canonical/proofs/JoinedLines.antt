-- The lines of a program join its motions from the machine's start point on, with even radii, and
-- the number of commands stays in range.
use Rattle.std.proofs.Common.{◌≡◌, ℕ, ◌≤◌, List, [], ◌∷◌, length, Option, Some, None, Bool, true, false, Result, Ok, Err, refl, sym, subst, lit≤}
use Rattle.std.proofs.lemmas.Result.{IfOk-at_ok, IfOk-weaker}
use Rattle.std.specs.Prelude.{ℤ, IfOk, ◌&&◌, if◌then◌else◌}
use Rattle.ngc_fixed_length.specs.declared.points.Point3.{Point3}
use Rattle.ngc_line_reader.specs.Grammar.{Item, Reading}
use Rattle.ngc_line_reader.specs.declared.letter.Letter.{Letter}
use Rattle.ngc_machine_files.specs.Machine.{MachineFile}
use Rattle.ngc_parameters.specs.Stored.{line_values}
use Rattle.ngc_commands.specs.declared.command.Action.TheVariants.{End}
use Rattle.ngc_commands.specs.declared.command.Command.{Command}
use Rattle.ngc_canonical.specs.declared.fault.Fault.{Fault}
use Rattle.ngc_canonical.specs.declared.fault.Fault.TheVariants.{Value}
use Rattle.ngc_canonical.specs.declared.fault.ProgramFault.{ProgramFault}
use Rattle.ngc_canonical.specs.Joined.{Joined, ArcsHaveEvenRadii, FewCommands}
use Rattle.ngc_commands.specs.Sequence.{HaveEvenRadii}
use Rattle.ngc_canonical.specs.Meaning.{NumberedLine, Program, effects_of, with_settings, execute, execute_words, at_line, remaining, after_line, commands_of, past_last}
use Rattle.ngc_canonical.specs.Meaning.{go_on, then_lines, from_state, meaning, MeaningIs}
use Rattle.ngc_commands.specs.Movement.{actions_of, ways_of, AreJoined}
use Rattle.ngc_canonical.specs.State.{Setup, State, start_state, emit}
use Rattle.ngc_commands.specs.Sequence.{COMMAND_LIMIT}
use Rattle.ngc_canonical.specs.Steps.{faulted}
use Rattle.ngc_canonical.proofs.JoinedMotions.{IsTrail, Holds, onward, after, stays}
use Rattle.ngc_canonical.proofs.JoinedSteps.{run_holds}

pub start_holds : (machine : MachineFile) → Holds machine.start (start_state machine)
start_holds machine = record { leads = record { joined = tt; ends = refl; radii = tt }; few = lit≤ tt }

pub words_hold : (p : Point3) (setup : Setup) (words : List (Letter × ℤ)) (s : State) → Holds p s → IfOk (execute_words setup words s) (Holds p)
words_hold p setup words s h = after (Holds p) (effects_of s.modes words) _ (λ what. run_holds p setup what s h)

execute_holds : (p : Point3) (setup : Setup) (items : List Item) (s : State) → Holds p s → IfOk (execute setup items s) (Holds p)
execute_holds p setup items s h =
    after (Holds p) (faulted Value (line_values s.parameters items)) _ (λ values.
    onward (Holds p) (Holds p) (execute_words setup values.0 s) (λ t. Ok (with_settings values.1 t)) (words_hold p setup values.0 s h) (λ t h_t. h_t))

at_line_holds : (p : Point3) (line : ℕ) (r : Result State Fault) → IfOk r (Holds p) → IfOk (at_line line r) (Holds p)
at_line_holds p line (Ok s) h = h
at_line_holds p line (Err e) h = tt

-- a line that block delete takes out changes nothing
after_line_holds : (p : Point3) (setup : Setup) (block_delete : Bool) (number : ℕ) (r : Reading) (s : State) → Holds p s →
    IfOk (after_line setup block_delete number r s) (Holds p)
after_line_holds p setup block_delete number r s h = by_test (block_delete && r.deleted) where
  by_test : (out : Bool) →
      (let same : Result State ProgramFault = Ok s in
      IfOk (if out then same else at_line number (execute setup r.items (record s { line = number }))) (Holds p))
  by_test true = h
  by_test false = at_line_holds p number (execute setup r.items (record s { line = number })) (execute_holds p setup r.items (record s { line = number }) h)

past_last_holds : (p : Point3) (mark : Option ℕ) (count : ℕ) (s : State) → Holds p s → IfOk (past_last mark count s) (Holds p)
past_last_holds p None count s h = tt
past_last_holds p (Some line) count s h = at_line_holds p line (emit End (record s { line = line })) (stays p End (record s { line = line }) h tt)

go_on_holds : (p : Point3) (ended : Bool) (s : State) (rest : State → Result State ProgramFault) → Holds p s →
    ((t : State) → Holds p t → IfOk (rest t) (Holds p)) → IfOk (go_on ended s rest) (Holds p)
go_on_holds p true s rest h on = h
go_on_holds p false s rest h on = on s h

then_lines_holds : (p : Point3) (r : Result State ProgramFault) (rest : State → Result State ProgramFault) → IfOk r (Holds p) →
    ((t : State) → Holds p t → IfOk (rest t) (Holds p)) → IfOk (then_lines r rest) (Holds p)
then_lines_holds p (Ok s) rest h on = go_on_holds p s.ended s rest h on
then_lines_holds p (Err e) rest h on = tt

from_state_holds : (p : Point3) (setup : Setup) (program : Program) (lines : List NumberedLine) (s : State) → Holds p s →
    IfOk (from_state setup program lines s) (Holds p)
unfolding from_state
from_state_holds p setup program [] s h = past_last_holds p program.mark program.count s h
from_state_holds p setup program (line ∷ lines) s h =
    then_lines_holds p (after_line setup false line.number line.reading s) (λ t. from_state setup program lines t)
    (after_line_holds p setup false line.number line.reading s h)
    (λ t h_t. from_state_holds p setup program lines t h_t)

-- the commands of a state that holds
pub record AreFrom (p : Point3) (commands : List Command) : Type 0 where
  pub place : Point3
  pub trail : IsTrail p commands place

same_commands : (a b : List Command) → (let x : Result (List Command) ProgramFault = Ok a in let y : Result (List Command) ProgramFault = Ok b in x ≡ y) → a ≡ b
same_commands a b e = cc

commands_from : (p : Point3) (r : Result State ProgramFault) (commands : List Command) → IfOk r (Holds p) → commands_of r ≡ Ok commands → AreFrom p commands
commands_from p (Ok s) commands h e = subst (AreFrom p) (same_commands s.commands commands e) (record { place = s.place; trail = h })
commands_from p (Err fault) commands h e = absurd (cc e)

-- ---- the commands that are returned

pub went_on : (p : Point3) (setup : Setup) (block_delete : Bool) (number : ℕ) (r : Reading) (s t : State) → Holds p s →
    after_line setup block_delete number r s ≡ Ok t → Holds p t
went_on p setup block_delete number r s t h e = IfOk-at_ok (Holds p) e (after_line_holds p setup block_delete number r s h)

pub handed_out : (p : Point3) (s : State) (commands : List Command) → Holds p s → commands ≡ s.commands → AreFrom p commands
handed_out p s commands h e = subst (AreFrom p) (sym e) (record { place = s.place; trail = h })

finished : {X : Type 0} (p : Point3) (mark : Option ℕ) (count : ℕ) (s : State) (view : X → List Command) (result : Result X ProgramFault) → Holds p s
    → MeaningIs view result (commands_of (past_last mark count s)) → IfOk result (λ v. AreFrom p (view v))
finished p mark count s view (Ok v) h says = commands_from p (past_last mark count s) (view v) (past_last_holds p mark count s h) says
finished p mark count s view (Err e) h says = tt

pub finished_joined : {X : Type 0} (p : Point3) (mark : Option ℕ) (count : ℕ) (s : State) (view : X → List Command) (result : Result X ProgramFault) → Holds p s
    → MeaningIs view result (commands_of (past_last mark count s)) → IfOk result (λ v. AreJoined p (ways_of (actions_of (view v))))
finished_joined p mark count s view result h says =
    IfOk-weaker result (λ v. AreFrom p (view v)) (λ v. AreJoined p (ways_of (actions_of (view v)))) (λ v from. from.trail.leads.joined)
    (finished p mark count s view result h says)

pub finished_radii : {X : Type 0} (p : Point3) (mark : Option ℕ) (count : ℕ) (s : State) (view : X → List Command) (result : Result X ProgramFault) → Holds p s
    → MeaningIs view result (commands_of (past_last mark count s)) → IfOk result (λ v. HaveEvenRadii (ways_of (actions_of (view v))))
finished_radii p mark count s view result h says =
    IfOk-weaker result (λ v. AreFrom p (view v)) (λ v. HaveEvenRadii (ways_of (actions_of (view v)))) (λ v from. from.trail.leads.radii)
    (finished p mark count s view result h says)

pub finished_few : {X : Type 0} (p : Point3) (mark : Option ℕ) (count : ℕ) (s : State) (view : X → List Command) (result : Result X ProgramFault) → Holds p s
    → MeaningIs view result (commands_of (past_last mark count s)) → IfOk result (λ v. length (view v) ≤ COMMAND_LIMIT)
finished_few p mark count s view result h says =
    IfOk-weaker result (λ v. AreFrom p (view v)) (λ v. length (view v) ≤ COMMAND_LIMIT) (λ v from. from.trail.few) (finished p mark count s view result h says)

-- ---- the laws

meant : (program : Program) (setup : Setup) (block_delete : Bool) (commands : List Command) → meaning program setup block_delete ≡ Ok commands →
    AreFrom setup.machine.start commands
meant program setup block_delete commands e =
    commands_from setup.machine.start (from_state setup program (remaining block_delete program.lines) (start_state setup.machine)) commands
    (from_state_holds setup.machine.start setup program (remaining block_delete program.lines) (start_state setup.machine) (start_holds setup.machine))
    e

pub are_joined : Joined
are_joined program setup block_delete commands e = (meant program setup block_delete commands e).trail.leads.joined

pub are_even : ArcsHaveEvenRadii
are_even program setup block_delete commands e = (meant program setup block_delete commands e).trail.leads.radii

pub are_few : FewCommands
are_few program setup block_delete commands e = (meant program setup block_delete commands e).trail.few
