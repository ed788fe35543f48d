-- A program ends with the end, and nothing is executed after it.
use Rattle.std.proofs.Common.{◌≡◌, ℕ, List, [], ◌∷◌, Option, Some, None, Bool, true, false, Result, Ok, Err, refl, sym, subst}
use Rattle.std.proofs.lemmas.Result.{IfOk-at_ok}
use Rattle.std.specs.Prelude.{ℤ, IfOk, ◌&&◌, if◌then◌else◌}
use Rattle.ngc_line_reader.specs.Grammar.{Item, Reading}
use Rattle.ngc_line_reader.specs.declared.letter.Letter.{Letter}
use Rattle.ngc_machine_files.specs.Machine.{MachineFile}
use Rattle.ngc_parameters.specs.Stored.{line_values}
use Rattle.ngc_commands.specs.declared.command.Action.TheVariants.{End}
use Rattle.ngc_commands.specs.declared.command.Command.{Command}
use Rattle.ngc_canonical.specs.declared.fault.Fault.{Fault}
use Rattle.ngc_canonical.specs.declared.fault.Fault.TheVariants.{Value}
use Rattle.ngc_canonical.specs.declared.fault.ProgramFault.{ProgramFault}
use Rattle.ngc_canonical.specs.Joined.{EndsLast, HaveEnd}
use Rattle.ngc_commands.specs.Sequence.{EndIsLast, HasEnd}
use Rattle.ngc_canonical.specs.Meaning.{NumberedLine, Program, effects_of, with_settings, execute, execute_words, at_line, remaining, after_line, commands_of, past_last}
use Rattle.ngc_canonical.specs.Meaning.{go_on, then_lines, from_state, meaning, MeaningIs}
use Rattle.ngc_canonical.specs.State.{Setup, State, start_state, emit}
use Rattle.ngc_canonical.specs.Steps.{faulted}
use Rattle.ngc_canonical.proofs.Ending.{StopIsLast, stops_last}
use Rattle.ngc_canonical.proofs.EndingSteps.{HasNoEnd, Open, Left, IsEndOnly, ended_by, left_open, run_left}
use Rattle.ngc_canonical.proofs.JoinedMotions.{onward, after, emitted}

-- the end follows all other commands
abbrev pub Ends : State → Type 0
Ends s = IsEndOnly s.commands

pub start_open : (machine : MachineFile) → Open (start_state machine)
start_open machine = record { running = refl; no_end = tt }

pub words_left : (setup : Setup) (words : List (Letter × ℤ)) (s : State) → Open s → IfOk (execute_words setup words s) Left
words_left setup words s h = onward StopIsLast Left (effects_of s.modes words) _ (stops_last s.modes words) (λ what last. run_left setup what s last h)

execute_left : (setup : Setup) (items : List Item) (s : State) → Open s → IfOk (execute setup items s) Left
execute_left setup items s h =
    after Left (faulted Value (line_values s.parameters items)) _ (λ values.
    onward Left Left (execute_words setup values.0 s) (λ t. Ok (with_settings values.1 t)) (words_left setup values.0 s h) (λ t h_t. h_t))

at_line_left : (P : State → Type 0) (line : ℕ) (r : Result State Fault) → IfOk r P → IfOk (at_line line r) P
at_line_left P line (Ok s) h = h
at_line_left P line (Err e) h = tt

-- a line that block delete takes out changes nothing
after_line_left : (setup : Setup) (block_delete : Bool) (number : ℕ) (r : Reading) (s : State) → Open s → IfOk (after_line setup block_delete number r s) Left
after_line_left setup block_delete number r s h = by_test (block_delete && r.deleted) where
  by_test : (out : Bool) →
      (let same : Result State ProgramFault = Ok s in IfOk (if out then same else at_line number (execute setup r.items (record s { line = number }))) Left)
  by_test true = left_open s h
  by_test false = at_line_left Left number (execute setup r.items (record s { line = number })) (execute_left setup r.items (record s { line = number }) h)

past_last_ends : (mark : Option ℕ) (count : ℕ) (s : State) → HasNoEnd s.commands → IfOk (past_last mark count s) Ends
past_last_ends None count s none = tt
past_last_ends (Some line) count s none =
    at_line_left Ends line (emit End (record s { line = line })) (emitted Ends End (record s { line = line }) (λ room. ended_by s.commands line none))

go_on_ends : (ended : Bool) (s : State) (rest : State → Result State ProgramFault) → s.ended ≡ ended → Left s → ((t : State) → Open t → IfOk (rest t) Ends) →
    IfOk (go_on ended s rest) Ends
go_on_ends true s rest e h on = (h.last, h.has_end e)
go_on_ends false s rest e h on = on s (record { running = e; no_end = h.no_end e })

then_lines_ends : (r : Result State ProgramFault) (rest : State → Result State ProgramFault) → IfOk r Left → ((t : State) → Open t → IfOk (rest t) Ends) →
    IfOk (then_lines r rest) Ends
then_lines_ends (Ok s) rest h on = go_on_ends s.ended s rest refl h on
then_lines_ends (Err e) rest h on = tt

from_state_ends : (setup : Setup) (program : Program) (lines : List NumberedLine) (s : State) → Open s → IfOk (from_state setup program lines s) Ends
unfolding from_state
from_state_ends setup program [] s h = past_last_ends program.mark program.count s h.no_end
from_state_ends setup program (line ∷ lines) s h =
    then_lines_ends (after_line setup false line.number line.reading s) (λ t. from_state setup program lines t)
    (after_line_left setup false line.number line.reading s h)
    (λ t h_t. from_state_ends setup program lines t h_t)

same_commands : (a b : List Command) → (let x : Result (List Command) ProgramFault = Ok a in let y : Result (List Command) ProgramFault = Ok b in x ≡ y) → a ≡ b
same_commands a b e = cc

commands_end : (r : Result State ProgramFault) (commands : List Command) → IfOk r Ends → commands_of r ≡ Ok commands → IsEndOnly commands
commands_end (Ok s) commands h e = subst IsEndOnly (same_commands s.commands commands e) h
commands_end (Err fault) commands h e = absurd (cc e)

-- ---- the commands that are returned

line_left : (setup : Setup) (block_delete : Bool) (number : ℕ) (r : Reading) (s t : State) → s.ended ≡ false → HasNoEnd s.commands →
    after_line setup block_delete number r s ≡ Ok t → Left t
line_left setup block_delete number r s t running none e =
    IfOk-at_ok Left e (after_line_left setup block_delete number r s (record { running = running; no_end = none }))

pub line_ended : (setup : Setup) (block_delete : Bool) (number : ℕ) (r : Reading) (s t : State) (commands : List Command) → s.ended ≡ false →
    HasNoEnd s.commands
    → after_line setup block_delete number r s ≡ Ok t → commands ≡ t.commands → EndIsLast commands
line_ended setup block_delete number r s t commands running none e same =
    subst EndIsLast (sym same) (line_left setup block_delete number r s t running none e).last

pub line_has_end : (setup : Setup) (block_delete : Bool) (number : ℕ) (r : Reading) (s t : State) (commands : List Command) → s.ended ≡ false →
    HasNoEnd s.commands
    → after_line setup block_delete number r s ≡ Ok t → t.ended ≡ true → commands ≡ t.commands → HasEnd commands
line_has_end setup block_delete number r s t commands running none e over same =
    subst HasEnd (sym same) ((line_left setup block_delete number r s t running none e).has_end over)

pub line_on : (setup : Setup) (block_delete : Bool) (number : ℕ) (r : Reading) (s t : State) → s.ended ≡ false → HasNoEnd s.commands
    → after_line setup block_delete number r s ≡ Ok t → t.ended ≡ false → HasNoEnd t.commands
line_on setup block_delete number r s t running none e on = (line_left setup block_delete number r s t running none e).no_end on

pub finished_ended : {X : Type 0} (mark : Option ℕ) (count : ℕ) (s : State) (view : X → List Command) (result : Result X ProgramFault) → HasNoEnd s.commands
    → MeaningIs view result (commands_of (past_last mark count s)) → IfOk result (λ v. EndIsLast (view v))
finished_ended mark count s view (Ok v) none says = (commands_end (past_last mark count s) (view v) (past_last_ends mark count s none) says).0
finished_ended mark count s view (Err e) none says = tt

pub finished_has_end : {X : Type 0} (mark : Option ℕ) (count : ℕ) (s : State) (view : X → List Command) (result : Result X ProgramFault) → HasNoEnd s.commands
    → MeaningIs view result (commands_of (past_last mark count s)) → IfOk result (λ v. HasEnd (view v))
finished_has_end mark count s view (Ok v) none says = (commands_end (past_last mark count s) (view v) (past_last_ends mark count s none) says).1
finished_has_end mark count s view (Err e) none says = tt

-- ---- the laws

end_only : (program : Program) (setup : Setup) (block_delete : Bool) (commands : List Command) → meaning program setup block_delete ≡ Ok commands →
    IsEndOnly commands
end_only program setup block_delete commands e =
    commands_end (from_state setup program (remaining block_delete program.lines) (start_state setup.machine)) commands
    (from_state_ends setup program (remaining block_delete program.lines) (start_state setup.machine) (start_open setup.machine))
    e

pub ends_last : EndsLast
ends_last program setup block_delete commands e = (end_only program setup block_delete commands e).0

pub have_end : HaveEnd
have_end program setup block_delete commands e = (end_only program setup block_delete commands e).1
