-- Properties of the commands of plain lines, whatever they are. Our own.
use Rattle.std.specs.Prelude.{◌≡◌, ◌≤◌, ℕ, List, ◌++◌, length, Ok, true, false}
use Rattle.ngc_commands.specs.declared.command.Command.{Command}
use Rattle.ngc_fixed_length.specs.declared.points.Point3.{Point3}
use Rattle.ngc_commands.specs.Movement.{actions_of, ways_of, AreJoined}
use Rattle.ngc_commands.specs.Sequence.{COMMAND_LIMIT, HaveEvenRadii, EndIsLast, HasEnd}
use Rattle.ngc_canonical.specs.State.{Setup, State, start_state}
use Rattle.ngc_canonical.specs.Steps.{◌>>=◌}
use Rattle.ngc_dialect_names.specs.declared.dialect.Dialect.{Dialect}
use Rattle.ngc_dialect_execution.specs.Executed.{PlainLine, executed}
use Rattle.ngc_dialect_execution.specs.Program.{meaning_in}
use Rattle.ngc_dialect_execution.specs.Text.{has_deleted}

-- The first motion begins at the start point, and each further one where the one before it ends;
-- each arc has even radii; there are at most a million commands; nothing follows an end; after an
-- end there is one.
pub record AreLawful (start : Point3) (s : State) : Type 0 where
  pub joined : AreJoined start (ways_of (actions_of s.commands))
  pub radii : HaveEvenRadii (ways_of (actions_of s.commands))
  pub count : length s.commands ≤ COMMAND_LIMIT
  pub ended : EndIsLast s.commands
  pub has_end : s.ended ≡ true → HasEnd s.commands

-- so are the commands of all plain lines
abbrev pub PlainLinesAreLawful : Type 0
PlainLinesAreLawful = (setup : Setup) (lines : List PlainLine) (s : State) →
    executed setup lines (start_state setup.machine) ≡ Ok s → AreLawful setup.machine.start s

-- the lines of two lists are executed in order
abbrev pub ListsAreInOrder : Type 0
ListsAreInOrder = (setup : Setup) (first rest : List PlainLine) (s : State) →
    executed setup (first ++ rest) s ≡ (executed setup first s >>= λ t. executed setup rest t)

-- if no line begins with `/`, a text means the same at both settings of block delete
abbrev pub SameAtBoth : Type 0
SameAtBoth = (d : Dialect) (setup : Setup) (text : List ℕ) → has_deleted text ≡ false →
    meaning_in d setup true text ≡ meaning_in d setup false text

-- plain lines lead from the machine's start to a state
pub record IsReached (setup : Setup) (s : State) : Type 0 where
  pub lines : List PlainLine
  pub leads : executed setup lines (start_state setup.machine) ≡ Ok s

-- plain lines, executed from the machine's start up to an end, have these commands
pub record LeadTo (setup : Setup) (lines : List PlainLine) (commands : List Command) : Type 0 where
  pub state : State
  pub leads : executed setup lines (start_state setup.machine) ≡ Ok state
  pub ended : state.ended ≡ true
  pub are : commands ≡ state.commands

-- the commands are those of plain lines, executed from the machine's start up to an end
pub record AreExecuted (setup : Setup) (commands : List Command) : Type 0 where
  pub state : State
  pub reached : IsReached setup state
  pub ended : state.ended ≡ true
  pub are : commands ≡ state.commands
