-- Properties of the commands of every program. Our own.
use Rattle.std.specs.Prelude.{◌≡◌, ◌≤◌, List, length, Ok, Bool, true, false}
use Rattle.ngc_commands.specs.declared.command.Command.{Command}
use Rattle.ngc_canonical.specs.Meaning.{Program, meaning, has_deleted}
use Rattle.ngc_commands.specs.Movement.{actions_of, ways_of, AreJoined}
use Rattle.ngc_canonical.specs.State.{Setup}
use Rattle.ngc_commands.specs.Sequence.{COMMAND_LIMIT, EndIsLast, HasEnd, HaveEvenRadii}

-- the first motion begins at the machine's start point, and each further one where the motion
-- before it ends
abbrev pub Joined : Type 0
Joined = (program : Program) (setup : Setup) (block_delete : Bool) (commands : List Command) →
    meaning program setup block_delete ≡ Ok commands
    → AreJoined setup.machine.start (ways_of (actions_of commands))

-- each arc has even radii
abbrev pub ArcsHaveEvenRadii : Type 0
ArcsHaveEvenRadii = (program : Program) (setup : Setup) (block_delete : Bool)
    (commands : List Command) → meaning program setup block_delete ≡ Ok commands
    → HaveEvenRadii (ways_of (actions_of commands))

-- there are at most a million
abbrev pub FewCommands : Type 0
FewCommands = (program : Program) (setup : Setup) (block_delete : Bool) (commands : List Command) →
    meaning program setup block_delete ≡ Ok commands
    → length commands ≤ COMMAND_LIMIT

-- nothing follows the end, and there is one
abbrev pub EndsLast : Type 0
EndsLast = (program : Program) (setup : Setup) (block_delete : Bool) (commands : List Command) →
    meaning program setup block_delete ≡ Ok commands
    → EndIsLast commands

abbrev pub HaveEnd : Type 0
HaveEnd = (program : Program) (setup : Setup) (block_delete : Bool) (commands : List Command) →
    meaning program setup block_delete ≡ Ok commands
    → HasEnd commands

-- if no line begins with /, a program means the same at both settings of block delete
abbrev pub SameAtBoth : Type 0
SameAtBoth = (program : Program) (setup : Setup) → has_deleted program.lines ≡ false →
    meaning program setup true ≡ meaning program setup false
