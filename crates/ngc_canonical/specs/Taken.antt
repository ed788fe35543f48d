-- The effect of a line that is read from the lines of a program.
use Rattle.std.specs.Prelude.{Bool, Result}
use Rattle.ngc_line_reader.specs.Grammar.{Reading, Reads}
use Rattle.ngc_line_reader.specs.Program.{Line}
use Rattle.ngc_canonical.specs.declared.fault.ProgramFault.{ProgramFault}
use Rattle.ngc_canonical.specs.declared.state.LineRefusal.{LineRefusal}
use Rattle.ngc_canonical.specs.Interpreter.{Becomes, BecomesAt}
use Rattle.ngc_canonical.specs.Meaning.{execute, after_line}
use Rattle.ngc_canonical.specs.State.{Setup, State}

-- The line has a reading, and the result is that of its execution.
pub record IsExecuted (setup : Setup) (line : Line) (answer : Result (Unit {0}) LineRefusal)
    (old new : State) : Type 0 where
  pub reading : Reading
  pub reads : Reads line.bytes reading
  pub becomes : Becomes answer new (execute setup reading.items old)

-- The line has a reading, and the result is that of the line at a setting of block delete.
pub record IsTaken (setup : Setup) (block_delete : Bool) (line : Line)
    (answer : Result (Unit {0}) ProgramFault) (old new : State) : Type 0 where
  pub reading : Reading
  pub reads : Reads line.bytes reading
  pub becomes : BecomesAt answer new (after_line setup block_delete line.number reading old)
