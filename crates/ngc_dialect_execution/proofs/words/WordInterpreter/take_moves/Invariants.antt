-- The moves that are left, after those taken, have the same result as all of them.
use Rattle.std.proofs.Common.{◌≡◌, length}
use Rattle.ngc_canonical.specs.Interpreter.{setup_of}
use Rattle.ngc_dialect_execution.specs.Taken.{moves_taken}
use Rattle.ngc_dialect_execution.specs.Views.{between_of}
use Rattle.ngc_dialect_execution.proofs.words.WordInterpreter.take_moves.Given as goal

abbrev pub invariant-loop-taken : goal.invariant-loop-taken
invariant-loop-taken g l =
    moves_taken (setup_of l.machine l.tools) l.line l.moves (between_of l.self)
    ≡ moves_taken (setup_of l.machine l.tools) l.line l.fn.moves (between_of l.fn.self)

abbrev pub decreases-loop-taken : goal.decreases-loop-taken
decreases-loop-taken g l = length l.moves
