-- The remaining parts, after those done, have the same result as all of them. Each part adds at most one value and one statement.
use Rattle.std.proofs.Common.{◌≡◌, ◌+◌, ◌≤◌, length}
use Rattle.ngc_dialect_parameters.specs.Known.{known}
use Rattle.ngc_dialect_parameters.specs.Evaluation.{run, line_values, sums_of}
use Rattle.ngc_dialect_parameters.proofs.parameters.Parameters.evaluate.Given as goal

abbrev pub invariant-loop-rest : goal.invariant-loop-rest
invariant-loop-rest g l =
    let k = known l.self (g.C.Control.number l.control) (g.C.Control.name l.control) in
    record {
      rest : run k l.line.text.items l.rest (sums_of l.values) ≡ line_values k l.line.text.items l.line.parts.items;
      stack : length l.values.arguments.items + length l.rest ≤ 128;
      done : length l.values.statements.items + length l.rest ≤ 128;
    }

abbrev pub decreases-loop-rest : goal.decreases-loop-rest
decreases-loop-rest g l = length l.rest
