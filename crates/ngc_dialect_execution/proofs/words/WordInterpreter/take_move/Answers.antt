use Rattle.std.proofs.Common.{ap, sym, ◌∙◌}
use Rattle.ngc_canonical.specs.Interpreter.{setup_of}
use Rattle.ngc_dialect_rules.specs.declared.front.Known.{Known}
use Rattle.ngc_dialect_drilling.specs.Moves.{move_lines}
use Rattle.ngc_dialect_execution.specs.Views.{between_of}
use Rattle.ngc_dialect_execution.proofs.Passing.{move_refused, move_written}
use Rattle.ngc_dialect_execution.proofs.words.WordInterpreter.take_move.Goals as goal

pub returns-in-Ok : goal.returns-in-Ok
returns-in-Ok g c =
    move_written _ _ _ _ _ _ _ (ap (λ (k : Known). move_lines k c.args.taken.now) (sym c.known-known.ensures) ∙ c.in-Ok.ensures) c.take_plain.ensures

pub returns-in-Err : goal.returns-in-Err
returns-in-Err g c =
    move_refused (setup_of c.args.machine.now c.args.tools.now) c.args.line c.args.taken.now (between_of c.args.self.now) c.in-Err.fault
    (ap (λ (k : Known). move_lines k c.args.taken.now) (sym c.known-known.ensures) ∙ c.in-Err.ensures)
