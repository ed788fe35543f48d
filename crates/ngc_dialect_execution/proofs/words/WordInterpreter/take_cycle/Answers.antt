use Rattle.std.proofs.Common.{ap, sym, ◌∙◌}
use Rattle.ngc_canonical.specs.Interpreter.{setup_of}
use Rattle.ngc_dialect_rules.specs.declared.front.Known.{Known}
use Rattle.ngc_dialect_drilling.specs.Holes.{cycle_of}
use Rattle.ngc_dialect_execution.specs.Views.{between_of}
use Rattle.ngc_dialect_execution.proofs.Passing.{cycle_refused, cycle_starts}
use Rattle.ngc_dialect_execution.proofs.words.WordInterpreter.take_cycle.Goals as goal

pub returns-in-Ok : goal.returns-in-Ok
returns-in-Ok g c =
    cycle_starts _ _ _ _ _ _ _ _ (ap (λ (k : Known). cycle_of k c.args.cycle.now.code c.args.words.now) (sym c.known-known.ensures) ∙ c.in-Ok.ensures)
    c.take_start.ensures

pub returns-in-Err : goal.returns-in-Err
returns-in-Err g c =
    cycle_refused (setup_of c.args.machine.now c.args.tools.now) c.args.line c.args.words.now c.args.cycle.now (between_of c.args.self.now) c.in-Err.fault
    (ap (λ (k : Known). cycle_of k c.args.cycle.now.code c.args.words.now) (sym c.known-known.ensures) ∙ c.in-Err.ensures)
