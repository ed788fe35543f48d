use Rattle.ngc_canonical.specs.Interpreter.{setup_of}
use Rattle.ngc_dialect_path.specs.Steps.{written_in}
use Rattle.ngc_dialect_execution.specs.Views.{between_of, run_in}
use Rattle.ngc_dialect_execution.proofs.Passing.{step_done, step_stops, wait_stops}
use Rattle.ngc_dialect_execution.proofs.words.WordInterpreter.take_step.Goals as goal

pub returns-in-Err : goal.returns-in-Err
returns-in-Err g c =
    step_stops {V = Unit {0}} {W = Unit {0}} (λ x. run_in c.execute_step.new.run) (λ x. between_of c.args.self.now) (setup_of c.args.machine.now c.args.tools.now) c.args.numbers c.args.step.now (written_in c.args.self.now.path_lines) (between_of c.args.self.now)
    c.as_slice.result.now c.in-Err.refusal c.as_slice.ensures.value c.in-Err.ensures

pub returns-in-Err-put_off : goal.returns-in-Err-put_off
returns-in-Err-put_off g c =
    wait_stops {V = Unit {0}} {W = Unit {0}} (λ x. c.put_off.new.waiting.items) (λ x. between_of c.args.self.now) (setup_of c.args.machine.now c.args.tools.now) c.args.numbers c.args.step.now (written_in c.args.self.now.path_lines) (between_of c.args.self.now)
    c.as_slice.result.now (run_in c.execute_step.new.run) c.in-Err-put_off.refusal c.as_slice.ensures.value c.in-Ok.ensures c.in-Err-put_off.ensures

pub returns : goal.returns
returns g c =
    step_done (setup_of c.args.machine.now c.args.tools.now) c.args.numbers c.args.step.now (written_in c.args.self.now.path_lines) (between_of c.args.self.now)
    c.as_slice.result.now c.put_off.new.waiting.items (run_in c.execute_step.new.run) c.as_slice.ensures.value c.in-Ok.ensures c.in-Ok-put_off.ensures
