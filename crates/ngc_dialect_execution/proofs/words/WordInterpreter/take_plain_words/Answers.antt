use Rattle.ngc_canonical.specs.Interpreter.{setup_of}
use Rattle.ngc_dialect_execution.specs.Views.{between_of}
use Rattle.ngc_dialect_execution.proofs.Passing.{goes_straight, straight_refused}
use Rattle.ngc_dialect_execution.proofs.words.WordInterpreter.take_plain_words.Goals as goal

pub returns-in-Ok-Some : goal.returns-in-Ok-Some
returns-in-Ok-Some g c =
    let says = rw c.in-Ok-Some.field-0-is at c.in-Ok-Some.ensures.line in
    goes_straight (setup_of c.args.machine.now c.args.tools.now) c.args.line c.args.words.now (between_of c.args.self.now) _ _ _ _ _ c.modes-self.ensures
    (says (between_of c.args.self.now).state.frames (between_of c.args.self.now).state.place) c.take_straight.ensures

pub returns-in-Err : goal.returns-in-Err
returns-in-Err g c =
    straight_refused (setup_of c.args.machine.now c.args.tools.now) c.args.line c.args.words.now (between_of c.args.self.now) _ _ c.modes-self.ensures
    (c.in-Err.ensures.refused (between_of c.args.self.now).state.frames (between_of c.args.self.now).state.place)
