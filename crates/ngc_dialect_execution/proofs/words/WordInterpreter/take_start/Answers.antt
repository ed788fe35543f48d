use Rattle.ngc_dialect_execution.specs.Views.{between_of}
use Rattle.ngc_dialect_execution.proofs.Passing.{start_stops, start_written}
use Rattle.ngc_dialect_execution.proofs.words.WordInterpreter.take_start.Goals as goal

pub returns-in-Err : goal.returns-in-Err
returns-in-Err g c = start_stops _ _ _ _ _ _ (between_of c.args.self.now) (between_of c.args.self.now) _ c.in-Err.ensures

pub returns : goal.returns
returns g c = start_written _ _ _ _ _ _ _ _ _ _ c.in-Ok.ensures c.write_stop.ensures c.take_plain.ensures
