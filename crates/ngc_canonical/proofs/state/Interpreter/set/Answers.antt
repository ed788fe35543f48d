use Rattle.std.proofs.Common.{ap}
use Rattle.std.proofs.Math.Path.{fun_ext}
use Rattle.ngc_parameters.specs.Meaning.{Parameters}
use Rattle.ngc_canonical.specs.Interpreter.{state_of}
use Rattle.ngc_canonical.proofs.state.Interpreter.set.Goals as goal

pub returns : goal.returns
returns g c = ap (λ (p : Parameters). record (state_of c.args.self.now) { parameters = p }) (fun_ext c.make.ensures)
