use Rattle.std.proofs.Common.{ap}
use Rattle.std.proofs.Math.Bridge.{le_prop}
use Rattle.ngc_dialect_choice.proofs.choice.certify_in.Goals as goal

pub returns : goal.returns
returns c = ap (λ p. record c.args.options.now { dialect = c.args.dialect; some_cuts = p }) (le_prop _ _)
