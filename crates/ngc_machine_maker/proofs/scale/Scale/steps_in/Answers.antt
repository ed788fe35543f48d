use Rattle.ngc_machine_maker.proofs.SafeLaws.{steps_within}
use Rattle.ngc_machine_maker.proofs.scale.Scale.steps_in.Goals as goal

pub returns-clause-safe : goal.returns-clause-safe
returns-clause-safe c = rw (c.min.ensures, c.from.ensures, c.from-2.ensures, c.from-3.ensures) (steps_within c.args.self.now c.args.amount c.args.divisor)
