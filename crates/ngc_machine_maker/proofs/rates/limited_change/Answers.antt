use Rattle.std.proofs.Common.{◌*◌, arith}
use Rattle.ngc_machine_maker.proofs.SafeLaws.{fewer}
use Rattle.ngc_machine_maker.proofs.rates.limited_change.Goals as goal

pub returns-clause-safe : goal.returns-clause-safe
returns-clause-safe c =
    let ticks = c.args.ticks in
    fewer c.args.scale.now c.min-change.result c.change_of.result (c.args.acceleration.nanometres_a_second_squared * 1000000) (ticks * ticks)
    (omega (arith, c.min-change.ensures)) c.change_of.ensures.safe
