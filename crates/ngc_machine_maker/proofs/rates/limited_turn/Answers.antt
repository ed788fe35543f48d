use Rattle.std.proofs.Common.{◌*◌, arith}
use Rattle.ngc_machine_maker.specs.Formulas.{diagonal_turns}
use Rattle.ngc_machine_maker.proofs.SafeLaws.{fewer, larger}
use Rattle.ngc_machine_maker.proofs.rates.limited_turn.Goals as goal

pub returns-clause-safe : goal.returns-clause-safe
returns-clause-safe c =
    let scale = c.args.scale.now in
    let amount = c.min-acceleration.result * 1000000000000 in
    let divisor = diagonal_turns c.args.by_place * (c.args.ticks * c.args.ticks) in
    larger scale c.min-turn.result amount (c.args.acceleration * 1000000000000) divisor (omega (arith, c.min-acceleration.ensures))
    (fewer scale c.min-turn.result c.turn_of.result amount divisor (omega (arith, c.min-turn.ensures)) c.turn_of.ensures.safe)
