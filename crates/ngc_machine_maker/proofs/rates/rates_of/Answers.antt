use Rattle.std.proofs.Common.{◌*◌, arith}
use Rattle.ngc_machine_maker.proofs.SafeLaws.{fewer}
use Rattle.ngc_machine_maker.proofs.rates.rates_of.Goals as goal

pub returns-clause-safe : goal.returns-clause-safe
returns-clause-safe c =
    let ticks = c.in_ok-ticks.ticks in
    let scale = c.args.scale.now in
    let changes = c.in_ok-changes.changes in
    let least = c.min-change.result in
    let follows = c.in_ok-changes.ensures.safe in
    let a = c.args.figures.now.acceleration in
    record {
      feed = c.in_ok-axis_rate.ensures.safe;
      corner = c.in_ok-corner.ensures.safe;
      jump = c.jump_of.ensures.safe;
      x_follows = fewer scale least changes.x (a.x.nanometres_a_second_squared * 1000000) (ticks * ticks) (omega (arith, c.min-change.ensures, c.min.ensures)) follows.x;
      y_follows = fewer scale least changes.y (a.y.nanometres_a_second_squared * 1000000) (ticks * ticks) (omega (arith, c.min-change.ensures, c.min.ensures)) follows.y;
      z_follows = fewer scale least changes.z (a.z.nanometres_a_second_squared * 1000000) (ticks * ticks) (omega (arith, c.min-change.ensures, c.min.ensures)) follows.z;
      changes = follows;
      arcs = rw c.least.ensures at c.in_ok-turn.ensures.safe;
      turns = c.in_ok-turns.ensures.safe;
    }
