use Rattle.std.proofs.Common.{◌≡◌, to_z, of_z, arith}
use Rattle.std.specs.Int.{w64, int_div_euclid}
use Rattle.std.proofs.lemmas.Int.{ints}
use Rattle.ngc_place.proofs.Quotients.{quotient_size, kept}
use Rattle.ngc_place.proofs.grid.last_grid_point.Goals.{After-div_euclid}
use Rattle.ngc_place.proofs.grid.last_grid_point.Goals as goal

quotient : (c : After-div_euclid) → c.div_euclid.result ≡ int_div_euclid c.args.length c.args.step
quotient c =
    let length : to_z w64 (of_z w64 c.args.length) ≡ c.args.length = omega (arith, ints) in
    let step : to_z w64 (of_z w64 c.args.step) ≡ c.args.step = omega (arith, ints) in
    rw (length, step) at c.div_euclid.ensures

pub returns-clause-value : goal.returns-clause-value
returns-clause-value c =
    let small = quotient_size c.args.length c.args.step c.requires.step c.requires.length in
    rw (quotient c) (kept (int_div_euclid c.args.length c.args.step) small)

pub returns-clause-bound : goal.returns-clause-bound
returns-clause-bound c = rw (returns-clause-value c) (quotient_size c.args.length c.args.step c.requires.step c.requires.length)
