use Rattle.std.proofs.Common.{◌≡◌, ◌≤◌, unsigned_abs, to_z, of_z, arith}
use Rattle.std.specs.Int.{w64, int_div_euclid}
use Rattle.std.proofs.lemmas.Int.{ints}
use Rattle.ngc_arc_geometry.proofs.GridLemmas.{quotient_bound, kept}
use Rattle.ngc_findings.proofs.travel.last_grid_point.Goals.{After-div_euclid}
use Rattle.ngc_findings.proofs.travel.last_grid_point.Goals as goal

sized : (c : After-div_euclid) → unsigned_abs c.args.coordinate ≤ 110000000000
sized c = omega (arith, ints, c.nanometres.ensures.value, c.nanometres.ensures.bound)

quotient : (c : After-div_euclid) → c.div_euclid.result ≡ int_div_euclid c.args.coordinate c.args.step
quotient c =
    let coordinate : to_z w64 (of_z w64 c.nanometres.result) ≡ c.args.coordinate = omega (arith, ints) in
    let step : to_z w64 (of_z w64 c.nanometres-2.result) ≡ c.args.step = omega (arith, ints) in
    rw (coordinate, step) at c.div_euclid.ensures

pub returns : goal.returns
returns c =
    rw (quotient c)
    (kept (int_div_euclid c.args.coordinate c.args.step) (quotient_bound c.args.coordinate c.args.step c.requires (sized c)))
