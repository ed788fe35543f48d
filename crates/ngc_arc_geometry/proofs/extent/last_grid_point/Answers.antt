use Rattle.std.proofs.Common.{◌≡◌, to_z, of_z, arith}
use Rattle.std.specs.Int.{w64, int_div_euclid}
use Rattle.std.proofs.lemmas.Int.{ints, to_z-of_z}
use Rattle.ngc_arc_geometry.proofs.GridLemmas.{quotient_bound, quotient_near, kept}
use Rattle.ngc_arc_geometry.proofs.extent.last_grid_point.Goals.{After-div_euclid}
use Rattle.ngc_arc_geometry.proofs.extent.last_grid_point.Goals as goal

quotient : (c : After-div_euclid) → c.div_euclid.result ≡ int_div_euclid c.args.nanometres c.args.step
quotient c =
    let nanometres : to_z w64 (of_z w64 c.args.nanometres) ≡ c.args.nanometres = to_z-of_z w64 c.args.nanometres c.ranges.nanometres in
    let step : to_z w64 (of_z w64 c.nanometres.result) ≡ c.args.step = omega (arith, ints) in
    rw (nanometres, step) at c.div_euclid.ensures

pub returns-clause-value : goal.returns-clause-value
returns-clause-value c =
    let small = quotient_bound c.args.nanometres c.args.step c.requires.step c.requires.bound in
    rw (quotient c) (kept (int_div_euclid c.args.nanometres c.args.step) small)

pub returns-clause-near : goal.returns-clause-near
returns-clause-near c = rw (returns-clause-value c) (quotient_near c.args.nanometres c.args.step c.requires.step)
