use Rattle.std.proofs.Common.{◌≡◌, ◌≤◌, pos, ◌-ℤ◌, neg_ℤ, unsigned_abs, to_z, of_z, arith}
use Rattle.std.specs.Int.{w64, int_div_euclid}
use Rattle.std.proofs.lemmas.Int.{ints}
use Rattle.ngc_arc_geometry.proofs.GridLemmas.{negative_fits, quotient_bound, negated, turned}
use Rattle.ngc_arc_geometry.proofs.Machine.{size_of_negative}
use Rattle.ngc_findings.proofs.travel.first_grid_point.Goals.{After-div_euclid}
use Rattle.ngc_findings.proofs.travel.first_grid_point.Goals as goal

same : (c : After-div_euclid) → c.nanometres.result ≡ c.args.coordinate
same c = c.nanometres.ensures.value

sized : (c : After-div_euclid) → unsigned_abs c.args.coordinate ≤ 110000000000
sized c = omega (arith, ints, c.nanometres.ensures.value, c.nanometres.ensures.bound)

quotient : (c : After-div_euclid) → c.div_euclid.result ≡ int_div_euclid (neg_ℤ c.args.coordinate) c.args.step
quotient c =
    let coordinate : to_z w64 (of_z w64 (pos 0 -ℤ to_z w64 (of_z w64 c.args.coordinate))) ≡ neg_ℤ c.args.coordinate =
    turned c.args.coordinate (sized c) in
    let step : to_z w64 (of_z w64 c.nanometres-2.result) ≡ c.args.step = omega (arith, ints) in
    rw (same c, coordinate, step) at c.div_euclid.ensures

small : (c : After-div_euclid) → unsigned_abs (int_div_euclid (neg_ℤ c.args.coordinate) c.args.step) ≤ 220000001
small c = quotient_bound (neg_ℤ c.args.coordinate) c.args.step c.requires (rw (size_of_negative c.args.coordinate) (sized c))

pub overflow_cast-result : goal.overflow_cast-result
overflow_cast-result c = rw (quotient c) (negative_fits (int_div_euclid (neg_ℤ c.args.coordinate) c.args.step) (small c))

pub returns : goal.returns
returns c = rw (quotient c) (negated (int_div_euclid (neg_ℤ c.args.coordinate) c.args.step) (small c))
