use Rattle.std.proofs.Common.{◌≡◌, ◌≤◌, pos, ◌-ℤ◌, neg_ℤ, unsigned_abs, to_z, of_z, arith}
use Rattle.std.specs.Int.{w64, int_div_euclid}
use Rattle.std.proofs.lemmas.Int.{ints}
use Rattle.ngc_arc_geometry.proofs.GridLemmas.{negative_fits, quotient_bound, above_near, negated, turned}
use Rattle.ngc_arc_geometry.proofs.Machine.{size_of_negative}
use Rattle.ngc_arc_geometry.proofs.extent.first_grid_point.Goals.{After-div_euclid}
use Rattle.ngc_arc_geometry.proofs.extent.first_grid_point.Goals as goal

quotient : (c : After-div_euclid) → c.div_euclid.result ≡ int_div_euclid (neg_ℤ c.args.nanometres) c.args.step
quotient c =
    let nanometres : to_z w64 (of_z w64 (pos 0 -ℤ to_z w64 (of_z w64 c.args.nanometres))) ≡ neg_ℤ c.args.nanometres =
    turned c.args.nanometres c.requires.bound in
    let step : to_z w64 (of_z w64 c.nanometres.result) ≡ c.args.step = omega (arith, ints) in
    rw (nanometres, step) at c.div_euclid.ensures

pub overflow_cast-result : goal.overflow_cast-result
overflow_cast-result c =
    let size : unsigned_abs (neg_ℤ c.args.nanometres) ≤ 110000000000 = rw (size_of_negative c.args.nanometres) c.requires.bound in
    let small = quotient_bound (neg_ℤ c.args.nanometres) c.args.step c.requires.step size in
    rw (quotient c) (negative_fits (int_div_euclid (neg_ℤ c.args.nanometres) c.args.step) small)

pub returns-clause-value : goal.returns-clause-value
returns-clause-value c =
    let size : unsigned_abs (neg_ℤ c.args.nanometres) ≤ 110000000000 = rw (size_of_negative c.args.nanometres) c.requires.bound in
    let small = quotient_bound (neg_ℤ c.args.nanometres) c.args.step c.requires.step size in
    rw (quotient c) (negated (int_div_euclid (neg_ℤ c.args.nanometres) c.args.step) small)

pub returns-clause-near : goal.returns-clause-near
returns-clause-near c = rw (returns-clause-value c) (above_near c.args.nanometres c.args.step c.requires.step)
