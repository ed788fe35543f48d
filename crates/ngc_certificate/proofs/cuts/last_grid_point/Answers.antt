use Rattle.std.proofs.Common.{◌≡◌, to_z, of_z, arith}
use Rattle.std.specs.Int.{w128, int_div_euclid}
use Rattle.std.proofs.lemmas.Int.{ints}
use Rattle.ngc_certificate.proofs.Quotients.{quotient_size, kept}
use Rattle.ngc_certificate.proofs.cuts.last_grid_point.Goals.{After-div_euclid}
use Rattle.ngc_certificate.proofs.cuts.last_grid_point.Goals as goal

quotient : (c : After-div_euclid) → c.div_euclid.result ≡ int_div_euclid c.args.parts c.args.step
quotient c =
    let parts : to_z w128 (of_z w128 c.args.parts) ≡ c.args.parts = omega (arith, ints) in
    let step : to_z w128 (of_z w128 c.args.step) ≡ c.args.step = omega (arith, ints) in
    rw (parts, step) at c.div_euclid.ensures

pub returns-clause-value : goal.returns-clause-value
returns-clause-value c =
    let size = quotient_size c.args.parts c.args.step c.requires.step in
    rw (quotient c) (kept (int_div_euclid c.args.parts c.args.step) _ size c.requires.parts)

pub returns-clause-bound : goal.returns-clause-bound
returns-clause-bound c = rw (returns-clause-value c) (quotient_size c.args.parts c.args.step c.requires.step)
