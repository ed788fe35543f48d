use Rattle.std.proofs.Common.{◌≡◌, to_z, of_z, rules, arith}
use Rattle.std.specs.Int.{w128}
use Rattle.std.proofs.lemmas.Grind.{common_steps}
use Rattle.ngc_dialect_numbers.specs.Circles.{sine}
use Rattle.ngc_dialect_numbers.proofs.SineLaws.{sine_near}
use Rattle.ngc_dialect_numbers.proofs.circle.sine.Goals as goal

pub returns-clause-near : goal.returns-clause-near
returns-clause-near c =
    let same : to_z w128 (of_z w128 c.narrow.result) ≡ sine c.args.angle = first_of (search rules, grind (arith, common_steps)) in
    rw same (sine_near c.args.angle)
