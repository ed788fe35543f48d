use Rattle.std.proofs.Common.{◌≡◌, pos, ◌-ℤ◌, to_z, of_z, rules}
use Rattle.std.specs.Int.{w128}
use Rattle.ngc_fixed_length.specs.Rounding.{nearest}
use Rattle.ngc_fixed_length.proofs.Nearest.{nearest_is}
use Rattle.ngc_fixed_length.proofs.rounding.rounded_quotient.Goals as goal

pub returns-then-x-y-clause-nearest : goal.returns-then-x-y-clause-nearest
returns-then-x-y-clause-nearest c =
    let e : to_z w128 c.rounded_size-size.result ≡ nearest c.args.x c.args.y = search rules in
    rw e (nearest_is c.args.x c.args.y c.requires.divides)

pub returns-else-x-y-clause-nearest : goal.returns-else-x-y-clause-nearest
returns-else-x-y-clause-nearest c =
    let e : to_z w128 (of_z w128 (pos 0 -ℤ to_z w128 c.rounded_size-size.result)) ≡ nearest c.args.x c.args.y = search rules in
    rw e (nearest_is c.args.x c.args.y c.requires.divides)
