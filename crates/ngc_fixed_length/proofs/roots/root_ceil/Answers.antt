use Rattle.std.proofs.Common.{◌≡◌, ◌+◌, ◌*◌, arith}
use Rattle.ngc_fixed_length.proofs.RootLaws.{whole_root_above_is, at_most, above_root}
use Rattle.ngc_fixed_length.proofs.roots.root_ceil.Goals as goal

pub returns-then-from-x-clause-value : goal.returns-then-from-x-clause-value
returns-then-from-x-clause-value c =
    let r = c.root_floor-floor.result in
    let same : c.from.result * c.from-2.result ≡ r * r = cc in
    whole_root_above_is c.args.x r (omega arith) (omega arith) (λ s big. at_most (s * s) r s (omega arith) (omega arith))

pub returns-else-from-x-clause-value : goal.returns-else-from-x-clause-value
returns-else-from-x-clause-value c =
    let r = c.root_floor-floor.result in
    let same : c.from.result * c.from-2.result ≡ r * r = cc in
    whole_root_above_is c.args.x (r + 1) (omega arith) (omega arith) (λ s big. above_root c.args.x r s (omega arith) big)
