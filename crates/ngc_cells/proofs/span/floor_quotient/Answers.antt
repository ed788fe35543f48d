use Rattle.std.proofs.Common.{◌≡◌, to_z, of_z, arith}
use Rattle.std.specs.Int.{w128}
use Rattle.std.proofs.lemmas.Int.{ints, to_z-of_z}
use Rattle.ngc_cells.proofs.Quotients.{floor_is}
use Rattle.ngc_cells.proofs.span.floor_quotient.Goals as goal

pub returns : goal.returns
returns c =
    let kept : to_z w128 (of_z w128 c.div_euclid.result) ≡ c.div_euclid.result = omega (arith, ints) in
    let limit = to_z-of_z w128 c.args.limit c.ranges.limit in
    let by = to_z-of_z w128 c.args.by c.ranges.by in
    let e = rw (limit, by) at c.div_euclid.ensures in
    rw (kept, e) (λ q. floor_is c.args.by q c.args.limit c.requires.by)
