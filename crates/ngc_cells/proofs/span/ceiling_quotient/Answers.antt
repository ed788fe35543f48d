use Rattle.std.proofs.Common.{◌≡◌, pos, ◌≤◌, unsigned_abs, to_z, of_z, neg_ℤ, ◌-ℤ◌, arith}
use Rattle.std.specs.Int.{w128}
use Rattle.std.proofs.lemmas.Int.{ints, to_z-of_z}
use Rattle.ngc_cells.proofs.Quotients.{ceiling_is, quotient_size}
use Rattle.ngc_cells.proofs.span.ceiling_quotient.Goals as goal

pub returns : goal.returns
returns c =
    let by = to_z-of_z w128 c.args.by c.ranges.by in
    let turned : to_z w128 (of_z w128 (pos 0 -ℤ to_z w128 (of_z w128 c.args.limit))) ≡ neg_ℤ c.args.limit = omega (arith, ints) in
    let e = rw (turned, by) at c.div_euclid.ensures in
    let size : unsigned_abs c.div_euclid.result ≤ unsigned_abs (neg_ℤ c.args.limit) = rw e (quotient_size c.args.by (neg_ℤ c.args.limit) c.requires.by) in
    let back : to_z w128 (of_z w128 (pos 0 -ℤ to_z w128 (of_z w128 c.div_euclid.result))) ≡ neg_ℤ c.div_euclid.result = omega (arith, ints, size, c.requires.limit) in
    rw (back, e) (λ q. ceiling_is c.args.by q c.args.limit c.requires.by)
