use Rattle.std.proofs.Common.{◌≡◌, ◌≤◌, unsigned_abs, to_z, of_z, arith, refl}
use Rattle.std.specs.Int.{w128}
use Rattle.std.proofs.lemmas.Int.{ints}
use Rattle.ngc_certificate.proofs.WideSums.{sum_kept}
use Rattle.ngc_certificate.proofs.cuts.cut_at.Goals as goal

pub returns-clause-value : goal.returns-clause-value
returns-clause-value c =
    let way : to_z w128 (of_z w128 c.way_between.result) ≡ c.way_between.result = omega (arith, ints) in
    let value = rw (way, c.way_between.ensures.value) at c.part_of_way.ensures.value in
    let part : unsigned_abs c.part_of_way.result ≤ 1000000000000000000000 = omega (arith, c.ranges.part.fits) in
    let sum = sum_kept c.in_parts.result c.part_of_way.result (omega arith) part in
    rw (sum, c.in_parts.ensures.value, value) refl
