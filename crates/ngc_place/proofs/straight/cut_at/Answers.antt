use Rattle.std.proofs.Common.{◌≡◌, to_z, of_z, arith, refl}
use Rattle.std.specs.Int.{w64}
use Rattle.std.proofs.lemmas.Int.{ints}
use Rattle.ngc_place.proofs.Quotients.{sum_kept}
use Rattle.ngc_place.proofs.straight.cut_at.Goals as goal

pub returns-clause-value : goal.returns-clause-value
returns-clause-value c =
    let start : to_z w64 (of_z w64 c.args.start) ≡ c.args.start = omega (arith, ints) in
    let end : to_z w64 (of_z w64 c.args.end) ≡ c.args.end = omega (arith, ints) in
    let way : to_z w64 (of_z w64 c.way_between.result) ≡ c.way_between.result = omega (arith, ints) in
    let between = rw (start, end) at c.way_between.ensures.value in
    let first = rw start at c.in_parts.ensures.value in
    let value = rw (way, between) at c.part_of_way.ensures.value in
    let sum = sum_kept c.in_parts.result c.part_of_way.result (omega arith) (omega arith) in
    rw (sum, first, value) refl
