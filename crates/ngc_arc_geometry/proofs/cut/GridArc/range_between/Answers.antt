use Rattle.std.proofs.Common.{rules}
use Rattle.std.specs.Int.{w64}
use Rattle.std.proofs.lemmas.Int.{to_z-of_z}
use Rattle.ngc_arc_geometry.proofs.SpanLemmas.{int_min_bound, int_max_bound}
use Rattle.ngc_arc_geometry.proofs.cut.GridArc.range_between.Goals as goal

pub returns-clause-low : goal.returns-clause-low
returns-clause-low c = search rules

pub returns-clause-high : goal.returns-clause-high
returns-clause-high c = search rules

pub around-requires-clause-low : goal.around-requires-clause-low
around-requires-clause-low c =
    let from = to_z-of_z w64 c.along.result (record { sfits = c.along.type_inv }) in
    let to = to_z-of_z w64 c.along-2.result (record { sfits = c.along-2.type_inv }) in
    rw (c.between-span.ensures.low, from, to)
    (int_min_bound c.along.result c.along-2.result 100000000000 c.along.ensures.bound c.along-2.ensures.bound)

pub around-requires-clause-high : goal.around-requires-clause-high
around-requires-clause-high c =
    let from = to_z-of_z w64 c.along.result (record { sfits = c.along.type_inv }) in
    let to = to_z-of_z w64 c.along-2.result (record { sfits = c.along-2.type_inv }) in
    rw (c.between-span.ensures.high, from, to)
    (int_max_bound c.along.result c.along-2.result 100000000000 c.along.ensures.bound c.along-2.ensures.bound)

pub around-requires-clause-greatest : goal.around-requires-clause-greatest
around-requires-clause-greatest c = rw (to_z-of_z w64 c.margin.result (record { sfits = c.margin.type_inv })) c.margin.ensures.bound
