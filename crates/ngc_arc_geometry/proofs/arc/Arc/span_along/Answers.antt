use Rattle.std.proofs.Common.{arith, ◌≡◌, ◌≤◌, unsigned_abs, to_z, of_z, ◌∙◌}
use Rattle.std.specs.Int.{w64}
use Rattle.std.proofs.lemmas.Int.{ints, to_z-of_z}
use Rattle.ngc_arc_geometry.proofs.SpanLemmas.{int_min_bound, int_max_bound, kept_coordinate}
use Rattle.ngc_arc_geometry.proofs.arc.Arc.span_along.Goals as goal

pub least-requires : goal.least-requires
least-requires c =
    let start : to_z w64 (of_z w64 c.along-start.result) ≡ c.along-start.result =
    to_z-of_z w64 c.along-start.result (record { sfits = c.along-start.type_inv }) in
    let end_is : to_z w64 (of_z w64 c.along-end.result) ≡ c.along-end.result =
    to_z-of_z w64 c.along-end.result (record { sfits = c.along-end.type_inv }) in
    let value = rw (start, end_is) at c.min.ensures.value in
    let small : unsigned_abs c.min.result ≤ 100000000000 = rw value
    (int_min_bound c.along-start.result c.along-end.result 100000000000 c.along-start.ensures.bound c.along-end.ensures.bound) in
    omega (arith, ints, small)

pub greatest-requires : goal.greatest-requires
greatest-requires c =
    let start : to_z w64 (of_z w64 c.along-start.result) ≡ c.along-start.result =
    to_z-of_z w64 c.along-start.result (record { sfits = c.along-start.type_inv }) in
    let end_is : to_z w64 (of_z w64 c.along-end.result) ≡ c.along-end.result =
    to_z-of_z w64 c.along-end.result (record { sfits = c.along-end.type_inv }) in
    let value = rw (start, end_is) at c.max.ensures.value in
    let small : unsigned_abs c.max.result ≤ 100000000000 = rw value
    (int_max_bound c.along-start.result c.along-end.result 100000000000 c.along-start.ensures.bound c.along-end.ensures.bound) in
    omega (arith, ints, small)

pub returns-clause-low : goal.returns-clause-low
returns-clause-low c =
    let start : to_z w64 (of_z w64 c.along-start.result) ≡ c.along-start.result =
    to_z-of_z w64 c.along-start.result (record { sfits = c.along-start.type_inv }) in
    let end_is : to_z w64 (of_z w64 c.along-end.result) ≡ c.along-end.result =
    to_z-of_z w64 c.along-end.result (record { sfits = c.along-end.type_inv }) in
    let first : to_z w64 (of_z w64 c.min.result) ≡ c.min.result = to_z-of_z w64 c.min.result (record { sfits = c.min.type_inv }) in
    let along_start = rw c.start_in_plane.ensures at c.along-start.ensures.value in
    let along_end = rw c.end_in_plane.ensures at c.along-end.ensures.value in
    let ends = rw (start, end_is, along_start, along_end) at c.min.ensures.value in
    let points = c.as_slice.ensures.value ∙ c.extremes-extremes.ensures in
    let value = rw (first, ends, points) at c.least.ensures.value in
    kept_coordinate c.least.result (omega arith) ∙ value

pub returns-clause-high : goal.returns-clause-high
returns-clause-high c =
    let start : to_z w64 (of_z w64 c.along-start.result) ≡ c.along-start.result =
    to_z-of_z w64 c.along-start.result (record { sfits = c.along-start.type_inv }) in
    let end_is : to_z w64 (of_z w64 c.along-end.result) ≡ c.along-end.result =
    to_z-of_z w64 c.along-end.result (record { sfits = c.along-end.type_inv }) in
    let first : to_z w64 (of_z w64 c.max.result) ≡ c.max.result = to_z-of_z w64 c.max.result (record { sfits = c.max.type_inv }) in
    let along_start = rw c.start_in_plane.ensures at c.along-start.ensures.value in
    let along_end = rw c.end_in_plane.ensures at c.along-end.ensures.value in
    let ends = rw (start, end_is, along_start, along_end) at c.max.ensures.value in
    let points = c.as_slice-2.ensures.value ∙ c.extremes-extremes.ensures in
    let value = rw (first, ends, points) at c.greatest.ensures.value in
    kept_coordinate c.greatest.result (omega arith) ∙ value
