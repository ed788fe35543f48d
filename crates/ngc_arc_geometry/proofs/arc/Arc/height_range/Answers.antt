use Rattle.std.proofs.Common.{◌≡◌, to_z, of_z, ◌∙◌}
use Rattle.std.specs.Int.{w32}
use Rattle.std.proofs.lemmas.Int.{to_z-of_z}
use Rattle.ngc_arc_geometry.proofs.arc.Arc.height_range.Goals as goal

pub returns-clause-low : goal.returns-clause-low
returns-clause-low c =
    let kept : to_z w32 (of_z w32 c.min.result) ≡ c.min.result = to_z-of_z w32 c.min.result (record { sfits = c.min.type_inv }) in
    let start : to_z w32 (of_z w32 c.to_grid-start.result) ≡ c.to_grid-start.result =
    to_z-of_z w32 c.to_grid-start.result (record { sfits = c.to_grid-start.type_inv }) in
    let end_is : to_z w32 (of_z w32 c.to_grid-end.result) ≡ c.to_grid-end.result =
    to_z-of_z w32 c.to_grid-end.result (record { sfits = c.to_grid-end.type_inv }) in
    let first = rw (c.height.ensures, c.plane.ensures, c.start.ensures.value) at c.to_grid-start.ensures.value in
    let last = rw (c.height-2.ensures, c.plane-2.ensures, c.end.ensures.value) at c.to_grid-end.ensures.value in
    kept ∙ (rw (start, end_is, first, last) at c.min.ensures.value)

pub returns-clause-high : goal.returns-clause-high
returns-clause-high c =
    let kept : to_z w32 (of_z w32 c.max.result) ≡ c.max.result = to_z-of_z w32 c.max.result (record { sfits = c.max.type_inv }) in
    let start : to_z w32 (of_z w32 c.to_grid-start.result) ≡ c.to_grid-start.result =
    to_z-of_z w32 c.to_grid-start.result (record { sfits = c.to_grid-start.type_inv }) in
    let end_is : to_z w32 (of_z w32 c.to_grid-end.result) ≡ c.to_grid-end.result =
    to_z-of_z w32 c.to_grid-end.result (record { sfits = c.to_grid-end.type_inv }) in
    let first = rw (c.height.ensures, c.plane.ensures, c.start.ensures.value) at c.to_grid-start.ensures.value in
    let last = rw (c.height-2.ensures, c.plane-2.ensures, c.end.ensures.value) at c.to_grid-end.ensures.value in
    kept ∙ (rw (start, end_is, first, last) at c.max.ensures.value)
