use Rattle.std.proofs.Common.{◌≡◌, to_z, of_z}
use Rattle.std.specs.Int.{w128}
use Rattle.std.proofs.lemmas.Int.{to_z-of_z}
use Rattle.ngc_picture_shapes.proofs.sheet.sheet_of.Goals as goal

pub returns : goal.returns
returns c =
    let r0 : to_z w128 (of_z w128 c.left.result) ≡ c.left.result = to_z-of_z w128 c.left.result (record { sfits = c.left.type_inv }) in
    let r1 : to_z w128 (of_z w128 c.top.result) ≡ c.top.result = to_z-of_z w128 c.top.result (record { sfits = c.top.type_inv }) in
    let r2 : to_z w128 (of_z w128 c.width.result) ≡ c.width.result = to_z-of_z w128 c.width.result (record { sfits = c.width.type_inv }) in
    let r3 : to_z w128 (of_z w128 c.height.result) ≡ c.height.result = to_z-of_z w128 c.height.result (record { sfits = c.height.type_inv }) in
    let r4 : to_z w128 (of_z w128 c.page_width.result) ≡ c.page_width.result =
    to_z-of_z w128 c.page_width.result (record { sfits = c.page_width.type_inv }) in
    let r5 : to_z w128 (of_z w128 c.page_height.result) ≡ c.page_height.result =
    to_z-of_z w128 c.page_height.result (record { sfits = c.page_height.type_inv }) in
    rw (
      r0,
      r1,
      r2,
      r3,
      r4,
      r5,
      c.left.ensures,
      c.top.ensures,
      c.width.ensures.value,
      c.height.ensures.value,
      c.page_width.ensures,
      c.page_height.ensures,
      c.unit_of-unit.ensures,
    )
