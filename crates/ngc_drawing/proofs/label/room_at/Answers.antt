use Rattle.std.proofs.Common.{◌≡◌, of_z, to_z}
use Rattle.std.specs.Int.{w128}
use Rattle.std.proofs.lemmas.Int.{to_z-of_z}
use Rattle.ngc_drawing.proofs.label.room_at.Goals as goal

pub returns-clause-value : goal.returns-clause-value
returns-clause-value c =
    let r0 : to_z w128 (of_z w128 c.left.result) ≡ c.left.result = to_z-of_z w128 c.left.result (record { sfits = c.left.type_inv }) in
    let r1 : to_z w128 (of_z w128 c.right.result) ≡ c.right.result = to_z-of_z w128 c.right.result (record { sfits = c.right.type_inv }) in
    let r2 : to_z w128 (of_z w128 c.top.result) ≡ c.top.result = to_z-of_z w128 c.top.result (record { sfits = c.top.type_inv }) in
    let r3 : to_z w128 (of_z w128 c.bottom.result) ≡ c.bottom.result = to_z-of_z w128 c.bottom.result (record { sfits = c.bottom.type_inv }) in
    rw (
      r0,
      r1,
      r2,
      r3,
      c.left.ensures,
      c.right.ensures,
      c.top.ensures.value,
      c.bottom.ensures.value,
      c.anchor_of-anchor.ensures.value,
    )
