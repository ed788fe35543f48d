use Rattle.std.proofs.Common.{◌≡◌, arith, of_z, to_z}
use Rattle.std.specs.Int.{w128}
use Rattle.std.proofs.lemmas.Int.{ints}
use Rattle.ngc_drawing.proofs.label.Room.lowered.Goals as goal

pub returns : goal.returns
returns c =
    let r0 : to_z w128 (of_z w128 c.args.self.now.left) ≡ c.args.self.now.left = omega (arith, ints) in
    let r1 : to_z w128 (of_z w128 c.args.self.now.right) ≡ c.args.self.now.right = omega (arith, ints) in
    let r2 : to_z w128 (of_z w128 c.lowered_top.result) ≡ c.lowered_top.result = omega (arith, ints) in
    let r3 : to_z w128 (of_z w128 c.lowered_bottom.result) ≡ c.lowered_bottom.result = omega (arith, ints) in
    let r4 : to_z w128 (of_z w128 c.args.height) ≡ c.args.height = omega (arith, ints) in
    rw (r0, r1, r2, r3, c.lowered_top.ensures, c.lowered_bottom.ensures, r4)
