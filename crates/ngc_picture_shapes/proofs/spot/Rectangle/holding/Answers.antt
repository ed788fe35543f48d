use Rattle.std.proofs.Common.{◌≡◌, arith, to_z, of_z}
use Rattle.std.specs.Int.{w64}
use Rattle.std.proofs.lemmas.Int.{ints}
use Rattle.ngc_picture_shapes.proofs.spot.Rectangle.holding.Goals as goal

pub returns : goal.returns
returns c =
    let v0 : to_z w64 (of_z w64 c.args.self.now.low.across) ≡ c.args.self.now.low.across = omega (arith, ints) in
    let v1 : to_z w64 (of_z w64 c.args.self.now.low.up) ≡ c.args.self.now.low.up = omega (arith, ints) in
    let v2 : to_z w64 (of_z w64 c.args.self.now.high.across) ≡ c.args.self.now.high.across = omega (arith, ints) in
    let v3 : to_z w64 (of_z w64 c.args.self.now.high.up) ≡ c.args.self.now.high.up = omega (arith, ints) in
    let v4 : to_z w64 (of_z w64 c.args.spot.now.across) ≡ c.args.spot.now.across = omega (arith, ints) in
    let v5 : to_z w64 (of_z w64 c.args.spot.now.up) ≡ c.args.spot.now.up = omega (arith, ints) in
    let r0 : to_z w64 (of_z w64 c.lesser.result) ≡ c.lesser.result = omega (arith, ints) in
    let r1 : to_z w64 (of_z w64 c.lesser-2.result) ≡ c.lesser-2.result = omega (arith, ints) in
    let r2 : to_z w64 (of_z w64 c.greater.result) ≡ c.greater.result = omega (arith, ints) in
    let r3 : to_z w64 (of_z w64 c.greater-2.result) ≡ c.greater-2.result = omega (arith, ints) in
    rw (r0, r1, r2, r3, c.lesser.ensures, c.lesser-2.ensures, c.greater.ensures, c.greater-2.ensures, v0, v1, v2, v3, v4, v5)
