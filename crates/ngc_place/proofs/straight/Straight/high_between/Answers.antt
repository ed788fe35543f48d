use Rattle.std.proofs.Common.{◌≡◌, to_z, of_z, arith, ◌∙◌}
use Rattle.std.specs.Int.{w32, w64}
use Rattle.std.proofs.lemmas.Int.{ints}
use Rattle.ngc_place.proofs.Quotients.{corner_is}
use Rattle.ngc_place.proofs.straight.Straight.high_between.Goals as goal

pub returns : goal.returns
returns c =
    let start_x : to_z w64 (of_z w64 c.args.self.now.start.x) ≡ c.args.self.now.start.x = omega (arith, ints) in
    let start_y : to_z w64 (of_z w64 c.args.self.now.start.y) ≡ c.args.self.now.start.y = omega (arith, ints) in
    let start_z : to_z w64 (of_z w64 c.args.self.now.start.z) ≡ c.args.self.now.start.z = omega (arith, ints) in
    let end_x : to_z w64 (of_z w64 c.args.self.now.end.x) ≡ c.args.self.now.end.x = omega (arith, ints) in
    let end_y : to_z w64 (of_z w64 c.args.self.now.end.y) ≡ c.args.self.now.end.y = omega (arith, ints) in
    let end_z : to_z w64 (of_z w64 c.args.self.now.end.z) ≡ c.args.self.now.end.z = omega (arith, ints) in
    let x : to_z w32 (of_z w32 c.last_needed.result) ≡ c.last_needed.result = omega (arith, ints) in
    let y : to_z w32 (of_z w32 c.last_needed-2.result) ≡ c.last_needed-2.result = omega (arith, ints) in
    let z : to_z w32 (of_z w32 c.last_needed-3.result) ≡ c.last_needed-3.result = omega (arith, ints) in
    let at_x = rw (start_x, end_x) at c.last_needed.ensures in
    let at_y = rw (start_y, end_y) at c.last_needed-2.ensures in
    let at_z = rw (start_z, end_z) at c.last_needed-3.ensures in
    corner_is _ _ _ _ _ _ (x ∙ at_x) (y ∙ at_y) (z ∙ at_z)
