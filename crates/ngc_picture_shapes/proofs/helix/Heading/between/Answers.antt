use Rattle.std.proofs.Common.{◌≡◌, arith, to_z, of_z}
use Rattle.std.specs.Int.{w64}
use Rattle.std.proofs.lemmas.Int.{ints}
use Rattle.ngc_arc_geometry.proofs.Points.{same_point}
use Rattle.ngc_picture_shapes.proofs.helix.Heading.between.Goals as goal

pub returns-clause-value : goal.returns-clause-value
returns-clause-value c =
    let su : to_z w64 (of_z w64 c.args.self.now.u) ≡ c.args.self.now.u = omega (arith, ints) in
    let sv : to_z w64 (of_z w64 c.args.self.now.v) ≡ c.args.self.now.v = omega (arith, ints) in
    let ou : to_z w64 (of_z w64 c.args.other.now.u) ≡ c.args.other.now.u = omega (arith, ints) in
    let ov : to_z w64 (of_z w64 c.args.other.now.v) ≡ c.args.other.now.v = omega (arith, ints) in
    let first = rw (su, ou, ov, sv) at c.sum_and_difference.ensures.value in
    let second = rw (sv, ov, su, ou) at c.sum_and_difference-2.ensures.value in
    let ru : to_z w64 (of_z w64 c.sum_and_difference.result) ≡ c.sum_and_difference.result = omega (arith, ints) in
    let rv : to_z w64 (of_z w64 c.sum_and_difference-2.result) ≡ c.sum_and_difference-2.result = omega (arith, ints) in
    rw (ru, rv) (same_point _ _ _ _ first second)
