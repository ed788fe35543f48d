use Rattle.std.proofs.Common.{◌≡◌, arith, to_z, of_z, ◌≤◌, ◌*◌, ◌+◌, unsigned_abs, ◌∙◌}
use Rattle.std.specs.Int.{w64}
use Rattle.std.proofs.lemmas.Int.{ints}
use Rattle.std.proofs.lemmas.Nat.{mul-le}
use Rattle.ngc_arc_geometry.proofs.Squares.{square_sum}
use Rattle.ngc_picture_shapes.proofs.helix.Heading.square.Goals as goal

sum_of : (c : goal.After-square_of) →
    c.square_of.result ≡ unsigned_abs c.args.self.now.u * unsigned_abs c.args.self.now.u + unsigned_abs c.args.self.now.v * unsigned_abs c.args.self.now.v
sum_of c =
    let u : to_z w64 (of_z w64 c.args.self.now.u) ≡ c.args.self.now.u = omega (arith, ints) in
    let v : to_z w64 (of_z w64 c.args.self.now.v) ≡ c.args.self.now.v = omega (arith, ints) in
    (rw (u, v) at c.square_of.ensures) ∙ square_sum c.args.self.now.u c.args.self.now.v

pub returns-clause-u : goal.returns-clause-u
returns-clause-u c = let e = sum_of c in omega (arith, e)

pub returns-clause-v : goal.returns-clause-v
returns-clause-v c = let e = sum_of c in omega (arith, e)

pub returns-clause-bound : goal.returns-clause-bound
returns-clause-bound c =
    let e = sum_of c in
    let u : unsigned_abs c.args.self.now.u * unsigned_abs c.args.self.now.u ≤ 800000000000 * 800000000000 = mul-le _ _ _ _ c.requires.u c.requires.u in
    let v : unsigned_abs c.args.self.now.v * unsigned_abs c.args.self.now.v ≤ 800000000000 * 800000000000 = mul-le _ _ _ _ c.requires.v c.requires.v in
    omega (arith, e, u, v)
