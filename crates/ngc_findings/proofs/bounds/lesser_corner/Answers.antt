use Rattle.std.proofs.Common.{rules, ◌≡◌, arith, to_z, of_z}
use Rattle.std.specs.Int.{w32}
use Rattle.std.proofs.lemmas.Int.{ints}
use Rattle.ngc_findings.proofs.bounds.lesser_corner.Goals as goal

pub returns : goal.returns
returns c =
    let p = c.args.low.now in
    let q = c.args.other.now in
    let px : to_z w32 (of_z w32 p.x) ≡ p.x = omega (arith, ints) in
    let py : to_z w32 (of_z w32 p.y) ≡ p.y = omega (arith, ints) in
    let pz : to_z w32 (of_z w32 p.z) ≡ p.z = omega (arith, ints) in
    let qx : to_z w32 (of_z w32 q.x) ≡ q.x = omega (arith, ints) in
    let qy : to_z w32 (of_z w32 q.y) ≡ q.y = omega (arith, ints) in
    let qz : to_z w32 (of_z w32 q.z) ≡ q.z = omega (arith, ints) in
    let x : to_z w32 (of_z w32 c.lesser_next.result) ≡ c.lesser_next.result = omega (arith, ints) in
    let y : to_z w32 (of_z w32 c.lesser_next-2.result) ≡ c.lesser_next-2.result = omega (arith, ints) in
    let z : to_z w32 (of_z w32 c.lesser_next-3.result) ≡ c.lesser_next-3.result = omega (arith, ints) in
    rw (x, y, z, c.lesser_next.ensures, c.lesser_next-2.ensures, c.lesser_next-3.ensures, px, py, pz, qx, qy, qz) (search rules)
