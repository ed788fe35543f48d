use Rattle.std.proofs.Common.{◌≡◌, arith}
use Rattle.std.proofs.lemmas.Int.{ints}
use Rattle.ngc_fixed_length.specs.Grid.{distance}
use Rattle.ngc_planner.proofs.displacement.Displacement.differences.Goals as goal

pub returns : goal.returns
returns c =
    let s = c.self.inside in
    let o = c.other.inside in
    let x : c.abs_diff.result ≡ distance s.x o.x = omega (arith, ints, c.abs_diff.ensures, c.self.invariant.0, c.other.invariant.0) in
    let y : c.abs_diff-2.result ≡ distance s.y o.y = omega (arith, ints, c.abs_diff-2.ensures, c.self.invariant.1, c.other.invariant.1) in
    let z : c.abs_diff-3.result ≡ distance s.z o.z = omega (arith, ints, c.abs_diff-3.ensures, c.self.invariant.2, c.other.invariant.2) in
    rw (← c.self.view_is, ← c.other.view_is, x, y, z)
