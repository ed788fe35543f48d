use Rattle.std.proofs.Common.{◌≡◌, unsigned_abs, to_z, arith}
use Rattle.std.specs.Int.{w128}
use Rattle.std.proofs.lemmas.Int.{ints}
use Rattle.ngc_dialect_numbers.proofs.root.root_of.Goals as goal

pub returns-clause-near : goal.returns-clause-near
returns-clause-near c =
    let same : unsigned_abs (to_z w128 c.nearest_root.result) ≡ c.nearest_root.result = omega (arith, ints) in
    rw same c.nearest_root.ensures.near
