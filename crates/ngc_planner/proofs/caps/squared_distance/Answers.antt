use Rattle.std.proofs.Common.{◌≤◌, arith}
use Rattle.std.proofs.lemmas.Int.{ints}
use Rattle.std.proofs.lemmas.Nat.{mul-le}
use Rattle.ngc_planner.proofs.caps.squared_distance.Goals as goal

pub returns-clause-bound : goal.returns-clause-bound
returns-clause-bound c =
    let far : c.from-distance.result ≤ 200000000000 = omega (arith, ints) in
    let square = mul-le c.from-distance.result c.from-distance.result 200000000000 200000000000 far far in
    omega (arith, square)
