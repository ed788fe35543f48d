use Rattle.std.proofs.Common.{◌≤◌, ◌*◌, ◌^◌, arith}
use Rattle.std.proofs.lemmas.Bool.{ltb-true}
use Rattle.std.proofs.lemmas.Nat.{mul-le}
use Rattle.ngc_controller.proofs.ending.dwells_on.Goals as goal

pub returns-in-Dwell-clause-brief : goal.returns-in-Dwell-clause-brief
returns-in-Dwell-clause-brief c = λ t.
    let x = c.from.result in
    let y = c.from-in-Dwell.result in
    let low = ltb-true _ _ t in
    let wide : x * y ≤ 2 ^ 64 * 2 ^ 32 = mul-le x y (2 ^ 64) (2 ^ 32) (omega arith) (omega arith) in
    omega arith
