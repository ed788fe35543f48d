use Rattle.std.proofs.Common.{◌≡◌, ◌-◌, ◌+◌, ◌*◌, ◌/◌, min, ap, arith}
use Rattle.ngc_braking.specs.Braking.{braking}
use Rattle.ngc_planner.proofs.StretchLaws.{braking_small, may_fall_to}
use Rattle.ngc_planner.proofs.rising.falling_ticks.Goals as goal

pub returns-clause-may : goal.returns-clause-may
returns-clause-may c =
    let a = c.args.change in
    let v = c.args.rate in
    let n = c.min-3.result in
    let needed = c.braking.result + 2 * a in
    let all : c.saturating_add.result ≡ min 18446744073709551615 (c.args.rest + c.args.beyond) = omega (arith, c.saturating_add.ensures) in
    let left : c.saturating_sub-2.result ≡ c.braking.result + 2 * c.args.change - min 18446744073709551615 (c.args.rest + c.args.beyond) =
    omega (arith, c.saturating_sub-2.ensures, all) in
    let short = ap (λ x. x / (2 * a)) left in
    let way : c.saturating_sub.result ≡ c.args.rest - (2 * c.args.change + 1) = omega (arith, c.saturating_sub.ensures) in
    let near = ap (λ x. x / v) way in
    let is : c.braking.result + 2 * c.args.change ≡ braking (c.args.rate + c.args.change) c.args.change + 2 * c.args.change = omega (arith, c.braking.ensures) in
    let small = braking_small (v + a) a c.requires.rate_greatest c.requires.change_least c.requires.change_greatest in
    λ one. may_fall_to n a v c.args.rest c.args.beyond needed c.requires.change_least c.requires.rate_least is one
    (omega (arith, c.min-3.ensures, c.min-2.ensures, c.min.ensures, c.saturating_sub-fast.ensures)) (omega (arith, c.min-3.ensures, c.min-2.ensures, near))
    (omega (arith, c.min-3.ensures, short)) (omega (arith, small, is, c.requires.change_greatest))
