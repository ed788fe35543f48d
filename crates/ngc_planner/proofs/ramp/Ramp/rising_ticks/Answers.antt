use Rattle.std.proofs.Common.{◌≡◌, ◌≤◌, ◌-◌, ◌/◌, ◌∙◌, min, sym, ap, subst, arith}
use Rattle.ngc_planner.specs.Inside.{state_of}
use Rattle.ngc_braking.specs.Leg.{tick_bound}
use Rattle.ngc_planner.specs.Ramp.{RampState}
use Rattle.ngc_planner.specs.Stretches.{MayRiseOn}
use Rattle.ngc_planner.proofs.StretchLaws.{reaches, reaches_small, low_bound, some_change, rise_as, may_rise_on}
use Rattle.ngc_planner.proofs.ramp.Ramp.rising_ticks.Goals as goal

pub rising_ticks-requires-clause-rate : goal.rising_ticks-requires-clause-rate
rising_ticks-requires-clause-rate g c =
    let i = c.self.inside in
    let highest = c.min-highest.result in
    let were = sym c.as_slice.ensures ∙ c.in-Some.ensures.cases.0 in
    let same : c.saturating_sub.result ≡ highest - i.rate = omega (arith, c.saturating_sub.ensures) in
    let quotient = ap (λ x. x / i.last_change) same in
    let few : c.min.result ≤ (highest - i.rate) / i.last_change = omega (arith, c.min.ensures, quotient) in
    let is : highest ≡ min c.args.wish (tick_bound c.in-Some.head.now i.left) = omega (arith, c.min-highest.ensures, c.tick_bound.ensures) in
    let low = low_bound highest c.args.wish i.left c.in-Some.head.now _ i.legs.legs were c.self.invariant.ramp.each is in
    let some = some_change i.last_change c.in-Some.head.now _ i.legs.legs were c.self.invariant.ramp.each c.if-self-head.false in
    (reaches_small c.min.result i.rate i.last_change highest some c.self.invariant.ramp.rate_greatest low few).0

pub returns-clause-small : goal.returns-clause-small
returns-clause-small g c =
    let i = c.self.inside in
    let highest = c.min-highest.result in
    let were = sym c.as_slice.ensures ∙ c.in-Some.ensures.cases.0 in
    let same : c.saturating_sub.result ≡ highest - i.rate = omega (arith, c.saturating_sub.ensures) in
    let quotient = ap (λ x. x / i.last_change) same in
    let few : c.min.result ≤ (highest - i.rate) / i.last_change = omega (arith, c.min.ensures, quotient) in
    let is : highest ≡ min c.args.wish (tick_bound c.in-Some.head.now i.left) = omega (arith, c.min-highest.ensures, c.tick_bound.ensures) in
    let low = low_bound highest c.args.wish i.left c.in-Some.head.now _ i.legs.legs were c.self.invariant.ramp.each is in
    let some = some_change i.last_change c.in-Some.head.now _ i.legs.legs were c.self.invariant.ramp.each c.if-self-head.false in
    let small = (reaches_small c.min.result i.rate i.last_change highest some c.self.invariant.ramp.rate_greatest low few).1 in
    omega (arith, small, c.rising_ticks.ensures.few)

pub returns-clause-may : goal.returns-clause-may
returns-clause-may g c =
    let i = c.self.inside in
    let head = c.in-Some.head.now in
    let n = c.rising_ticks.result in
    let highest = c.min-highest.result in
    let were = sym c.as_slice.ensures ∙ c.in-Some.ensures.cases.0 in
    let same : c.saturating_sub.result ≡ highest - i.rate = omega (arith, c.saturating_sub.ensures) in
    let quotient = ap (λ x. x / i.last_change) same in
    let few : n ≤ (highest - i.rate) / i.last_change = omega (arith, c.rising_ticks.ensures.few, c.min.ensures, quotient) in
    subst (λ (r : RampState). MayRiseOn r.legs r c.args.wish n) c.self.view_is
    (rise_as (state_of i) head _ c.args.wish n were (λ some. (
    let least = some_change i.last_change c.in-Some.head.now _ i.legs.legs were c.self.invariant.ramp.each c.if-self-head.false in
    let most = reaches n i.rate i.last_change highest least some few in
    may_rise_on n i.last_change i.rate i.left c.args.wish head c.if-self-head.false (omega (arith, most, c.min-highest.ensures))
    (omega (arith, most, c.min-highest.ensures, c.tick_bound.ensures)) (c.rising_ticks.ensures.may some))))

pub rising_ticks-requires-clause-change_least : goal.rising_ticks-requires-clause-change_least
rising_ticks-requires-clause-change_least g c =
    let were = sym c.as_slice.ensures ∙ c.in-Some.ensures.cases.0 in
    some_change c.self.inside.last_change c.in-Some.head.now _ c.self.inside.legs.legs were c.self.invariant.ramp.each c.if-self-head.false
