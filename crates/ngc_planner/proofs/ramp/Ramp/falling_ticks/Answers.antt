use Rattle.std.proofs.Common.{◌≡◌, ◌≤◌, ◌+◌, ◌∙◌, min, sym, refl, subst, arith, ap}
use Rattle.std.specs.Int.{div_ceil}
use Rattle.ngc_braking.specs.Leg.{tick_bound}
use Rattle.ngc_braking.specs.Work.{GREATEST, beyond}
use Rattle.ngc_planner.specs.Inside.{state_of}
use Rattle.ngc_planner.specs.Ramp.{RampState}
use Rattle.ngc_planner.specs.Stretches.{MayBrakeOn}
use Rattle.ngc_planner.proofs.StretchLaws.{low_bound, first_leg, other_legs, some_change, may_brake_as, may_brake_by}
use Rattle.ngc_planner.proofs.ramp.Ramp.falling_ticks.Goals as goal

pub returns-clause-may : goal.returns-clause-may
returns-clause-may g c =
    let i = c.self.inside in
    let head = c.in-Some.head.now in
    let legs = c.in-Some.afterwards.now in
    let n = c.falling_ticks.result in
    let were = sym c.as_slice.ensures ∙ c.in-Some.ensures.cases.0 in
    let same = c.if-self-head.false in
    let wished : c.self.inside.rate + c.self.inside.last_change ≤ c.args.wish = omega (arith, c.if-wish-faster.false) in
    let within : c.self.inside.rate + c.self.inside.last_change ≤ tick_bound c.in-Some.head.now c.self.inside.left =
    omega (arith, c.if-tick_bound-faster.false, c.tick_bound.ensures) in
    let low = low_bound (min c.args.wish (tick_bound head i.left)) c.args.wish i.left head legs i.legs.legs were c.self.invariant.ramp.each refl in
    let small : c.self.inside.rate + c.self.inside.last_change ≤ 1000000 = omega (arith, wished, within, low) in
    let some = some_change i.last_change head legs i.legs.legs were c.self.invariant.ramp.each same in
    let ahead : c.beyond.result ≡ min GREATEST (beyond i.last_change head.exit legs) = c.beyond.ensures ∙ ap (λ a. min GREATEST (beyond a head.exit legs)) (sym same) in
    let distance : c.div_ceil-distance.result ≡ div_ceil (min GREATEST (beyond i.last_change head.exit legs)) i.last_change =
    c.div_ceil-distance.ensures ∙ ap (λ y. div_ceil y i.last_change) ahead in
    subst (λ (r : RampState). MayBrakeOn r.legs r c.args.wish n) c.self.view_is
    (may_brake_as (state_of i) head legs c.args.wish n were (λ one. may_brake_by n i.last_change i.rate i.left c.args.wish c.div_ceil-distance.result head legs same
    wished within distance small some (c.falling_ticks.ensures.may one)))

pub beyond-requires-clause-head : goal.beyond-requires-clause-head
beyond-requires-clause-head g c =
    first_leg c.in-Some.head.now c.in-Some.afterwards.now c.self.inside.legs.legs (sym c.as_slice.ensures ∙ c.in-Some.ensures.cases.0) c.self.invariant.ramp.each

pub beyond-requires-clause-each : goal.beyond-requires-clause-each
beyond-requires-clause-each g c =
    other_legs c.in-Some.head.now c.in-Some.afterwards.now c.self.inside.legs.legs (sym c.as_slice.ensures ∙ c.in-Some.ensures.cases.0) c.self.invariant.ramp.each

pub div_ceil-distance-requires : goal.div_ceil-distance-requires
div_ceil-distance-requires g c =
    let i = c.self.inside in
    let were = sym c.as_slice.ensures ∙ c.in-Some.ensures.cases.0 in
    let some = some_change i.last_change c.in-Some.head.now c.in-Some.afterwards.now i.legs.legs were c.self.invariant.ramp.each c.if-self-head.false in
    omega (arith, some)

pub falling_ticks-requires-clause-change_least : goal.falling_ticks-requires-clause-change_least
falling_ticks-requires-clause-change_least g c =
    let i = c.self.inside in
    let were = sym c.as_slice.ensures ∙ c.in-Some.ensures.cases.0 in
    some_change i.last_change c.in-Some.head.now c.in-Some.afterwards.now i.legs.legs were c.self.invariant.ramp.each c.if-self-head.false

pub falling_ticks-requires-clause-rate_greatest : goal.falling_ticks-requires-clause-rate_greatest
falling_ticks-requires-clause-rate_greatest g c =
    let i = c.self.inside in
    let head = c.in-Some.head.now in
    let were = sym c.as_slice.ensures ∙ c.in-Some.ensures.cases.0 in
    let wished : c.self.inside.rate + c.self.inside.last_change ≤ c.args.wish = omega (arith, c.if-wish-faster.false) in
    let within : c.self.inside.rate + c.self.inside.last_change ≤ tick_bound c.in-Some.head.now c.self.inside.left =
    omega (arith, c.if-tick_bound-faster.false, c.tick_bound.ensures) in
    let low = low_bound (min c.args.wish (tick_bound head i.left)) c.args.wish i.left head c.in-Some.afterwards.now i.legs.legs were c.self.invariant.ramp.each refl in
    omega (arith, wished, within, low)
