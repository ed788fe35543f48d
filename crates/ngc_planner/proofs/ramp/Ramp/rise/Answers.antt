use Rattle.std.proofs.Common.{◌≡◌, ◌<◌, ◌-◌, ◌+◌, ◌*◌, true, sym, subst}
use Rattle.ngc_planner.specs.Inside.{state_of}
use Rattle.ngc_planner.specs.Ramp.{RampState, IsRamp}
use Rattle.ngc_planner.specs.Stretches.{Ticks, MayRiseOn, may_rise}
use Rattle.ngc_planner.proofs.StretchLaws.{risen_ramp, rises}
use Rattle.ngc_planner.proofs.ramp.Ramp.rise.Goals as goal

pub invariant_of-self : goal.invariant_of-self
invariant_of-self g c =
    let i = c.self.inside in
    let n = c.rising_ticks-ticks.result in
    let may = subst (λ (r : RampState). MayRiseOn r.legs r c.args.wish n) (sym c.self.view_is) c.rising_ticks-ticks.ensures.may in
    let leaves =
    subst (λ (r : RampState). 0 < n → may_rise n r.rate r.last_change r.rest ≡ true) (sym c.self.view_is) c.rising_ticks-ticks.ensures.leaves in
    let kept = risen_ramp (state_of i) c.args.wish n c.self.invariant.ramp may leaves in
    record {
      ramp = subst (λ way. IsRamp (record {
        last_change = i.last_change;
        rate = i.rate + n * i.last_change;
        rest = i.left - way;
        legs = i.legs.legs;
        room = i.legs.room;
      })) (sym c.rise.ensures) kept;
      beyond = c.self.invariant.beyond;
    }

pub returns-clause-ticks : goal.returns-clause-ticks
returns-clause-ticks g c =
    let i = c.self.inside in
    let n = c.rising_ticks-ticks.result in
    let may = subst (λ (r : RampState). MayRiseOn r.legs r c.args.wish n) (sym c.self.view_is) c.rising_ticks-ticks.ensures.may in
    let ticks = rises (state_of i) c.args.wish n c.self.invariant.ramp may in
    rw (← c.self.view_is)
    (subst (λ way. Ticks n (state_of i) c.args.wish (record {
      last_change = i.last_change;
      rate = i.rate + n * i.last_change;
      rest = i.left - way;
      legs = i.legs.legs;
      room = i.legs.room;
    })) (sym c.rise.ensures) ticks)
