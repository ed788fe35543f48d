use Rattle.std.proofs.Common.{◌-◌, ◌*◌, sym, subst}
use Rattle.ngc_planner.specs.Inside.{state_of}
use Rattle.ngc_planner.specs.Ramp.{RampState, IsRamp}
use Rattle.ngc_planner.specs.Stretches.{Ticks, MayBrakeOn}
use Rattle.ngc_planner.proofs.StretchLaws.{falls, falls_within}
use Rattle.ngc_planner.proofs.ramp.Ramp.brake.Goals as goal

pub fall-requires-clause-least : goal.fall-requires-clause-least
fall-requires-clause-least g c =
    let n = c.falling_ticks-falling.result in
    let may = subst (λ (r : RampState). MayBrakeOn r.legs r c.args.wish n) (sym c.self.view_is) c.falling_ticks-falling.ensures.may in
    (falls_within (state_of c.self.inside) c.args.wish n may).0

pub invariant_of-self : goal.invariant_of-self
invariant_of-self g c =
    let i = c.self.inside in
    let n = c.falling_ticks-falling.result in
    let may = subst (λ (r : RampState). MayBrakeOn r.legs r c.args.wish n) (sym c.self.view_is) c.falling_ticks-falling.ensures.may in
    let kept = (falls (state_of i) c.args.wish n c.self.invariant.ramp may).1 in
    record {
      ramp = subst (λ way. IsRamp (record {
        last_change = i.last_change;
        rate = i.rate - n * i.last_change;
        rest = i.left - way;
        legs = i.legs.legs;
        room = i.legs.room;
      })) (sym c.fall.ensures) kept;
      beyond = c.self.invariant.beyond;
    }

pub returns-clause-ticks : goal.returns-clause-ticks
returns-clause-ticks g c =
    let i = c.self.inside in
    let n = c.falling_ticks-falling.result in
    let may = subst (λ (r : RampState). MayBrakeOn r.legs r c.args.wish n) (sym c.self.view_is) c.falling_ticks-falling.ensures.may in
    let ticks = (falls (state_of i) c.args.wish n c.self.invariant.ramp may).0 in
    rw (← c.self.view_is)
    (subst (λ way. Ticks n (state_of i) c.args.wish (record {
      last_change = i.last_change;
      rate = i.rate - n * i.last_change;
      rest = i.left - way;
      legs = i.legs.legs;
      room = i.legs.room;
    })) (sym c.fall.ensures) ticks)
