use Rattle.std.proofs.Common.{◌<◌, ◌-◌, ◌+◌, ◌*◌, sym, subst}
use Rattle.ngc_braking.specs.Braking.{braking}
use Rattle.ngc_planner.specs.Inside.{state_of}
use Rattle.ngc_planner.specs.Ramp.{RampState}
use Rattle.ngc_planner.specs.Stretches.{MayGoOnOn}
use Rattle.ngc_planner.proofs.StretchLaws.{gone_on_ramp, lasting}
use Rattle.ngc_planner.proofs.ramp.Ramp.go_on.Goals as goal

pub invariant_of-self : goal.invariant_of-self
invariant_of-self g c =
    let i = c.self.inside in
    let n = c.lasting_ticks-lasting.result in
    let may = subst (λ (r : RampState). MayGoOnOn r.legs r c.args.wish n) (sym c.self.view_is) c.lasting_ticks-lasting.ensures.may in
    let leaves =
    subst (λ (r : RampState). 0 < n → n * r.rate + braking (r.rate - r.last_change) r.last_change < r.rest) (sym c.self.view_is)
    c.lasting_ticks-lasting.ensures.leaves in
    record {
      ramp = gone_on_ramp (state_of i) c.args.wish n c.self.invariant.ramp may leaves;
      beyond = c.self.invariant.beyond;
    }

pub returns-clause-ticks : goal.returns-clause-ticks
returns-clause-ticks g c =
    let i = c.self.inside in
    let n = c.lasting_ticks-lasting.result in
    let may = subst (λ (r : RampState). MayGoOnOn r.legs r c.args.wish n) (sym c.self.view_is) c.lasting_ticks-lasting.ensures.may in
    rw (← c.self.view_is) (lasting (state_of i) c.args.wish n c.self.invariant.ramp may)
