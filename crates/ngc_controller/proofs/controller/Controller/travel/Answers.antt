use Rattle.std.proofs.Common.{arith, refl, sym, subst, ap, ◌∙◌, ◌≡◌, ◌+◌, ◌-◌, false, drop}
use Rattle.ngc_machine_model.specs.Headline.{job_of}
use Rattle.ngc_checker.specs.Accepted.{commands_at}
use Rattle.ngc_planner.specs.Ramp.{RampState}
use Rattle.ngc_controller.specs.Controller.{ControllerData}
use Rattle.ngc_controller.specs.Panel.{effective_at}
use Rattle.ngc_controller.specs.Fields.{travelled_of, state_of}
use Rattle.ngc_controller.specs.Ring.{IsMoving}
use Rattle.ngc_controller.proofs.AimLaws.{has_next}
use Rattle.ngc_controller.proofs.OrderLaws.{left_order, target_as}
use Rattle.ngc_controller.proofs.HeadLaws.{travels_by, travel_goes_on, order_goes_on, ends_on, travel_ends, goes_if, ends_if}
use Rattle.ngc_controller.proofs.controller.Controller.travel.Goals as goal

pub invariant_of-self : goal.invariant_of-self
invariant_of-self g c =
    let i = c.self.inside in
    let p = i.progress in
    let o = c.self.invariant in
    let moves : IsMoving p.ring.loaded = subst (λ (x : ControllerData). IsMoving x.state.ring) (sym c.self.view_is) c.requires.moves in
    let runs : i.panel.stopped ≡ false = ap (λ (x : ControllerData). x.state.stopped) c.self.view_is ∙ c.requires.runs in
    let f = c.follow-self-inside in
    let t = c.tick-travel in
    let h = travels_by _ p.done p.ring f.new.self.ring p.drive p.dwelt i.position i.tool i.panel t.new.self c.wish-wish.result t.result.rate t.result.due
    t.result.ended f.result o moves c.wish-wish.ensures t.ensures f.ensures.loaded f.ensures.place f.ensures.point in
    let q = f.new.self in
    let target = target_as i.accepted.machine _ (effective_at i.panel) _ q.ring.loaded q.ring.place q.drive.target f.ensures.target c.machine.ensures.value
    c.effective-percent.ensures in
    rw (f.ensures.done, f.ensures.dwelt)
    (order_goes_on _ p.done p.ring q.ring p.drive q.drive p.dwelt i.panel _ t.new.self c.wish-wish.result t.result.rate t.result.due t.result.ended f.result o h
    (goes_if t.result.ended c.if-not-travel.true) f.ensures.loaded f.ensures.room runs f.ensures.ramp f.ensures.continues_travel f.ensures.joints target)

pub returns-then-not-travel-clause-travels : goal.returns-then-not-travel-clause-travels
returns-then-not-travel-clause-travels g c =
    let i = c.self.inside in
    let p = i.progress in
    let job = job_of i.accepted.machine (commands_at i.block_delete i.accepted) in
    let old = state_of p.done p.ring p.drive p.dwelt i.position i.tool i.panel in
    let o = c.self.invariant in
    let moves : IsMoving p.ring.loaded = subst (λ (x : ControllerData). IsMoving x.state.ring) (sym c.self.view_is) c.requires.moves in
    let f = c.follow-self-inside in
    let t = c.tick-travel in
    let h = travels_by job p.done p.ring f.new.self.ring p.drive p.dwelt i.position i.tool i.panel t.new.self c.wish-wish.result t.result.rate t.result.due
    t.result.ended f.result o moves c.wish-wish.ensures t.ensures f.ensures.loaded f.ensures.place f.ensures.point in
    rw (← c.self.view_is, c.then_some-position.ensures, f.ensures.done, f.ensures.dwelt, f.ensures.ramp)
    (travel_goes_on job p.ring.loaded old _ p.drive.ramp t.new.self c.wish-wish.result p.drive.target t.result.rate p.ring.place t.result.due t.result.ended
    f.new.self.ring.place f.result _ f.new.self.ring.loaded h (goes_if t.result.ended c.if-not-travel.true) refl f.ensures.loaded refl refl)

pub invariant_of-self-2 : goal.invariant_of-self-2
invariant_of-self-2 g c =
    let i = c.self.inside in
    let p = i.progress in
    let job = job_of i.accepted.machine (commands_at i.block_delete i.accepted) in
    let old = state_of p.done p.ring p.drive p.dwelt i.position i.tool i.panel in
    let o = c.self.invariant in
    let moves : IsMoving p.ring.loaded = subst (λ (x : ControllerData). IsMoving x.state.ring) (sym c.self.view_is) c.requires.moves in
    let runs : i.panel.stopped ≡ false = ap (λ (x : ControllerData). x.state.stopped) c.self.view_is ∙ c.requires.runs in
    let f = c.follow-self-inside in
    let t = c.tick-travel in
    let n = c.leave.new.self in
    let h = travels_by job p.done p.ring f.new.self.ring p.drive p.dwelt i.position i.tool i.panel t.new.self c.wish-wish.result t.result.rate t.result.due
    t.result.ended f.result o moves c.wish-wish.ensures t.ensures f.ensures.loaded f.ensures.place f.ensures.point in
    let e = ends_on job p.ring.loaded old p.drive.ramp t.new.self c.wish-wish.result p.drive.target t.result.rate p.ring.place t.result.due t.result.ended
    f.new.self.ring.place f.result h (ends_if t.result.ended c.if-not-travel.false) in
    let queue = c.leave.ensures.loaded ∙ ap (λ xs. drop 1 xs) f.ensures.loaded in
    let target = target_as i.accepted.machine _ (effective_at i.panel) _ n.ring.loaded n.ring.place n.drive.target c.leave.ensures.target c.machine-2.ensures.value
    c.effective.ensures in
    left_order job p.done p.ring.loaded t.new.self p.drive.continues_travel i.panel n.done n.ring n.drive n.dwelt p.drive.joints o.machine e.left e.place o.continues_travel
    (λ stopped. cc) o.few e.some queue c.leave.ensures.place (c.leave.ensures.room ∙ f.ensures.room ∙ o.room)
    (c.leave.ensures.done ∙ ap (λ k. k + 1) f.ensures.done) c.leave.ensures.dwelt
    (c.leave.ensures.ramp ∙ f.ensures.ramp) (c.leave.ensures.continues_travel ∙ f.ensures.continues_travel) target o.joints (c.leave.ensures.joints ∙ f.ensures.joints)

pub returns-clause-travels : goal.returns-clause-travels
returns-clause-travels g c =
    let i = c.self.inside in
    let p = i.progress in
    let job = job_of i.accepted.machine (commands_at i.block_delete i.accepted) in
    let old = state_of p.done p.ring p.drive p.dwelt i.position i.tool i.panel in
    let o = c.self.invariant in
    let moves : IsMoving p.ring.loaded = subst (λ (x : ControllerData). IsMoving x.state.ring) (sym c.self.view_is) c.requires.moves in
    let f = c.follow-self-inside in
    let t = c.tick-travel in
    let n = c.leave.new.self in
    let h = travels_by job p.done p.ring f.new.self.ring p.drive p.dwelt i.position i.tool i.panel t.new.self c.wish-wish.result t.result.rate t.result.due
    t.result.ended f.result o moves c.wish-wish.ensures t.ensures f.ensures.loaded f.ensures.place f.ensures.point in
    let e = ends_on job p.ring.loaded old p.drive.ramp t.new.self c.wish-wish.result p.drive.target t.result.rate p.ring.place t.result.due t.result.ended
    f.new.self.ring.place f.result h (ends_if t.result.ended c.if-not-travel.false) in
    let queue = c.leave.ensures.loaded ∙ ap (λ xs. drop 1 xs) f.ensures.loaded in
    let beyond : travelled_of n.ring.loaded n.drive.ramp.rest ≡ t.result.rate - p.drive.ramp.rest =
    ap (λ xs. travelled_of xs n.drive.ramp.rest) queue ∙ ap (λ (x : RampState). travelled_of (drop 1 p.ring.loaded) x.rest) (c.leave.ensures.ramp ∙ f.ensures.ramp)
    ∙ e.travelled in
    rw (← c.self.view_is, c.then_some-position.ensures, f.ensures.done)
    (travel_ends job p.ring.loaded old _ p.drive.ramp t.new.self c.wish-wish.result p.drive.target t.result.rate p.ring.place t.result.due t.result.ended
    f.new.self.ring.place f.result _ n.ring.loaded n.drive.ramp.rate n.drive.ramp.last_change n.done n.dwelt h e beyond queue refl
    (ap (λ (x : RampState). x.rate) (c.leave.ensures.ramp ∙ f.ensures.ramp)) (ap (λ (x : RampState). x.last_change) (c.leave.ensures.ramp ∙ f.ensures.ramp))
    (omega (arith, c.leave.ensures.done, f.ensures.done)) c.leave.ensures.dwelt refl)

pub follow-self-inside-requires-clause-room : goal.follow-self-inside-requires-clause-room
follow-self-inside-requires-clause-room g c =
    let i = c.self.inside in
    let p = i.progress in
    let job = job_of i.accepted.machine (commands_at i.block_delete i.accepted) in
    let o = c.self.invariant in
    let moves : IsMoving p.ring.loaded = subst (λ (x : ControllerData). IsMoving x.state.ring) (sym c.self.view_is) c.requires.moves in
    let t = c.tick-travel in
    has_next job p.done p.ring.loaded p.ring.place p.drive.ramp t.new.self c.wish-wish.result t.result.rate t.result.due t.result.ended moves o.legs o.place t.ensures
