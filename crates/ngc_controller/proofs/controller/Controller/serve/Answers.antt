use Rattle.std.proofs.Common.{arith, ℕ, refl, false, true, sym, subst, ap, ◌∙◌, ◌≡◌, ◌+◌, ◌/◌, suc, drop, nat_lt, Some, None}
use Rattle.std.specs.Prelude.{Ok}
use Rattle.ngc_machine_model.specs.Headline.{job_of}
use Rattle.ngc_machine_model.specs.Step.{Dwells, Finishes, ticks_of}
use Rattle.ngc_events.specs.declared.reply.Reply.TheVariants.{Ticked}
use Rattle.ngc_checker.specs.Accepted.{commands_at}
use Rattle.ngc_machine_files.specs.Machine.{MachineFile}
use Rattle.ngc_fixed_length.specs.Limits.{MILLION}
use Rattle.ngc_planner.specs.Ramp.{RampState}
use Rattle.ngc_controller.specs.declared.drive.Drive.{Drive}
use Rattle.ngc_controller.specs.Controller.{ControllerData}
use Rattle.ngc_controller.specs.Fields.{travelled_of, state_of, IsServed}
use Rattle.ngc_controller.specs.Panel.{effective_at}
use Rattle.ngc_controller.proofs.OrderLaws.{left_order, target_as, served_still, served_left, served_some, rests_still, finished, serves_done, serves_more}
use Rattle.ngc_controller.proofs.controller.Controller.serve.Goals as goal

pub halt-requires : goal.halt-requires
halt-requires g c =
    let i = c.self.inside in
    let p = i.progress in
    let o = c.self.invariant in
    let served : IsServed p.ring.loaded c.args.action = subst (λ (x : ControllerData). IsServed x.state.ring c.args.action)
    (sym c.self.view_is) c.requires.head in
    o.slow (served_still p.ring.loaded c.args.action served)

pub invariant_of-self : goal.invariant_of-self
invariant_of-self g c =
    let i = c.self.inside in
    let p = i.progress in
    let o = c.self.invariant in
    rests_still _ p.done p.ring p.drive c.halt.new.self p.dwelt _ i.panel o c.halt.ensures (c.dwells_on.ensures.brief c.if-dwells_on.true)

pub invariant_of-self-2 : goal.invariant_of-self-2
invariant_of-self-2 g c =
    let i = c.self.inside in
    let p = i.progress in
    let job = job_of i.accepted.machine (commands_at i.block_delete i.accepted) in
    let o = c.self.invariant in
    let served : IsServed p.ring.loaded c.args.action = subst (λ (x : ControllerData). IsServed x.state.ring c.args.action)
    (sym c.self.view_is) c.requires.head in
    let ramp : RampState = record p.drive.ramp { rate = 0 } in
    let halted = record p.drive { ramp = ramp } in
    let n = c.leave.new.self in
    let panel = c.panel_after-self-inside.result in
    let left = served_left job p.done p.ring p.drive p.dwelt i.panel c.args.action o served in
    let target = target_as i.accepted.machine _ (effective_at panel) _ n.ring.loaded n.ring.place n.drive.target c.leave.ensures.target c.machine-machine.ensures.value
    c.effective.ensures in
    left_order job p.done p.ring.loaded ramp p.drive.continues_travel panel n.done n.ring n.drive n.dwelt p.drive.joints o.machine left.0 (ap (λ x. x / MILLION) left.1) o.continues_travel
    (λ stopped. refl) o.few (served_some p.ring.loaded c.args.action served) c.leave.ensures.loaded c.leave.ensures.place (c.leave.ensures.room ∙ o.room) c.leave.ensures.done
    c.leave.ensures.dwelt
    (c.leave.ensures.ramp ∙ ap (λ (d : Drive _). d.ramp) {y = halted} c.halt.ensures)
    (c.leave.ensures.continues_travel ∙ ap (λ (d : Drive _). d.continues_travel) {y = halted} c.halt.ensures) target
    o.joints (c.leave.ensures.joints ∙ ap (λ (d : Drive _). d.joints) {y = halted} c.halt.ensures)

pub returns-clause-serves : goal.returns-clause-serves
returns-clause-serves g c =
    let i = c.self.inside in
    let p = i.progress in
    let job = job_of i.accepted.machine (commands_at i.block_delete i.accepted) in
    let o = c.self.invariant in
    let old = state_of p.done p.ring p.drive p.dwelt i.position i.tool i.panel in
    let served : IsServed p.ring.loaded c.args.action = subst (λ (x : ControllerData). IsServed x.state.ring c.args.action)
    (sym c.self.view_is) c.requires.head in
    let still : RampState = record p.drive.ramp { rate = 0 } in
    let halted = record p.drive { ramp = still } in
    let n = c.leave.new.self in
    let panel = c.panel_after-self-inside.result in
    let left = served_left job p.done p.ring p.drive p.dwelt i.panel c.args.action o served in
    let queue : n.ring.loaded ≡ drop 1 p.ring.loaded = c.leave.ensures.loaded in
    let ramp : n.drive.ramp ≡ still = c.leave.ensures.ramp ∙ ap (λ (d : Drive _). d.ramp) {y = halted} c.halt.ensures in
    let none : travelled_of n.ring.loaded n.drive.ramp.rest ≡ 0 = ap (λ xs. travelled_of xs n.drive.ramp.rest) queue
    ∙ ap (λ (x : RampState). travelled_of (drop 1 p.ring.loaded) x.rest) {y = still} ramp ∙ left.1 in
    let ticks = c.dwells_on.ensures.value job (ap (λ (m : MachineFile). m.ticks_per_second) (sym c.machine-machine.ensures.value)) in
    let over : nat_lt (suc p.dwelt) (ticks_of job c.args.action) ≡ false = sym ticks ∙ c.if-dwells_on.false in
    let ends : Finishes c.args.action old (Ok (Ticked None (Some c.ending_of.result)))
    (state_of n.done n.ring n.drive n.dwelt i.position c.tool_after-self-inside.result panel) = record {
      slow = o.slow (served_still p.ring.loaded c.args.action served);
      says = ap (λ e. Ok (Ticked None (Some e))) (c.ending_of.ensures old refl refl);
      goes_on = finished c.args.action old i.tool c.tool_after-self-inside.result i.panel panel n.done n.ring.loaded n.drive.ramp.rate n.drive.ramp.last_change
          (travelled_of n.ring.loaded n.drive.ramp.rest) n.dwelt (omega (arith, c.leave.ensures.done)) queue
          (ap (λ (x : RampState). x.rate) ramp) (ap (λ (x : RampState). x.last_change) ramp) none c.leave.ensures.dwelt c.tool_after-self-inside.ensures c.panel_after-self-inside.ensures;
    } in
    rw (← c.self.view_is) (serves_done job c.args.action old _ _ over ends)

pub returns-then-dwells_on-clause-serves : goal.returns-then-dwells_on-clause-serves
returns-then-dwells_on-clause-serves g c =
    let i = c.self.inside in
    let p = i.progress in
    let job = job_of i.accepted.machine (commands_at i.block_delete i.accepted) in
    let o = c.self.invariant in
    let old = state_of p.done p.ring p.drive p.dwelt i.position i.tool i.panel in
    let served : IsServed p.ring.loaded c.args.action = subst (λ (x : ControllerData). IsServed x.state.ring c.args.action)
    (sym c.self.view_is) c.requires.head in
    let ticks = c.dwells_on.ensures.value job (ap (λ (m : MachineFile). m.ticks_per_second) (sym c.machine-machine.ensures.value)) in
    let still : RampState = record p.drive.ramp { rate = 0 } in
    let halted = record p.drive { ramp = still } in
    let one : p.dwelt + 1 ≡ suc p.dwelt = omega arith in
    let more : nat_lt (suc p.dwelt) (ticks_of job c.args.action) ≡ true = sym ticks ∙ c.if-dwells_on.true in
    let dwells : Dwells old (Ok (Ticked None None)) (state_of p.done p.ring c.halt.new.self (p.dwelt + 1) i.position i.tool i.panel) = record {
      slow = o.slow (served_still p.ring.loaded c.args.action served);
      quiet = refl;
      counts = ap (λ (d : Drive _). state_of p.done p.ring d (p.dwelt + 1) i.position i.tool i.panel) {y = halted} c.halt.ensures
          ∙ ap (λ (n : ℕ). state_of p.done p.ring halted n i.position i.tool i.panel) one;
    } in
    rw (← c.self.view_is) (serves_more job c.args.action old _ _ more dwells)
