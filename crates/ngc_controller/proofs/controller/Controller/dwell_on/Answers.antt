use Rattle.std.proofs.Common.{arith, refl, sym, subst, ap, ◌∙◌, ◌≡◌, ◌+◌, ◌≤◌, false}
use Rattle.ngc_machine_model.specs.Headline.{job_of}
use Rattle.ngc_checker.specs.Accepted.{commands_at}
use Rattle.ngc_machine_files.specs.Machine.{MachineFile}
use Rattle.ngc_controller.specs.Controller.{ControllerData}
use Rattle.ngc_controller.specs.Fields.{state_of, IsServed}
use Rattle.ngc_controller.proofs.CoastLaws.{coasts_served, state_served}
use Rattle.ngc_controller.proofs.OrderLaws.{served_still}
use Rattle.ngc_controller.proofs.controller.Controller.dwell_on.Goals as goal

pub halt-requires : goal.halt-requires
halt-requires g c =
    let p = c.self.inside.progress in
    let o = c.self.invariant in
    let served : IsServed p.ring.loaded c.args.action = subst (λ (x : ControllerData). IsServed x.state.ring c.args.action)
    (sym c.self.view_is) c.requires.head in
    o.slow (served_still p.ring.loaded c.args.action served)

pub returns-clause-state : goal.returns-clause-state
returns-clause-state g c =
    let i = c.self.inside in
    let p = i.progress in
    let n = c.min-ticks.result in
    let served : IsServed p.ring.loaded c.args.action = subst (λ (x : ControllerData). IsServed x.state.ring c.args.action)
    (sym c.self.view_is) c.requires.head in
    let some : 1 ≤ n = omega (arith, c.if-ticks-eq0.false) in
    let whole = state_served p.done p.ring p.drive c.halt.new.self p.dwelt n i.position i.tool i.panel c.args.action served some c.halt.ensures in
    rw (← c.self.view_is) (ap (λ k. state_of p.done p.ring c.halt.new.self (p.dwelt + k) i.position i.tool i.panel) c.from-2.ensures ∙ whole)

pub returns-clause-coasts : goal.returns-clause-coasts
returns-clause-coasts g c =
    let i = c.self.inside in
    let p = i.progress in
    let job = job_of i.accepted.machine (commands_at i.block_delete i.accepted) in
    let old = state_of p.done p.ring p.drive p.dwelt i.position i.tool i.panel in
    let served : IsServed p.ring.loaded c.args.action = subst (λ (x : ControllerData). IsServed x.state.ring c.args.action)
    (sym c.self.view_is) c.requires.head in
    let runs : i.panel.stopped ≡ false = ap (λ (x : ControllerData). x.state.stopped) c.self.view_is ∙ c.requires.runs in
    let free : i.panel.held ≡ false = ap (λ (x : ControllerData). x.state.held) c.self.view_is ∙ c.requires.free in
    let left = c.dwell_left-left.ensures.value job (ap (λ (m : MachineFile). m.ticks_per_second) (sym c.machine-machine.ensures.value)) in
    rw (← c.self.view_is)
    (coasts_served job p.ring.loaded old c.args.action c.dwell_left-left.result c.min-ticks.result served refl runs free
    (c.self.invariant.slow (served_still p.ring.loaded c.args.action served)) left (omega (arith, c.min-ticks.ensures)))
