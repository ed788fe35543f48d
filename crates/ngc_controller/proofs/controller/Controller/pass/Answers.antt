use Rattle.std.proofs.Common.{◌≡◌, ◌+◌, ◌*◌, ◌/◌, ◌≤◌, suc, drop, Some, None, true, false, arith, refl, sym, subst, ap, ◌∙◌}
use Rattle.ngc_machine_files.specs.Machine.{MachineFile}
use Rattle.ngc_machine_model.specs.Headline.{job_of}
use Rattle.ngc_machine_model.specs.Progress.{is_free}
use Rattle.ngc_machine_model.specs.State.{path_steps}
use Rattle.ngc_checker.specs.Accepted.{commands_at}
use Rattle.ngc_planner.specs.Ramp.{RampState}
use Rattle.ngc_controller.specs.Controller.{ControllerData}
use Rattle.ngc_controller.specs.Drive.{is_head_by_place}
use Rattle.ngc_controller.specs.Fields.{travelled_of, state_of}
use Rattle.ngc_controller.specs.Finishing.{TakePaths}
use Rattle.ngc_controller.specs.Panel.{effective_at}
use Rattle.ngc_controller.specs.Ring.{IsMoving, head_of}
use Rattle.ngc_controller.proofs.OrderLaws.{left_order, target_as}
use Rattle.ngc_controller.proofs.MotionEnds.{frees, head_moves, head_takes, is_set, passes_on, ready}
use Rattle.ngc_controller.proofs.controller.Controller.pass.Goals as goal

pub end_leg-ticks-requires-clause-some : goal.end_leg-ticks-requires-clause-some
end_leg-ticks-requires-clause-some g c =
    let i = c.self.inside in
    let p = i.progress in
    let job = job_of i.accepted.machine (commands_at i.block_delete i.accepted) in
    let old = state_of p.done p.ring p.drive p.dwelt i.position i.tool i.panel in
    let head = c.in-Some.head.now in
    let found : Some head ≡ head_of p.ring.loaded p.ring.place = rw c.in-Some.is at c.head.ensures in
    let moves : IsMoving p.ring.loaded = subst (λ (x : ControllerData). IsMoving x.state.ring) (sym c.self.view_is) c.requires.moves in
    let free : is_free old ≡ true = subst (λ (x : ControllerData). is_free x.state ≡ true) (sym c.self.view_is) c.requires.free in
    let steady : is_head_by_place job.machine p.ring.loaded ≡ false =
    subst (λ (x : ControllerData). is_head_by_place x.job.machine x.state.ring ≡ false) (sym c.self.view_is) c.requires.steady in
    let some : 1 ≤ path_steps head.queued = head_moves p.ring.loaded p.ring.place head moves found in
    let steps = c.path_steps-all.ensures.value in
    let motion = c.path_steps-all.ensures.moves (omega (arith, some, steps)) in
    let all = ready job p.done p.ring p.drive p.dwelt i.position i.tool i.panel head c.self.invariant moves found motion free steady in
    let set = is_set job p.ring.loaded old p.drive.ramp p.drive.target p.ring.place head all in
    set.some

pub end_leg-ticks-requires-clause-wish : goal.end_leg-ticks-requires-clause-wish
end_leg-ticks-requires-clause-wish g c =
    let i = c.self.inside in
    let p = i.progress in
    let job = job_of i.accepted.machine (commands_at i.block_delete i.accepted) in
    let old = state_of p.done p.ring p.drive p.dwelt i.position i.tool i.panel in
    let head = c.in-Some.head.now in
    let found : Some head ≡ head_of p.ring.loaded p.ring.place = rw c.in-Some.is at c.head.ensures in
    let moves : IsMoving p.ring.loaded = subst (λ (x : ControllerData). IsMoving x.state.ring) (sym c.self.view_is) c.requires.moves in
    let free : is_free old ≡ true = subst (λ (x : ControllerData). is_free x.state ≡ true) (sym c.self.view_is) c.requires.free in
    let steady : is_head_by_place job.machine p.ring.loaded ≡ false =
    subst (λ (x : ControllerData). is_head_by_place x.job.machine x.state.ring ≡ false) (sym c.self.view_is) c.requires.steady in
    let some : 1 ≤ path_steps head.queued = head_moves p.ring.loaded p.ring.place head moves found in
    let steps = c.path_steps-all.ensures.value in
    let motion = c.path_steps-all.ensures.moves (omega (arith, some, steps)) in
    let all = ready job p.done p.ring p.drive p.dwelt i.position i.tool i.panel head c.self.invariant moves found motion free steady in
    let set = is_set job p.ring.loaded old p.drive.ramp p.drive.target p.ring.place head all in
    set.wish

pub end_leg-ticks-requires-clause-short : goal.end_leg-ticks-requires-clause-short
end_leg-ticks-requires-clause-short g c =
    let i = c.self.inside in
    let p = i.progress in
    let job = job_of i.accepted.machine (commands_at i.block_delete i.accepted) in
    let old = state_of p.done p.ring p.drive p.dwelt i.position i.tool i.panel in
    let head = c.in-Some.head.now in
    let found : Some head ≡ head_of p.ring.loaded p.ring.place = rw c.in-Some.is at c.head.ensures in
    let moves : IsMoving p.ring.loaded = subst (λ (x : ControllerData). IsMoving x.state.ring) (sym c.self.view_is) c.requires.moves in
    let free : is_free old ≡ true = subst (λ (x : ControllerData). is_free x.state ≡ true) (sym c.self.view_is) c.requires.free in
    let steady : is_head_by_place job.machine p.ring.loaded ≡ false =
    subst (λ (x : ControllerData). is_head_by_place x.job.machine x.state.ring ≡ false) (sym c.self.view_is) c.requires.steady in
    let some : 1 ≤ path_steps head.queued = head_moves p.ring.loaded p.ring.place head moves found in
    let steps = c.path_steps-all.ensures.value in
    let motion = c.path_steps-all.ensures.moves (omega (arith, some, steps)) in
    let all = ready job p.done p.ring p.drive p.dwelt i.position i.tool i.panel head c.self.invariant moves found motion free steady in
    let set = is_set job p.ring.loaded old p.drive.ramp p.drive.target p.ring.place head all in
    let short = set.short in
    omega (arith, short, steps, c.path_steps-all.ensures.few)

pub invariant_of-self : goal.invariant_of-self
invariant_of-self g c =
    let i = c.self.inside in
    let p = i.progress in
    let job = job_of i.accepted.machine (commands_at i.block_delete i.accepted) in
    let old = state_of p.done p.ring p.drive p.dwelt i.position i.tool i.panel in
    let head = c.in-Some.head.now in
    let found : Some head ≡ head_of p.ring.loaded p.ring.place = rw c.in-Some.is at c.head.ensures in
    let moves : IsMoving p.ring.loaded = subst (λ (x : ControllerData). IsMoving x.state.ring) (sym c.self.view_is) c.requires.moves in
    let free : is_free old ≡ true = subst (λ (x : ControllerData). is_free x.state ≡ true) (sym c.self.view_is) c.requires.free in
    let steady : is_head_by_place job.machine p.ring.loaded ≡ false =
    subst (λ (x : ControllerData). is_head_by_place x.job.machine x.state.ring ≡ false) (sym c.self.view_is) c.requires.steady in
    let some : 1 ≤ path_steps head.queued = head_moves p.ring.loaded p.ring.place head moves found in
    let steps = c.path_steps-all.ensures.value in
    let motion = c.path_steps-all.ensures.moves (omega (arith, some, steps)) in
    let all = ready job p.done p.ring p.drive p.dwelt i.position i.tool i.panel head c.self.invariant moves found motion free steady in
    let q = c.end_leg-ticks.new.ramp in
    let passes = passes_on job p.ring.loaded old p.drive.ramp q p.drive.target p.ring.place c.end_leg-ticks.result head all c.end_leg-ticks.ensures in
    let n = c.leave.new.self in
    let o = c.self.invariant in
    let runs : i.panel.stopped ≡ false = (frees old free).1 in
    let target = target_as i.accepted.machine _ (effective_at i.panel) _ n.ring.loaded n.ring.place n.drive.target c.leave.ensures.target c.machine-2.ensures.value
    c.effective.ensures in
    left_order job p.done p.ring.loaded q p.drive.continues_travel i.panel n.done n.ring n.drive n.dwelt p.drive.joints o.machine passes.left passes.zero o.continues_travel
    (λ stopped. absurd (let never : true ≡ false = sym stopped ∙ runs in cc)) o.few passes.some c.leave.ensures.loaded c.leave.ensures.place (c.leave.ensures.room ∙ o.room)
    c.leave.ensures.done c.leave.ensures.dwelt c.leave.ensures.ramp c.leave.ensures.continues_travel target o.joints c.leave.ensures.joints

pub returns-clause-finishes : goal.returns-clause-finishes
returns-clause-finishes g c =
    let i = c.self.inside in
    let p = i.progress in
    let job = job_of i.accepted.machine (commands_at i.block_delete i.accepted) in
    let old = state_of p.done p.ring p.drive p.dwelt i.position i.tool i.panel in
    let head = c.in-Some.head.now in
    let found : Some head ≡ head_of p.ring.loaded p.ring.place = rw c.in-Some.is at c.head.ensures in
    let moves : IsMoving p.ring.loaded = subst (λ (x : ControllerData). IsMoving x.state.ring) (sym c.self.view_is) c.requires.moves in
    let free : is_free old ≡ true = subst (λ (x : ControllerData). is_free x.state ≡ true) (sym c.self.view_is) c.requires.free in
    let steady : is_head_by_place job.machine p.ring.loaded ≡ false =
    subst (λ (x : ControllerData). is_head_by_place x.job.machine x.state.ring ≡ false) (sym c.self.view_is) c.requires.steady in
    let some : 1 ≤ path_steps head.queued = head_moves p.ring.loaded p.ring.place head moves found in
    let steps = c.path_steps-all.ensures.value in
    let motion = c.path_steps-all.ensures.moves (omega (arith, some, steps)) in
    let all = ready job p.done p.ring p.drive p.dwelt i.position i.tool i.panel head c.self.invariant moves found motion free steady in
    let q = c.end_leg-ticks.new.ramp in
    let passes = passes_on job p.ring.loaded old p.drive.ramp q p.drive.target p.ring.place c.end_leg-ticks.result head all c.end_leg-ticks.ensures in
    let n = c.leave.new.self in
    let takes : TakePaths job p.ring.loaded = subst (λ (x : ControllerData). TakePaths x.job x.state.ring) (sym c.self.view_is) c.requires.takes in
    let end = c.end-end.ensures job (ap (λ (m : MachineFile). m.step) (sym c.machine.ensures.value))
    (head_takes job p.ring.loaded p.ring.place head moves found takes) some in
    let left = c.leave.ensures in
    rw (← c.self.view_is)
    (passes.finishes head (state_of n.done n.ring n.drive n.dwelt c.end-end.result i.tool i.panel) c.end-end.result p.ring.place c.steps_left-path_steps.result
    (travelled_of n.ring.loaded n.drive.ramp.rest) n.ring.loaded n.drive.ramp.rate n.drive.ramp.last_change n.done n.dwelt found c.self.invariant.place c.steps_left-path_steps.ensures end
    (ap (λ (x : RampState). travelled_of n.ring.loaded x.rest) left.ramp) left.loaded (ap (λ (x : RampState). x.rate) left.ramp)
    (ap (λ (x : RampState). x.last_change) left.ramp) (omega (arith, left.done)) left.dwelt refl)
