use Rattle.std.proofs.Common.{arith, refl, sym, ap, ◌≡◌, ◌<◌, ◌≤◌, ◌+◌, length, List, ℕ, get_or, slice_get, Some}
use Rattle.std.proofs.lemmas.Option.{slice_get_within, slice_get_read}
use Rattle.ngc_machine_model.specs.Headline.{job_of}
use Rattle.ngc_commands.specs.declared.command.Command.{Command}
use Rattle.ngc_machine_files.specs.Machine.{MachineFile}
use Rattle.ngc_checker.specs.Accepted.{commands_at}
use Rattle.ngc_controller.specs.Panel.{effective_at}
use Rattle.ngc_controller.specs.Fields.{state_of}
use Rattle.ngc_controller.proofs.OrderLaws.{few_on, joints_as, joints_of, more_as, target_as, loaded_order, loads, loads_not}
use Rattle.ngc_controller.proofs.controller.Controller.load.Goals as goal

found_in : (xs ys : List Command) (i j : ℕ) (x : Command) → i < length xs → x ≡ get_or xs i x → xs ≡ ys → i ≡ j → slice_get ys j ≡ Some x
found_in xs ys i j x less at same place = rw (sym same, sym place) (slice_get_read xs (length xs) i x refl less at)

pub load-requires-clause-legs : goal.load-requires-clause-legs
load-requires-clause-legs g c =
    let p = c.self.inside.progress in
    let ring = ap (λ (m : MachineFile). m.ring) c.machine-machine.ensures.value in
    few_on (job_of c.self.inside.accepted.machine (commands_at c.self.inside.block_delete c.self.inside.accepted)) p.done p.ring p.drive p.dwelt
    c.self.inside.panel c.self.invariant (omega (arith, ring, c.len-2.ensures.value, c.if-len-machine.false))

pub load-requires-clause-joints : goal.load-requires-clause-joints
load-requires-clause-joints g c =
    let i = c.self.inside in
    let p = i.progress in
    joints_of i.accepted.machine _ (commands_at i.block_delete i.accepted) _ (p.done + length p.ring.loaded) p.drive.joints c.self.invariant.joints
    c.machine-machine.ensures.value c.commands-commands.ensures

pub returns-then-len-machine-clause-loads : goal.returns-then-len-machine-clause-loads
returns-then-len-machine-clause-loads g c =
    let i = c.self.inside in
    let p = i.progress in
    let commands = commands_at i.block_delete i.accepted in
    let old = state_of p.done p.ring p.drive p.dwelt i.position i.tool i.panel in
    let found : slice_get commands (p.done + length p.ring.loaded) ≡ Some c.in-Some.command.now =
    (let lookup = c.in-Some.ensures.lookup in found_in c.commands-commands.result.now commands (p.done + c.len.result)
    (p.done + length p.ring.loaded) c.in-Some.command.now lookup.3.0 lookup.1 c.commands-commands.ensures (ap (λ k. p.done + k) c.len.ensures.value)) in
    let ring = ap (λ (m : MachineFile). m.ring) c.machine-machine.ensures.value in
    let full : i.accepted.machine.ring ≤ length p.ring.loaded = omega (arith, ring, c.len-2.ensures.value, c.if-len-machine.true) in
    rw (← c.self.view_is) (loads_not (job_of i.accepted.machine commands) old old c.in-Some.command.now _ found full refl)

pub invariant_of-self : goal.invariant_of-self
invariant_of-self g c =
    let i = c.self.inside in
    let p = i.progress in
    let machine = i.accepted.machine in
    let commands = commands_at i.block_delete i.accepted in
    let job = job_of machine commands in
    let n = c.load.new.self in
    let q = c.new-loaded.result.queued in
    let ramp = more_as machine _ commands _ (p.done + length p.ring.loaded) p.drive.continues_travel q p.drive.ramp n.drive.ramp c.load.ensures.ramp
    c.machine-machine.ensures.value c.commands-commands.ensures in
    let joint = joints_as machine _ commands _ (p.done + length p.ring.loaded + 1) n.drive.joints c.load.ensures.joints c.machine-machine.ensures.value
    c.commands-commands.ensures in
    let target = target_as machine _ (effective_at i.panel) _ n.ring.loaded n.ring.place n.drive.target c.load.ensures.target c.machine-machine.ensures.value
    c.effective.ensures in
    let found : slice_get commands (p.done + length p.ring.loaded) ≡ Some c.in-Some.command.now =
    (let lookup = c.in-Some.ensures.lookup in found_in c.commands-commands.result.now commands (p.done + c.len.result)
    (p.done + length p.ring.loaded) c.in-Some.command.now lookup.3.0 lookup.1 c.commands-commands.ensures (ap (λ k. p.done + k) c.len.ensures.value)) in
    loaded_order job p.done p.ring p.drive p.dwelt i.panel q n.done n.ring n.drive n.dwelt c.self.invariant ramp c.load.ensures.continues_travel joint target
    (slice_get_within _ _ _ found) c.load.ensures.done c.load.ensures.dwelt c.load.ensures.loaded c.load.ensures.place c.load.ensures.room

pub returns-clause-loads : goal.returns-clause-loads
returns-clause-loads g c =
    let i = c.self.inside in
    let p = i.progress in
    let machine = i.accepted.machine in
    let commands = commands_at i.block_delete i.accepted in
    let job = job_of machine commands in
    let n = c.load.new.self in
    let q = c.new-loaded.result.queued in
    let ramp = more_as machine _ commands _ (p.done + length p.ring.loaded) p.drive.continues_travel q p.drive.ramp n.drive.ramp c.load.ensures.ramp
    c.machine-machine.ensures.value c.commands-commands.ensures in
    let found : slice_get commands (p.done + length p.ring.loaded) ≡ Some c.in-Some.command.now =
    (let lookup = c.in-Some.ensures.lookup in found_in c.commands-commands.result.now commands (p.done + c.len.result)
    (p.done + length p.ring.loaded) c.in-Some.command.now lookup.3.0 lookup.1 c.commands-commands.ensures (ap (λ k. p.done + k) c.len.ensures.value)) in
    let ring = ap (λ (m : MachineFile). m.ring) c.machine-machine.ensures.value in
    let room : length p.ring.loaded < machine.ring = omega (arith, ring, c.len-2.ensures.value, c.if-len-machine.false) in
    rw (← c.self.view_is, c.len.ensures.value)
    (loads job p.done p.ring p.drive p.dwelt i.position i.tool i.panel c.in-Some.command.now q n.done n.ring n.drive n.dwelt c.self.invariant found room
    c.new-loaded.ensures.command (c.new-loaded.ensures.takes job (ap (λ (m : MachineFile). m.step) (sym c.machine-machine.ensures.value))) ramp
    c.load.ensures.done c.load.ensures.dwelt c.load.ensures.loaded)
