use Rattle.std.proofs.Common.{arith, sym, subst, ap, ◌∙◌, ◌≡◌, ◌≤◌, false}
use Rattle.ngc_machine_model.specs.Headline.{job_of}
use Rattle.ngc_checker.specs.Accepted.{commands_at}
use Rattle.ngc_controller.specs.Controller.{ControllerData}
use Rattle.ngc_controller.specs.Fields.{state_of}
use Rattle.ngc_controller.specs.Ring.{IsMoving}
use Rattle.ngc_controller.proofs.CoastLaws.{even_by, coasts_on}
use Rattle.ngc_controller.proofs.controller.Controller.travel_on.Goals as goal

pub returns-clause-coasts : goal.returns-clause-coasts
returns-clause-coasts g c =
    let i = c.self.inside in
    let p = i.progress in
    let job = job_of i.accepted.machine (commands_at i.block_delete i.accepted) in
    let old = state_of p.done p.ring p.drive p.dwelt i.position i.tool i.panel in
    let moves : IsMoving p.ring.loaded = subst (λ (x : ControllerData). IsMoving x.state.ring) (sym c.self.view_is) c.requires.moves in
    let runs : i.panel.stopped ≡ false = ap (λ (x : ControllerData). x.state.stopped) c.self.view_is ∙ c.requires.runs in
    let f = c.follow-self-inside in
    let t = c.coast-ticks in
    let some : 1 ≤ t.result = omega (arith, c.if-ticks-eq0.false) in
    let h = even_by job p.done p.ring f.new.self p.drive p.dwelt i.position i.tool i.panel t.new.self c.wish-wish.result t.result f.result c.self.invariant
    moves runs c.wish-wish.ensures t.ensures.coasts some f.ensures.loaded f.ensures.place f.ensures.point in
    rw (← c.self.view_is) (coasts_on job p.ring.loaded old p.drive.ramp c.wish-wish.result p.drive.target t.result p.ring.place f.result h)
