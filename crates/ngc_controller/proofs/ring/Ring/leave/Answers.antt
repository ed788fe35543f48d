use Rattle.std.proofs.Common.{◌∙◌, ap, drop}
use Rattle.circular_buffer.specs.Buffer.{Buffer}
use Rattle.ngc_controller.specs.Loaded.{LoadedData}
use Rattle.ngc_controller.specs.Ring.{RingData}
use Rattle.ngc_controller.proofs.RingLaws.{left}
use Rattle.ngc_controller.proofs.ring.Ring.leave.Goals as goal

pub invariant_of-self : goal.invariant_of-self
invariant_of-self g c =
    let i = c.self.inside in
    (left i.head c.pop_front.result i.afterwards.items c.pop_front.new.self.items i.afterwards.capacity c.pop_front.new.self.capacity c.self.invariant
    c.pop_front.ensures.value (ap (λ (b : Buffer LoadedData). b.items) c.pop_front.ensures.items)
    (ap (λ (b : Buffer LoadedData). b.capacity) c.pop_front.ensures.items)).ring

pub returns-clause-loaded : goal.returns-clause-loaded
returns-clause-loaded g c =
    let i = c.self.inside in
    (left i.head c.pop_front.result i.afterwards.items c.pop_front.new.self.items i.afterwards.capacity c.pop_front.new.self.capacity c.self.invariant
    c.pop_front.ensures.value (ap (λ (b : Buffer LoadedData). b.items) c.pop_front.ensures.items)
    (ap (λ (b : Buffer LoadedData). b.capacity) c.pop_front.ensures.items)).queue
    ∙ ap (λ (r : RingData). drop 1 r.loaded) c.self.view_is
