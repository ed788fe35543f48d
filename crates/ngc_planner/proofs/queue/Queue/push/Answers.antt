use Rattle.std.proofs.Common.{◌≤◌, ◌<◌, ◌++◌, ◌∷◌, [], sym, drop, length, reverse, arith, subst, refl}
use Rattle.std.specs.Prelude.{vec_capacity}
use Rattle.std.specs.List.{All}
use Rattle.ngc_braking.specs.Leg.{IsLeg}
use Rattle.ngc_braking.specs.Outlook.{IsOutlook}
use Rattle.ngc_planner.proofs.QueueLaws.{queue_more}
use Rattle.ngc_planner.proofs.queue.Queue.push.Goals.{then-len-self, else-len-self}
use Rattle.ngc_planner.proofs.queue.Queue.push.Goals as goal

pub invariant_of-self : goal.invariant_of-self
invariant_of-self g c =
    let i = c.self.inside in
    let inv = c.self.invariant in
    let xs = drop i.first i.slots.items in
    let few : length xs < i.room = rw (sym c.self.view_is) at c.requires.room in
    let o = c.add.new.self in
    let seen : IsOutlook (xs ++ c.args.leg ∷ []) o.near (reverse o.later.items) o.far =
    subst (λ ks. IsOutlook (ks ++ c.args.leg ∷ []) o.near (reverse o.later.items) o.far) c.waiting.ensures c.add.ensures.is in
    let ahead : i.room ≤ vec_capacity o.later = omega (arith, inv.ahead, c.add.ensures.capacity) in
    elim c.if-len-self.branch [
      | then-len-self w ↦ rw (c.push_reserved.ensures.items, c.push_reserved.ensures.capacity, w.self-inside-is, w.move_to_front.ensures.items, w.move_to_front.ensures.capacity)
          (queue_more 0 i.room xs xs (vec_capacity i.slots) o c.args.leg c.requires.leg (omega arith) refl few inv.each
          inv.memory ahead seen)
      | else-len-self w ↦ rw (c.push_reserved.ensures.items, c.push_reserved.ensures.capacity, w.self-inside-is)
          (queue_more i.first i.room i.slots.items xs (vec_capacity i.slots) o c.args.leg c.requires.leg inv.within refl few inv.each
          inv.memory ahead seen)
    ]

pub add-requires-clause-each : goal.add-requires-clause-each
add-requires-clause-each g c = subst (All IsLeg) (sym c.waiting.ensures) c.self.invariant.each
