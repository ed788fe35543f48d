use Rattle.std.proofs.Common.{◌∷◌, [], ◌≢◌, sym, ap, drop, List, ◌∙◌, length, subst, arith, length-drop, reverse}
use Rattle.std.specs.List.{All}
use Rattle.std.proofs.lemmas.List.{drop-drop}
use Rattle.ngc_braking.specs.declared.leg.Leg.{Leg}
use Rattle.ngc_braking.specs.Leg.{IsLeg}
use Rattle.ngc_braking.specs.Outlook.{IsOutlook}
use Rattle.ngc_planner.specs.Queue.{Waiting}
use Rattle.ngc_planner.proofs.QueueLaws.{head_of, rest_each}
use Rattle.ngc_planner.proofs.queue.Queue.leave.Goals as goal

pub returns : goal.returns
returns g c =
    let i = c.self.inside in
    ap (λ (ls : List Leg). record { legs = ls; room = i.room }) (sym (drop-drop 1 i.first i.slots.items))
    ∙ ap (λ (w : Waiting). record { legs = drop 1 w.legs; room = w.room }) c.self.view_is

pub leave-requires-clause-each : goal.leave-requires-clause-each
leave-requires-clause-each g c =
    let i = c.self.inside in
    subst (All IsLeg) (sym c.waiting.ensures) (rest_each i.first i.slots.items c.self.invariant.each)

pub leave-requires-clause-was : goal.leave-requires-clause-was
leave-requires-clause-was g c =
    let i = c.self.inside in
    let some : drop i.first i.slots.items ≢ [] = λ none. c.requires (ap (λ (w : Waiting). w.legs) (sym c.self.view_is) ∙ none) in
    let h = head_of i.first i.slots.items some in (
      h.0,
      subst (λ ls. IsOutlook (h.0 ∷ ls) i.outlook.near (reverse i.outlook.later.items) i.outlook.far) (sym c.waiting.ensures)
          (subst (λ ls. IsOutlook ls i.outlook.near (reverse i.outlook.later.items) i.outlook.far) h.1 c.self.invariant.seen),
    )

pub invariant_of-self : goal.invariant_of-self
invariant_of-self g c =
    let i = c.self.inside in
    let inv = c.self.invariant in
    let ls = c.waiting.ensures in
    let some : drop i.first i.slots.items ≢ [] = λ none. c.requires (ap (λ (w : Waiting). w.legs) (sym c.self.view_is) ∙ none) in
    let h = head_of i.first i.slots.items some in
    let long = length-drop i.first i.slots.items in
    let one = ap length h.1 in
    record {
      within = omega (arith, long, one, inv.within);
      few = omega (arith, inv.few);
      each = rest_each i.first i.slots.items inv.each;
      memory = inv.memory;
      ahead = omega (arith, inv.ahead, c.leave.ensures.capacity);
      seen = subst (λ ks. IsOutlook ks c.leave.new.self.near (reverse c.leave.new.self.later.items) c.leave.new.self.far) ls c.leave.ensures.is;
    }
