use Rattle.std.proofs.Common.{◌≡◌, ◌-◌}
use Rattle.ngc_commands.specs.declared.reached.Reached.{Reached}
use Rattle.ngc_sure_contacts.specs.Maps.{IsBefore}
use Rattle.ngc_sure_contacts.proofs.walk.Walk.advance.Given as goal

abbrev pub invariant-loop-self : goal.invariant-loop-self
invariant-loop-self g l = record {
  stock : l.self.ground.stock ≡ l.initial.self.ground.stock;
  before : (start : Reached) →
      IsBefore l.initial.self.ground.stock start l.commands l.initial.self.position l.initial.self.ground.reached l.initial.self.ground.heights.items →
      IsBefore l.initial.self.ground.stock start l.commands l.self.position l.self.ground.reached l.self.ground.heights.items;
}

abbrev pub decreases-loop-self : goal.decreases-loop-self
decreases-loop-self g l = l.to - l.self.position
