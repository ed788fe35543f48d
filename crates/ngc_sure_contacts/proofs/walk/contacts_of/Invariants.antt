use Rattle.std.proofs.Common.{◌≡◌, take}
use Rattle.ngc_sure_contacts.specs.Contacts.{AreContacts}
use Rattle.ngc_sure_contacts.specs.Maps.{IsBefore}
use Rattle.ngc_sure_contacts.proofs.walk.contacts_of.Given as goal

-- the state before the command at the position, and the contacts so far
abbrev pub invariant-loop-one : goal.invariant-loop-one
invariant-loop-one g l = record {
  stock : l.walk.ground.stock ≡ l.stock;
  before : IsBefore l.stock l.start l.commands l.walk.position l.walk.ground.reached l.walk.ground.heights.items;
  contacts : AreContacts l.stock l.table l.start l.commands (take l.one-index l.found) l.traverses.items;
}
