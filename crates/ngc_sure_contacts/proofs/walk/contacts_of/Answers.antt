use Rattle.std.proofs.Common.{refl, ◌∙◌}
use Rattle.std.proofs.lemmas.List.{get_or_default}
use Rattle.ngc_sure_contacts.proofs.Walking.{first_before, no_contacts, next_contact, some_contact, all_contacts}
use Rattle.ngc_sure_contacts.proofs.walk.contacts_of.Goals as goal

pub loop-one-init : goal.loop-one-init
loop-one-init g c = record {
  stock = c.in_ok-ground.ensures.stock;
  before = first_before c.args.stock.now c.args.start.now c.args.commands.now _ _ c.in_ok-ground.ensures.reached;
  contacts = no_contacts c.args.stock.now c.args.table.now c.args.start.now c.args.commands.now c.args.found.now _ c.new-traverses.ensures.items;
}

pub loop-one-preserved : goal.loop-one-preserved
loop-one-preserved g c =
    let v = c.loop-one.invariant in
    let s = c.args.stock.now in
    let table = c.args.table.now in
    let start = c.args.start.now in
    let commands = c.args.commands.now in
    let after = c.advance.new.self in
    let step = rw v.stock at c.in_ok-advance.ensures.before in
    let before = step start v.before in
    let same = c.in_ok-advance.ensures.stock ∙ v.stock in
    record {
      stock = same;
      before = before;
      contacts = next_contact s table start commands c.args.found.now c.loop-one.one-index _ c.loop-one.traverses.items c.push.new.self.items _ c.loop-one-test.true
          (get_or_default c.args.found.now c.loop-one.one-index _ _ c.loop-one-test.true) c.in_ok-push.ensures.items v.contacts refl
          (some_contact s table start commands after.position after.ground.reached after.ground.heights.items _ _ before c.in_ok-contact.ensures.here
          (rw same at c.in_ok-contact.ensures.contact));
    }

pub returns : goal.returns
returns g c =
    all_contacts c.args.stock.now c.args.table.now c.args.start.now c.args.commands.now c.args.found.now c.loop-one.one-index c.loop-one.traverses.items
    c.loop-one-test.false c.loop-one.invariant.contacts
