use Rattle.std.proofs.Common.{refl}
use Rattle.ngc_setup_sheet.proofs.Values.{item_count-items}
use Rattle.ngc_setup_sheet.proofs.tree.are_so_many.Goals as goal

pub returns-then-is_from_to : goal.returns-then-is_from_to
returns-then-is_from_to c =
    rw (item_count-items c.args.values.now, ← c.is_from_to.ensures, c.if-is_from_to.true) c.are_each.ensures

pub returns-else-is_from_to : goal.returns-else-is_from_to
returns-else-is_from_to c =
    rw (item_count-items c.args.values.now, ← c.is_from_to.ensures, c.if-is_from_to.false) refl
