use Rattle.std.proofs.Common.{◌≡◌, drop}
use Rattle.toml.specs.View.{items_view}
use Rattle.ngc_setup_sheet.specs.Asks.{all_items, is_each}
use Rattle.ngc_setup_sheet.proofs.tree.are_each.Given as goal

abbrev pub invariant-loop-value : goal.invariant-loop-value
invariant-loop-value l =
    all_items (is_each l.each) (items_view l.values) ≡ all_items (is_each l.each) (items_view (drop l.value-index l.values))
