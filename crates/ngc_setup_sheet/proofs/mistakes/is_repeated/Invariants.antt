use Rattle.std.proofs.Common.{◌≡◌, drop}
use Rattle.toml.specs.View.{view, items_view}
use Rattle.ngc_setup_sheet.specs.Mistakes.{is_repeated}
use Rattle.ngc_setup_sheet.proofs.mistakes.is_repeated.Given as goal

abbrev pub invariant-loop-other : goal.invariant-loop-other
invariant-loop-other l =
    is_repeated (view l.value) (items_view l.afterwards) ≡ is_repeated (view l.value) (items_view (drop l.other-index l.afterwards))
