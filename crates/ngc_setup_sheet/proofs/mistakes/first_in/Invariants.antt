use Rattle.std.proofs.Common.{◌≡◌, drop}
use Rattle.toml.specs.View.{items_view}
use Rattle.ngc_setup_sheet.specs.Mistakes.{first_in}
use Rattle.ngc_setup_sheet.proofs.mistakes.first_in.Given as goal

abbrev pub invariant-loop-i : goal.invariant-loop-i
invariant-loop-i l =
    first_in l.fault l.section 0 (items_view l.values) ≡ first_in l.fault l.section l.i (items_view (drop l.i l.values))
