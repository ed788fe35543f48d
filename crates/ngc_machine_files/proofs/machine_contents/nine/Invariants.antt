use Rattle.std.proofs.Common.{◌≡◌, ◌++◌, length, take, drop, option_map}
use Rattle.toml.specs.View.{items_view}
use Rattle.ngc_machine_files.specs.Tree.{each, coordinates}
use Rattle.ngc_machine_files.proofs.machine_contents.nine.Given as goal

abbrev pub invariant-loop-i : goal.invariant-loop-i
invariant-loop-i l =
    (length l.origins ≡ 9)
    × (each coordinates (items_view l.values)
    ≡ option_map (λ ps. take l.i l.origins ++ ps) (each coordinates (items_view (drop l.i l.values))))
