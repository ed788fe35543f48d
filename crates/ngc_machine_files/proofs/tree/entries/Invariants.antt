use Rattle.std.proofs.Common.{◌≡◌, ◌++◌, drop, option_map}
use Rattle.toml.specs.View.{items_view}
use Rattle.ngc_machine_files.specs.Tree.{each}
use Rattle.ngc_machine_files.proofs.tree.entries.Given as goal

abbrev pub invariant-loop-value : goal.invariant-loop-value
invariant-loop-value g l =
    each (g.E.Entry.reading l.version) (items_view l.values)
    ≡ option_map (λ es. l.entries.items ++ es) (each (g.E.Entry.reading l.version) (items_view (drop l.value-index l.values)))
