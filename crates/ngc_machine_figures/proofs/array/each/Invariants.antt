use Rattle.std.proofs.Common.{◌≡◌, ◌++◌, drop}
use Rattle.toml.specs.View.{items_view}
use Rattle.ngc_machine_figures.specs.Fixtures.{each}
use Rattle.ngc_machine_figures.specs.Reading.{ok_map}
use Rattle.ngc_machine_figures.proofs.array.each.Given as goal

abbrev pub invariant-loop-i : goal.invariant-loop-i
invariant-loop-i g l =
    each (g.E.Numbered.reading l.context) 0 (items_view l.values)
    ≡ ok_map (λ xs. l.items.items ++ xs) (each (g.E.Numbered.reading l.context) l.i (items_view (drop l.i l.values)))
