use Rattle.std.proofs.Common.{◌≡◌, ◌++◌, drop, map, option_map}
use Rattle.toml.specs.View.{items_view}
use Rattle.ngc_machine_files.specs.Tree.{each}
use Rattle.ngc_machine_files.specs.ToolText.{numbers_of, tool_numbers}
use Rattle.ngc_machine_files.proofs.tool_contents.tool_entries.Given as goal

abbrev pub invariant-loop-value : goal.invariant-loop-value
invariant-loop-value l =
    each (tool_numbers l.version) (items_view l.values)
    ≡ option_map (λ es. map numbers_of l.entries.items ++ es) (each (tool_numbers l.version) (items_view (drop l.value-index l.values)))
