-- Silence: what it means that no traverse is reported. Our own. The premises that no proof covers:
-- the material doesn't move, the stock is all that there is, the tool table is true, and a feed clears
-- each column that its discs reach, from their feet up. Positions are those of ideal lines and arcs. Each disc
-- is inside a cutter of its shape (Discs).
use Rattle.std.specs.Prelude.{List, ◌∷◌, ◌++◌}
use Rattle.ngc_file_figures.specs.declared.limits.ToolLimits.{ToolLimits}
use Rattle.ngc_commands.specs.declared.command.Command.{Command}
use Rattle.ngc_commands.specs.declared.reached.Reached.{Reached}
use Rattle.ngc_commands.specs.Reached.{after_all}
use Rattle.ngc_cells.specs.Grids.{IsGrid}
use Rattle.ngc_stock.specs.declared.stock.Stock.{Stock}
use Rattle.ngc_stock.specs.Discs.{discs_in}
use Rattle.ngc_stock.specs.Walk.{IsSilent, IsSafe, IsLeft, uncut}

-- if no traverse of the commands is reported, each meets nothing that the feeds before it have left,
-- for each disc of the cutter and each part above it, smaller by the margin and raised
abbrev pub Silence : Type 0
Silence = (s : Stock) (table : List ToolLimits) (r : Reached) (before after : List Command) (c : Command) → IsGrid s.grid →
    IsSilent s table r (uncut s) (before ++ c ∷ after) →
    IsSafe s (IsLeft s table r before) (discs_in table (after_all r before).tool) (after_all r before).tool c.action
