-- The heights of the cells that a program leaves. Our own.
use Rattle.std.specs.Prelude.{◌≡◌, ℕ, ◌<◌, pos, ◌+ℤ◌, ◌<ℤ◌, List, [], ◌∷◌, length, slice_index}
use Rattle.ngc_fixed_length.specs.declared.points.Point3.{Point3}
use Rattle.ngc_file_figures.specs.declared.limits.ToolLimits.{ToolLimits}
use Rattle.ngc_commands.specs.declared.command.Command.{Command}
use Rattle.ngc_commands.specs.declared.reached.Reached.{Reached}
use Rattle.ngc_commands.specs.Reached.{after}
use Rattle.ngc_cells.specs.Grids.{IsGrid}
use Rattle.ngc_stock.specs.declared.stock.Stock.{Stock}
use Rattle.ngc_stock.specs.Discs.{discs_in}
use Rattle.ngc_stock.specs.Stocks.{IsInCell}
use Rattle.ngc_stock.specs.Walk.{IsLeft, IsStep, uncut}

-- the heights that commands leave, none of whose traverses may touch material
abbrev pub AreLeft : Stock → List ToolLimits → Reached → List ℕ → List Command → List ℕ → Type 0
AreLeft s table r heights [] last = last ≡ heights
AreLeft s table r heights (c ∷ cs) last =
    (next : List ℕ) × IsStep s (discs_in table r.tool) r.tool c.action heights next × AreLeft s table (after r c.action) next cs last

-- no point of the stock that the feeds of such commands have left is as high as its cell
abbrev pub Remains : Type 0
Remains = (s : Stock) (table : List ToolLimits) (r : Reached) (commands : List Command) (last : List ℕ) (k : ℕ) (q : Point3) → IsGrid s.grid →
    AreLeft s table r (uncut s) commands last → k < length last → IsInCell s.grid k q → IsLeft s table r commands q →
    q.z <ℤ (s.bottom +ℤ pos (slice_index last k))
