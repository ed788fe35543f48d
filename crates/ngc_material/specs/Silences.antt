-- What it means that a walk reports some traverses, and not the others. Our own.
use Rattle.std.specs.Prelude.{◌≡◌, ℕ, ◌↔◌, List, [], ◌∷◌, ◌++◌}
use Rattle.ngc_fixed_length.specs.declared.points.Point3.{Point3}
use Rattle.ngc_file_figures.specs.declared.limits.ToolLimits.{ToolLimits}
use Rattle.ngc_commands.specs.declared.command.Command.{Command}
use Rattle.ngc_commands.specs.declared.reached.Reached.{Reached}
use Rattle.ngc_commands.specs.Reached.{after_all}
use Rattle.ngc_cells.specs.Grids.{IsGrid}
use Rattle.ngc_stock.specs.declared.cylinder.Cylinder.{Cylinder}
use Rattle.ngc_stock.specs.declared.stock.Stock.{Stock}
use Rattle.ngc_stock.specs.Discs.{discs_in}
use Rattle.ngc_stock.specs.Feeds.{IsSafeFeed}
use Rattle.ngc_stock.specs.Walk.{IsClear, IsSilent, IsSafe, IsLeft, uncut}
use Rattle.ngc_material.specs.Touches.{IsInWay}
use Rattle.ngc_material.specs.Walks.{AreFound, with_feeds}
use Rattle.ngc_material.specs.declared.walk.Found.{Found}

-- a traverse is clear for a disc or a part exactly if no cell is in the way
abbrev pub Clearness : Type 0
Clearness = (s : Stock) (t : Cylinder) (a b : Point3) (heights : List ℕ) →
    IsClear s t a b heights ↔ ((k d : ℕ) → ¬ (IsInWay s t a b heights k d))

-- a walk that reports no traverse: none of the program may touch material
abbrev pub Nothing : Type 0
Nothing = (s : Stock) (table : List ToolLimits) (r : Reached) (commands : List Command) (feeds : List Found) →
    AreFound s table r (uncut s) 0 commands [] feeds → IsSilent s table r (uncut s) commands

-- each straight traverse that a walk doesn't report meets nothing that the feeds and the reported
-- traverses before it have left, for each disc of the cutter and each part above it, smaller by the margin and
-- raised
abbrev pub Unreported : Type 0
Unreported = (s : Stock) (table : List ToolLimits) (r : Reached) (commands : List Command) (found feeds : List Found)
    (before after : List Command) (c : Command) → IsGrid s.grid →
    AreFound s table r (uncut s) 0 commands found feeds → with_feeds 0 commands found ≡ before ++ c ∷ after →
    IsSafe s (IsLeft s table r before) (discs_in table (after_all r before).tool) (after_all r before).tool c.action

-- a walk that reports no feed: no part above the cutter, smaller by the margin and raised, meets along a
-- straight feed what the feeds up to this one, and the reported traverses before it, have left
abbrev pub ClearFeeds : Type 0
ClearFeeds = (s : Stock) (table : List ToolLimits) (r : Reached) (found : List Found) (before after : List Command) (c : Command) → IsGrid s.grid →
    AreFound s table r (uncut s) 0 (before ++ c ∷ after) found [] →
    IsSafeFeed s (IsLeft s table r (with_feeds 0 before found ++ c ∷ [])) (after_all r before).tool c.action
