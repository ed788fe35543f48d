-- The deepest feeds that a walk finds, one of each tool. Our own.
use Rattle.std.specs.Prelude.{◌≡◌, ℕ, ◌+◌, ◌⊎◌, List, [], ◌∷◌, ◌++◌, Option}
use Rattle.ngc_file_figures.specs.declared.limits.ToolLimits.{ToolLimits}
use Rattle.ngc_machine_files.specs.declared.tools.Tool.{Tool}
use Rattle.ngc_commands.specs.declared.command.Command.{Command}
use Rattle.ngc_commands.specs.declared.reached.Reached.{Reached}
use Rattle.ngc_commands.specs.Reached.{after, after_all}
use Rattle.ngc_cells.specs.Grids.{IsGrid}
use Rattle.ngc_stock.specs.declared.cut.Cut.{Cut}
use Rattle.ngc_stock.specs.declared.cylinder.Cylinder.{Cylinder}
use Rattle.ngc_stock.specs.declared.stock.Stock.{Stock}
use Rattle.ngc_stock.specs.Changes.{tool_number}
use Rattle.ngc_stock.specs.Cuts.{IsDepthOf, IsShallow, with_depth, depth_for}
use Rattle.ngc_stock.specs.Discs.{discs_in}
use Rattle.ngc_stock.specs.Walk.{IsStep, IsLeft, uncut}
use Rattle.ngc_material.specs.Walks.{IsFound, with_feeds}
use Rattle.ngc_material.specs.declared.walk.Found.{Found}

-- the cuts after the command with this index, whose depth is that in the material before it
abbrev pub IsCutNext : Stock → List Cylinder → Option Tool → ℕ → Command → List ℕ → List Cut → List Cut → Type 0
IsCutNext s ds tool index c heights before later =
    (d : ℕ) × IsDepthOf s ds tool c.action heights d × (later ≡ with_depth (tool_number tool) index c.line d before)

-- the cuts after a walk that reports these traverses: each command is silent, or it is the next one that is
-- reported
abbrev pub AreCuts : Stock → List ToolLimits → Reached → List ℕ → ℕ → List Command → List Found → List Cut → List Cut → Type 0
AreCuts s table r heights index [] found before cuts = (found ≡ []) × (cuts ≡ before)
AreCuts s table r heights index (c ∷ cs) found before cuts =
    (next : List ℕ) × (between : List Cut) × IsCutNext s (discs_in table r.tool) r.tool index c heights before between ×
    ((IsStep s (discs_in table r.tool) r.tool c.action heights next × AreCuts s table (after r c.action) next (index + 1) cs found between cuts)
    ⊎ ((f : Found) × (rest : List Found) × (found ≡ f ∷ rest) × IsFound s (discs_in table r.tool) r.tool index c heights next f ×
    AreCuts s table (after r c.action) next (index + 1) cs rest between cuts))

-- what the discs of a straight feed, smaller by the margin, meet of the material that the feeds and the
-- reported traverses before it have left is less than the depth of its tool's cut above the feed's lower tip
abbrev pub DeepestCuts : Type 0
DeepestCuts = (s : Stock) (table : List ToolLimits) (r : Reached) (found : List Found) (cuts : List Cut) (before after : List Command) (c : Command) →
    IsGrid s.grid → AreCuts s table r (uncut s) 0 (before ++ c ∷ after) found [] cuts →
    IsShallow s (IsLeft s table r (with_feeds 0 before found)) (discs_in table (after_all r before).tool) (after_all r before).tool c.action
    (depth_for cuts (tool_number (after_all r before).tool))
