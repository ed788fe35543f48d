-- How deep straight feeds cut. Our own. The premises are those of the silence (Silence).
use Rattle.std.specs.Prelude.{◌≡◌, ℕ, ◌+◌, ◌-◌, ◌≤◌, ◌<◌, ◌==◌, max, nat_lt, ℤ, pos, ◌+ℤ◌, ◌-ℤ◌, ◌<ℤ◌, unsigned_abs, List, [], ◌∷◌, ◌++◌, length, slice_index, slice_index_or, slice_set, Option, Some, None, Bool, if◌then◌else◌}
use Rattle.std.specs.List.{position}
use Rattle.std.specs.Int.{int_min}
use Rattle.ngc_fixed_length.specs.declared.points.Point3.{Point3}
use Rattle.ngc_file_figures.specs.declared.limits.ToolLimits.{ToolLimits}
use Rattle.ngc_machine_files.specs.declared.tools.Tool.{Tool}
use Rattle.ngc_commands.specs.declared.command.Action.{Action}
use Rattle.ngc_commands.specs.declared.command.Action.TheVariants.{Move}
use Rattle.ngc_commands.specs.declared.command.Command.{Command}
use Rattle.ngc_commands.specs.declared.movement.Pace.{Pace}
use Rattle.ngc_commands.specs.declared.movement.Pace.TheVariants.{Rapid, Feed}
use Rattle.ngc_commands.specs.declared.movement.Way.{Way}
use Rattle.ngc_commands.specs.declared.movement.Way.TheVariants.{Line, Arc}
use Rattle.ngc_commands.specs.declared.reached.Reached.{Reached}
use Rattle.ngc_commands.specs.Reached.{after_all}
use Rattle.ngc_cells.specs.declared.stretch.Stretch.{Stretch}
use Rattle.ngc_cells.specs.Stretches.{IsNear}
use Rattle.ngc_cells.specs.Grids.{IsGrid, centre}
use Rattle.ngc_stock.specs.declared.cut.Cut.{Cut}
use Rattle.ngc_stock.specs.declared.cylinder.Cylinder.{Cylinder}
use Rattle.ngc_stock.specs.declared.stock.Stock.{Stock}
use Rattle.ngc_stock.specs.Discs.{discs_in}
use Rattle.ngc_stock.specs.Stocks.{reduction, margin, radius, lowest_part, flat, natural_of, IsInReduced}
use Rattle.ngc_stock.specs.Feeds.{AreAfter}
use Rattle.ngc_stock.specs.Walk.{IsLeft, uncut}

-- ---- the depth of a feed, of one disc

-- the height of the foot at the lower end of a line
abbrev pub lower_tip : Cylinder → Point3 → Point3 → ℤ
lower_tip t a b = int_min a.z b.z +ℤ t.bottom

abbrev pub whole : Point3 → Point3 → Stretch
whole a b = record { start = flat a; end = flat b; parts = 1; part = 0 }

-- the disc, smaller by the reduction, passes the centre of cell k, in which material may be left; the
-- material there is d above the lower of the feed's two heights of the foot, or 0 if it is below it
pub record IsInCut (s : Stock) (t : Cylinder) (a b : Point3) (heights : List ℕ) (k d : ℕ) : Type 0 where
  pub thick : reduction s.grid ≤ radius t
  pub within : k < length heights
  pub near : IsNear (whole a b) (radius t - reduction s.grid) (centre s.grid k)
  pub left : 0 < slice_index heights k
  pub depth : d ≡ natural_of ((s.bottom +ℤ pos (slice_index heights k)) -ℤ lower_tip t a b)

-- the greatest of these is the depth of the disc in material of these heights; 0 if there are none
pub record IsDepth (s : Stock) (t : Cylinder) (a b : Point3) (heights : List ℕ) (d : ℕ) : Type 0 where
  pub greatest : (k e : ℕ) → IsInCut s t a b heights k e → e ≤ d
  pub some : 0 < d → (k : ℕ) × IsInCut s t a b heights k d

-- ---- of all discs, from the tool's tip

-- the depth from the tip of a tool, of a disc with this depth; a disc that meets nothing has none
abbrev pub from_tip : Tool → Cylinder → ℕ → ℕ
from_tip t x e = if nat_lt 0 e then e + unsigned_abs (x.bottom -ℤ t.bottom) else 0

-- the greatest of them is the depth of a feed
abbrev pub AreDepths : Stock → Tool → List Cylinder → Point3 → Point3 → List ℕ → ℕ → Type 0
AreDepths s t [] a b heights d = d ≡ 0
AreDepths s t (x ∷ xs) a b heights d =
    (e : ℕ) × (rest : ℕ) × IsDepth s x a b heights e × AreDepths s t xs a b heights rest × (d ≡ max (from_tip t x e) rest)

-- traverses and arcs have none
abbrev pub IsDepthOn : Stock → List Cylinder → Tool → Way → Pace → List ℕ → ℕ → Type 0
IsDepthOn s ds t (Line a b) (Feed f) heights d = AreDepths s t ds a b heights d
IsDepthOn s ds t (Line a b) Rapid heights d = d ≡ 0
IsDepthOn s ds t (Arc arc) pace heights d = d ≡ 0

-- the depth of an action with the mounted tool and its discs
abbrev pub IsDepthOf : Stock → List Cylinder → Option Tool → Action → List ℕ → ℕ → Type 0
IsDepthOf s ds None action heights d = d ≡ 0
IsDepthOf s ds (Some t) (Move m) heights d = IsDepthOn s ds t m.way m.pace heights d
IsDepthOf s ds (Some t) _ heights d = d ≡ 0

-- ---- the deepest feed of each tool

abbrev pub deeper_cut : Cut → Cut → Cut
deeper_cut a b = if nat_lt a.depth b.depth then b else a

abbrev pub is_with : ℕ → Cut → Bool
is_with tool c = c.tool == tool

-- of each tool the deepest, of equal ones the first; the tools in the order of their first cuts
abbrev pub with_cut_at : Option ℕ → List Cut → Cut → List Cut
with_cut_at None cuts c = cuts ++ (c ∷ [])
with_cut_at (Some i) cuts c = slice_set cuts i (deeper_cut (slice_index_or cuts i c) c)

abbrev pub with_cut : List Cut → Cut → List Cut
with_cut cuts c = with_cut_at (position (is_with c.tool) cuts) cuts c

-- a feed that isn't deep is no cut
abbrev pub with_depth : ℕ → ℕ → ℕ → ℕ → List Cut → List Cut
with_depth tool index line d cuts =
    if nat_lt 0 d then with_cut cuts (record { command = index; line = line; tool = tool; depth = d }) else cuts

-- the depth of a tool's deepest cut, or 0
abbrev pub depth_for : List Cut → ℕ → ℕ
depth_for [] tool = 0
depth_for (x ∷ xs) tool = if is_with tool x then max x.depth (depth_for xs tool) else depth_for xs tool

-- ---- what a depth says

-- along a line, what a disc, smaller by the margin, meets of these points is below a height
abbrev pub IsMetBelow : Stock → (Point3 → Type 0) → Point3 → Point3 → ℤ → Cylinder → Type 0
IsMetBelow s Left a b z x =
    (n k : ℕ) → 0 < n → k ≤ n → (q : Point3) → Left q → IsInReduced x a b (margin s.grid) 0 n k q → q.z <ℤ z

-- so it is for each disc
abbrev pub AreMetBelow : Stock → (Point3 → Type 0) → Point3 → Point3 → ℤ → List Cylinder → Type 0
AreMetBelow s Left a b z [] = Unit {0}
AreMetBelow s Left a b z (x ∷ xs) = IsMetBelow s Left a b z x × AreMetBelow s Left a b z xs

-- along a straight feed, what the discs, smaller by the margin, meet of these points is less than d above
-- the lower of the tool's two tips
abbrev pub IsShallowOn : Stock → (Point3 → Type 0) → List Cylinder → Tool → Way → Pace → ℕ → Type 0
IsShallowOn s Left ds t (Line a b) (Feed f) d = AreMetBelow s Left a b (lower_tip (lowest_part t) a b +ℤ pos d) ds
IsShallowOn s Left ds t (Line a b) Rapid d = Unit {0}
IsShallowOn s Left ds t (Arc arc) pace d = Unit {0}

abbrev pub IsShallow : Stock → (Point3 → Type 0) → List Cylinder → Option Tool → Action → ℕ → Type 0
IsShallow s Left ds None action d = Unit {0}
IsShallow s Left ds (Some t) (Move m) d = IsShallowOn s Left ds t m.way m.pace d
IsShallow s Left ds (Some t) _ d = Unit {0}

-- if no traverse before a feed is reported, what its discs meet of the material that the feeds before it have
-- left is less than the feed's depth above the lower tip
abbrev pub CutDepth : Type 0
CutDepth = (s : Stock) (table : List ToolLimits) (r : Reached) (before : List Command) (c : Command) (heights : List ℕ) (d : ℕ) →
    IsGrid s.grid → AreAfter s table r (uncut s) before heights →
    IsDepthOf s (discs_in table (after_all r before).tool) (after_all r before).tool c.action heights d →
    IsShallow s (IsLeft s table r before) (discs_in table (after_all r before).tool) (after_all r before).tool c.action d
