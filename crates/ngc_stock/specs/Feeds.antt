-- The parts above the cutter, the shank and the holder, along feeds. Our own. The premises are
-- those of the silence (Silence).
use Rattle.std.specs.Prelude.{◌≡◌, ℕ, ◌<◌, ◌≤◌, ◌⊎◌, ℤ, pos, ◌+ℤ◌, ◌<ℤ◌, List, [], ◌∷◌, ◌++◌, length, Option, Some, None}
use Rattle.std.specs.Int.{int_min}
use Rattle.ngc_fixed_length.specs.declared.modes.Plane.TheVariants.{XY}
use Rattle.ngc_fixed_length.specs.declared.points.Point3.{Point3}
use Rattle.ngc_file_figures.specs.declared.limits.ToolLimits.{ToolLimits}
use Rattle.ngc_machine_files.specs.declared.tools.Tool.{Tool}
use Rattle.ngc_commands.specs.declared.command.Action.{Action}
use Rattle.ngc_commands.specs.declared.command.Action.TheVariants.{Move}
use Rattle.ngc_commands.specs.declared.command.Command.{Command}
use Rattle.ngc_commands.specs.declared.movement.Pace.{Pace}
use Rattle.ngc_commands.specs.declared.movement.Pace.TheVariants.{Rapid, Feed}
use Rattle.ngc_commands.specs.declared.movement.Way.{Way}
use Rattle.ngc_commands.specs.declared.movement.Way.TheVariants.{Line, Arc}
use Rattle.ngc_commands.specs.declared.reached.Reached.{Reached}
use Rattle.ngc_commands.specs.Reached.{after, after_all}
use Rattle.ngc_arc_geometry.specs.Shape.{ArcShape}
use Rattle.ngc_cells.specs.Grids.{IsGrid}
use Rattle.ngc_stock.specs.declared.cylinder.Cylinder.{Cylinder}
use Rattle.ngc_stock.specs.declared.stock.Stock.{Stock}
use Rattle.ngc_stock.specs.Arcs.{AreAlong}
use Rattle.ngc_stock.specs.Discs.{discs_in}
use Rattle.ngc_stock.specs.Stocks.{sigma, tolerance, lowest_part, from_part, level_of}
use Rattle.ngc_stock.specs.Walk.{AreClear, IsStep, IsLeft, MeetNone, uncut}

-- the height of the foot at an arc's lower end, raised by the tolerance
abbrev pub raised_foot : Stock → Cylinder → ArcShape → ℤ
raised_foot s t a = (int_min a.start.z a.end.z +ℤ t.bottom) +ℤ pos (tolerance s.grid)

-- it is at least as high as the stock's top, for each part above the cutter
abbrev pub IsAbove : Stock → Cylinder → ArcShape → Type 0
IsAbove s t a = s.height ≤ level_of s (raised_foot s t a)

abbrev pub AreAbove : Stock → Tool → ArcShape → Type 0
AreAbove s t a = (p : ℕ) → 0 < p → p < length t.parts → IsAbove s (lowest_part (from_part t p)) a

-- no part above the cutter may touch, along a feed, material of these heights, which the feed leaves: along a
-- straight one, or along chords of an arc in the plane of X and Y, if the arc isn't above the stock
abbrev pub IsFeedClearOn : Stock → Tool → Way → Pace → List ℕ → Type 0
IsFeedClearOn s t (Line a b) (Feed f) heights = AreClear s t a b heights
IsFeedClearOn s t (Line a b) Rapid heights = Unit {0}
IsFeedClearOn s t (Arc arc) (Feed f) heights =
    arc.plane ≡ XY → AreAlong arc (sigma s.grid) (λ a b. AreClear s t a b heights) ⊎ AreAbove s t arc
IsFeedClearOn s t (Arc arc) Rapid heights = Unit {0}

-- so it is if the action is a feed with a tool
abbrev pub IsFeedClear : Stock → Option Tool → Action → List ℕ → Type 0
IsFeedClear s None action heights = Unit {0}
IsFeedClear s (Some t) (Move m) heights = IsFeedClearOn s t m.way m.pace heights
IsFeedClear s (Some t) _ heights = Unit {0}

-- the heights after some commands, of which no traverse is reported
abbrev pub AreAfter : Stock → List ToolLimits → Reached → List ℕ → List Command → List ℕ → Type 0
AreAfter s table r old [] new = new ≡ old
AreAfter s table r old (c ∷ cs) new =
    (next : List ℕ) × IsStep s (discs_in table r.tool) r.tool c.action old next × AreAfter s table (after r c.action) next cs new

-- ---- what it means that a feed isn't reported

-- these points are lower than the foot of each part above the cutter, raised
abbrev pub AreUnder : Stock → (Point3 → Type 0) → Tool → ArcShape → Type 0
AreUnder s Left t a =
    (p : ℕ) → 0 < p → p < length t.parts → (q : Point3) → Left q → q.z <ℤ raised_foot s (lowest_part (from_part t p)) a

abbrev pub IsSafeFeedOn : Stock → (Point3 → Type 0) → Tool → Way → Pace → Type 0
IsSafeFeedOn s Left t (Line a b) (Feed f) = MeetNone s Left t a b
IsSafeFeedOn s Left t (Line a b) Rapid = Unit {0}
IsSafeFeedOn s Left t (Arc arc) (Feed f) =
    arc.plane ≡ XY → AreAlong arc (sigma s.grid) (λ a b. MeetNone s Left t a b) ⊎ AreUnder s Left t arc
IsSafeFeedOn s Left t (Arc arc) Rapid = Unit {0}

-- if the action is a feed with a tool, no part above the cutter meets any of these points, for each part smaller
-- by the margin and raised: along a straight feed; or along chords that are at most sigma from an arc in the
-- plane of X and Y, as low as its lower end, if the points aren't all under the parts
abbrev pub IsSafeFeed : Stock → (Point3 → Type 0) → Option Tool → Action → Type 0
IsSafeFeed s Left None action = Unit {0}
IsSafeFeed s Left (Some t) (Move m) = IsSafeFeedOn s Left t m.way m.pace
IsSafeFeed s Left (Some t) _ = Unit {0}

-- if a feed is clear, and no traverse before it is reported, then no part above the cutter meets what the
-- feeds up to this one have left
abbrev pub ClearFeed : Type 0
ClearFeed = (s : Stock) (table : List ToolLimits) (r : Reached) (before : List Command) (c : Command) (heights : List ℕ) → IsGrid s.grid →
    AreAfter s table r (uncut s) (before ++ c ∷ []) heights → IsFeedClear s (after_all r before).tool c.action heights →
    IsSafeFeed s (IsLeft s table r (before ++ c ∷ [])) (after_all r before).tool c.action
