-- Feeds below the bottom of a stock. Our own.
use Rattle.std.specs.Prelude.{◌≡◌, ℕ, ◌+◌, ◌*◌, ◌<◌, nat_lt, ℤ, pos, ◌+ℤ◌, ◌-ℤ◌, ◌<ℤ◌, int_le, Bool, ◌&&◌, List, [], ◌∷◌, ◌++◌, Option, Some, None, fold, if◌then◌else◌}
use Rattle.std.specs.Int.{int_min, int_max}
use Rattle.ngc_fixed_length.specs.declared.points.Point2.{Point2}
use Rattle.ngc_fixed_length.specs.declared.points.Point3.{Point3}
use Rattle.ngc_fixed_length.specs.Places.{at_height}
use Rattle.ngc_machine_files.specs.declared.tools.Tool.{Tool}
use Rattle.ngc_arc_geometry.specs.Shape.{ArcShape}
use Rattle.ngc_arc_geometry.specs.Sector.{extremes}
use Rattle.ngc_commands.specs.declared.command.Action.{Action}
use Rattle.ngc_commands.specs.declared.command.Action.TheVariants.{Move}
use Rattle.ngc_commands.specs.declared.command.Command.{Command}
use Rattle.ngc_commands.specs.declared.movement.Pace.{Pace}
use Rattle.ngc_commands.specs.declared.movement.Pace.TheVariants.{Rapid, Feed}
use Rattle.ngc_commands.specs.declared.movement.Way.{Way}
use Rattle.ngc_commands.specs.declared.movement.Way.TheVariants.{Line, Arc}
use Rattle.ngc_commands.specs.declared.reached.Reached.{Reached}
use Rattle.ngc_commands.specs.Reached.{after, after_all}
use Rattle.ngc_stock.specs.declared.below.AllBelow.{AllBelow}
use Rattle.ngc_stock.specs.declared.below.Below.{Below}
use Rattle.ngc_stock.specs.declared.below.PathBox.{PathBox}
use Rattle.ngc_stock.specs.declared.stock.Stock.{Stock}
use Rattle.ngc_stock.specs.Stocks.{radius, lowest_part, natural_of, IsInCell, IsCutBy}

-- ---- the box of a path

abbrev pub lowest : Point3 → Point3 → Point3
lowest p q = record { x = int_min p.x q.x; y = int_min p.y q.y; z = int_min p.z q.z }

abbrev pub highest : Point3 → Point3 → Point3
highest p q = record { x = int_max p.x q.x; y = int_max p.y q.y; z = int_max p.z q.z }

abbrev pub grown : PathBox → Point3 → PathBox
grown b p = record { low = lowest b.low p; high = highest b.high p }

abbrev pub box_of_two : Point3 → Point3 → PathBox
box_of_two p q = grown (record { low = p; high = p }) q

-- with a point in an arc's plane; an arc is in the box of its ends and of the quadrant points that it
-- passes
abbrev pub with_point : ArcShape → PathBox → Point2 → PathBox
with_point a b p = grown b (at_height a.plane p a.end.z)

abbrev pub with_points : ArcShape → PathBox → List Point2 → PathBox
with_points a b points = fold (with_point a) b points

abbrev pub box_of : Way → PathBox
box_of (Line start end) = box_of_two start end
box_of (Arc a) = with_points a (box_of_two a.start a.end) (extremes a)

-- ---- how deep a feed is

-- along an axis, some place from low to high is at most r from a row of cells
abbrev pub is_beside_any : ℤ → ℕ → ℕ → ℕ → ℤ → ℤ → Bool
is_beside_any corner half count r low high =
    int_le (corner -ℤ pos r) high && int_le low (corner +ℤ pos (2 * count * half + r))

-- a tool somewhere in a box is over the cells, or at most its radius beside them along each axis
abbrev pub is_over_any : Stock → Tool → PathBox → Bool
is_over_any s t b =
    is_beside_any s.grid.corner.x s.grid.half s.grid.columns (radius (lowest_part t)) b.low.x b.high.x &&
    is_beside_any s.grid.corner.y s.grid.half s.grid.rows (radius (lowest_part t)) b.low.y b.high.y

-- how far the tip is below the bottom at the box's lowest; 0 if the tool isn't over the stock
abbrev pub depth_in : Stock → Tool → PathBox → ℕ
depth_in s t b = if is_over_any s t b then natural_of (s.bottom -ℤ (b.low.z +ℤ t.bottom)) else 0

-- ---- feeds

abbrev pub below_with : ℕ → ℕ → ℕ → ℕ → Option Below
below_with index line tool depth =
    if nat_lt 0 depth then Some (record { command = index; line = line; tool = tool; depth = depth }) else None

abbrev pub below_on : Stock → Tool → ℕ → ℕ → Way → Pace → Option Below
below_on s t index line way Rapid = None
below_on s t index line way (Feed f) = below_with index line t.number (depth_in s t (box_of way))

abbrev pub below_by : Stock → Option Tool → ℕ → ℕ → Action → Option Below
below_by s None index line action = None
below_by s (Some t) index line (Move m) = below_on s t index line m.way m.pace
below_by s (Some t) index line _ = None

-- a command with this index, if it is a feed below the bottom; without a tool, motions aren't looked at
abbrev pub below_at : Stock → Reached → ℕ → Command → Option Below
below_at s r index c = below_by s r.tool index c.line c.action

abbrev pub deeper : Below → Below → Below
deeper a b = if nat_lt a.depth b.depth then b else a

abbrev pub first_below : Below → AllBelow
first_below b = record { deepest = b; first = b.line; last = b.line }

abbrev pub further_below : AllBelow → Below → AllBelow
further_below m b = record { deepest = deeper m.deepest b; first = m.first; last = b.line }

abbrev pub with_this : Option AllBelow → Below → AllBelow
with_this None b = first_below b
with_this (Some m) b = further_below m b

-- one more, if it is one
abbrev pub with_below : Option AllBelow → Option Below → Option AllBelow
with_below before None = before
with_below before (Some b) = Some (with_this before b)

-- those of a program, from a state and an index, and the ones before
abbrev pub all_below : Stock → Reached → ℕ → List Command → Option AllBelow → Option AllBelow
all_below s r index [] before = before
all_below s r index (c ∷ cs) before =
    all_below s (after r c.action) (index + 1) cs (with_below before (below_at s r index c))

-- ---- what it means that no feed is reported

-- a point under the stock: under one of its cells, below its bottom
pub record IsUnderStock (s : Stock) (q : Point3) : Type 0 where
  pub cell : ℕ
  pub within : cell < s.grid.columns * s.grid.rows
  pub in_cell : IsInCell s.grid cell q
  pub under : q.z <ℤ s.bottom

-- a straight feed cuts no such point
abbrev pub IsAboveOn : Stock → Tool → Way → Pace → Type 0
IsAboveOn s t (Line a b) (Feed f) = (q : Point3) → IsUnderStock s q → ¬ (IsCutBy (lowest_part t) a b q)
IsAboveOn s t (Line a b) Rapid = Unit {0}
IsAboveOn s t (Arc arc) pace = Unit {0}

abbrev pub IsAbove : Stock → Option Tool → Action → Type 0
IsAbove s None action = Unit {0}
IsAbove s (Some t) (Move m) = IsAboveOn s t m.way m.pace
IsAbove s (Some t) _ = Unit {0}

-- a program of which no feed is reported: so it is of each of its straight feeds
abbrev pub AllAbove : Type 0
AllAbove = (s : Stock) (r : Reached) (before later : List Command) (c : Command) →
    all_below s r 0 (before ++ c ∷ later) None ≡ None → IsAbove s (after_all r before).tool c.action
