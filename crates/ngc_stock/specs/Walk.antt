-- Which heights of the cells a program's motions leave, and when a traverse may touch material. A cutter is
-- its discs, in a list, and `table` says what shapes the cutters of the tools have. Our own.
use Rattle.std.specs.Prelude.{◌≡◌, ℕ, zero, suc, ◌+◌, ◌*◌, ◌-◌, ◌≤◌, ◌<◌, ◌⊎◌, pos, ◌+ℤ◌, List, [], ◌∷◌, length, replicate, Option, Some, None}
use Rattle.ngc_fixed_length.specs.declared.modes.Plane.TheVariants.{XY}
use Rattle.ngc_fixed_length.specs.declared.points.Point2.{Point2}
use Rattle.ngc_fixed_length.specs.declared.points.Point3.{Point3}
use Rattle.ngc_file_figures.specs.declared.limits.ToolLimits.{ToolLimits}
use Rattle.ngc_machine_files.specs.declared.tools.Tool.{Tool}
use Rattle.ngc_commands.specs.declared.command.Action.{Action}
use Rattle.ngc_commands.specs.declared.command.Action.TheVariants.{Move}
use Rattle.ngc_commands.specs.declared.command.Command.{Command}
use Rattle.ngc_commands.specs.declared.movement.Way.{Way}
use Rattle.ngc_commands.specs.declared.movement.Way.TheVariants.{Line, Arc}
use Rattle.ngc_commands.specs.declared.movement.Pace.{Pace}
use Rattle.ngc_commands.specs.declared.movement.Pace.TheVariants.{Rapid, Feed}
use Rattle.ngc_commands.specs.declared.reached.Reached.{Reached}
use Rattle.ngc_commands.specs.Reached.{after}
use Rattle.ngc_arc_geometry.specs.Shape.{ArcShape}
use Rattle.ngc_cells.specs.Grids.{AreLowered, AreBelow}
use Rattle.ngc_stock.specs.declared.cylinder.Cylinder.{Cylinder}
use Rattle.ngc_stock.specs.declared.stock.Stock.{Stock}
use Rattle.ngc_stock.specs.Stocks.{kappa, reduction, margin, tolerance, radius, lowest_part, rise, pieces, piece, point_at, highest_tip, lowest_tip, level_of, from_part, IsInStock, IsCutBy, IsInReduced}
use Rattle.ngc_stock.specs.Arcs.{upper_tip, IsCutByArc, IsChord, chord}
use Rattle.ngc_stock.specs.Discs.{discs_in}

-- ---- one disc

-- the heights after the first k pieces of a feed: the cells that the disc covers at some point of a
-- piece are lowered to the highest height of its foot there
abbrev pub ArePiecesCut : Stock → Cylinder → Point3 → Point3 → ℕ → List ℕ → List ℕ → Type 0
ArePiecesCut s t a b zero old new = new ≡ old
ArePiecesCut s t a b (suc k) old new =
    (between : List ℕ) × ArePiecesCut s t a b k old between ×
    AreLowered s.grid (piece a b k) (radius t - kappa s.grid) (level_of s (highest_tip t a b k)) between new

-- the heights after a feed: after its pieces, and then its end alone, down to the foot there. A disc
-- thinner than half a cell's diagonal covers no cell
pub record AreCut (s : Stock) (t : Cylinder) (a b : Point3) (old new : List ℕ) : Type 0 where
  pub thin : radius t < kappa s.grid → new ≡ old
  pub thick : kappa s.grid ≤ radius t → (between : List ℕ) × ArePiecesCut s t a b (pieces a b) old between ×
      AreLowered s.grid (point_at b) (radius t - kappa s.grid) (level_of s (b.z +ℤ t.bottom)) between new

-- the heights after k chords of an arc in the plane of X and Y: each chord is by the arc, and the cells
-- that the disc, smaller by the chord's room, covers at some point of the chord are lowered to its foot
-- at the arc's higher end
abbrev pub AreChordsCut : Stock → Cylinder → ArcShape → ℕ → List ℕ → List ℕ → Type 0
AreChordsCut s t a zero old new = new ≡ old
AreChordsCut s t a (suc k) old new =
    (middle : List ℕ) × (room : ℕ) × (d : Point2) × (e : Point2) × AreChordsCut s t a k old middle ×
    (a.plane ≡ XY) × (kappa s.grid + room ≤ radius t) × IsChord a room d e ×
    AreLowered s.grid (chord a d e) (radius t - (kappa s.grid + room)) (level_of s (upper_tip t a)) middle new

-- after an arc: after some chords of it, and then its end alone
pub record IsArcCut (s : Stock) (t : Cylinder) (a : ArcShape) (old new : List ℕ) : Type 0 where
  pub count : ℕ
  pub middle : List ℕ
  pub chords : AreChordsCut s t a count old middle
  pub end : AreCut s t a.end a.end middle new

-- no cell near a piece of a traverse is higher than the foot's lowest height there and the tolerance, with
-- twice the piece's rise; and none near its end is higher than the foot there and the tolerance
pub record IsClear (s : Stock) (t : Cylinder) (a b : Point3) (heights : List ℕ) : Type 0 where
  pub pieces : reduction s.grid ≤ radius t → (k : ℕ) → k < pieces a b →
      AreBelow s.grid (piece a b k) (radius t - reduction s.grid)
      (level_of s (lowest_tip t a b k +ℤ pos (tolerance s.grid + 2 * rise a b))) heights
  pub end : reduction s.grid ≤ radius t →
      AreBelow s.grid (point_at b) (radius t - reduction s.grid)
      (level_of s ((b.z +ℤ t.bottom) +ℤ pos (tolerance s.grid))) heights

-- ---- all discs of a cutter

-- the heights after a feed: after each disc in order
abbrev pub AreDiscsCut : Stock → List Cylinder → Point3 → Point3 → List ℕ → List ℕ → Type 0
AreDiscsCut s [] a b old new = new ≡ old
AreDiscsCut s (d ∷ ds) a b old new =
    (between : List ℕ) × AreCut s d a b old between × AreDiscsCut s ds a b between new

-- the same of an arc
abbrev pub AreArcsCut : Stock → List Cylinder → ArcShape → List ℕ → List ℕ → Type 0
AreArcsCut s [] a old new = new ≡ old
AreArcsCut s (d ∷ ds) a old new =
    (between : List ℕ) × IsArcCut s d a old between × AreArcsCut s ds a between new

-- no disc may touch material
abbrev pub AreDiscsClear : Stock → List Cylinder → Point3 → Point3 → List ℕ → Type 0
AreDiscsClear s [] a b heights = Unit {0}
AreDiscsClear s (d ∷ ds) a b heights = IsClear s d a b heights × AreDiscsClear s ds a b heights

-- no part of a tool above the cutter may touch material: each is tested as a disc is, with its own radius and
-- foot
abbrev pub AreClear : Stock → Tool → Point3 → Point3 → List ℕ → Type 0
AreClear s t a b heights = (p : ℕ) → 0 < p → p < length t.parts → IsClear s (lowest_part (from_part t p)) a b heights

-- ---- a program

-- a straight traverse that may touch nothing, and a feed, with a tool and its discs; arcs are feeds
abbrev pub IsMotion : Stock → List Cylinder → Tool → Way → Pace → List ℕ → List ℕ → Type 0
IsMotion s ds t (Line a b) Rapid old new = (AreDiscsClear s ds a b old × AreClear s t a b old) × (new ≡ old)
IsMotion s ds t (Line a b) (Feed f) old new = AreDiscsCut s ds a b old new
IsMotion s ds t (Arc a) Rapid old new = new ≡ old
IsMotion s ds t (Arc a) (Feed f) old new = AreArcsCut s ds a old new

-- an action that is silent; without a tool, motions aren't looked at
abbrev pub IsStep : Stock → List Cylinder → Option Tool → Action → List ℕ → List ℕ → Type 0
IsStep s ds None action old new = new ≡ old
IsStep s ds (Some t) (Move m) old new = IsMotion s ds t m.way m.pace old new
IsStep s ds (Some t) _ old new = new ≡ old

-- no traverse of the commands may touch material
abbrev pub IsSilent : Stock → List ToolLimits → Reached → List ℕ → List Command → Type 0
IsSilent s table r heights [] = Unit {0}
IsSilent s table r heights (c ∷ cs) =
    (next : List ℕ) × IsStep s (discs_in table r.tool) r.tool c.action heights next × IsSilent s table (after r c.action) next cs

-- the heights at first
abbrev pub uncut : Stock → List ℕ
uncut s = replicate (s.grid.columns * s.grid.rows) s.height

-- ---- what the silence says

-- some disc cuts q along a line, and along an arc
abbrev pub IsCutByAny : List Cylinder → Point3 → Point3 → Point3 → Type 0
IsCutByAny [] a b q = ⊥
IsCutByAny (d ∷ ds) a b q = IsCutBy d a b q ⊎ IsCutByAny ds a b q

abbrev pub IsArcCutByAny : List Cylinder → ArcShape → Point3 → Type 0
IsArcCutByAny [] a q = ⊥
IsArcCutByAny (d ∷ ds) a q = IsCutByArc d a q ⊎ IsArcCutByAny ds a q

abbrev pub IsCutOn : List Cylinder → Way → Pace → Point3 → Type 0
IsCutOn ds (Line a b) (Feed f) q = IsCutByAny ds a b q
IsCutOn ds (Line a b) Rapid q = ⊥
IsCutOn ds (Arc a) (Feed f) q = IsArcCutByAny ds a q
IsCutOn ds (Arc a) Rapid q = ⊥

-- an action is a feed that cuts q
abbrev pub IsCutIn : List Cylinder → Option Tool → Action → Point3 → Type 0
IsCutIn ds None action q = ⊥
IsCutIn ds (Some t) (Move m) q = IsCutOn ds m.way m.pace q
IsCutIn ds (Some t) _ q = ⊥

-- some of the commands is one
abbrev pub IsCutInAny : List ToolLimits → Reached → List Command → Point3 → Type 0
IsCutInAny table r [] q = ⊥
IsCutInAny table r (c ∷ cs) q = IsCutIn (discs_in table r.tool) r.tool c.action q ⊎ IsCutInAny table (after r c.action) cs q

-- a point of the stock that no feed of the commands has cut
pub record IsLeft (s : Stock) (table : List ToolLimits) (r : Reached) (before : List Command) (q : Point3) : Type 0 where
  pub stock : IsInStock s q
  pub uncut : ¬ (IsCutInAny table r before q)

-- at each point of a traverse's line a disc, smaller by the margin and raised, meets none of these points;
-- at the end it needn't be raised for the pieces of a slope
pub record MeetsNone (s : Stock) (Left : Point3 → Type 0) (t : Cylinder) (a b : Point3) : Type 0 where
  pub line : (n k : ℕ) → 0 < n → k ≤ n → (q : Point3) → Left q →
      ¬ (IsInReduced t a b (margin s.grid) (tolerance s.grid + 2 * rise a b) n k q)
  pub end : (q : Point3) → Left q → ¬ (IsInReduced t a b (margin s.grid) (tolerance s.grid) 1 1 q)

-- so it is for each disc
abbrev pub DiscsMeetNone : Stock → (Point3 → Type 0) → List Cylinder → Point3 → Point3 → Type 0
DiscsMeetNone s Left [] a b = Unit {0}
DiscsMeetNone s Left (d ∷ ds) a b = MeetsNone s Left d a b × DiscsMeetNone s Left ds a b

-- and for each part of the tool above the cutter
abbrev pub MeetNone : Stock → (Point3 → Type 0) → Tool → Point3 → Point3 → Type 0
MeetNone s Left t a b = (p : ℕ) → 0 < p → p < length t.parts → MeetsNone s Left (lowest_part (from_part t p)) a b

abbrev pub IsSafeOn : Stock → (Point3 → Type 0) → List Cylinder → Tool → Way → Pace → Type 0
IsSafeOn s Left ds t (Line a b) Rapid = DiscsMeetNone s Left ds a b × MeetNone s Left t a b
IsSafeOn s Left ds t (Line a b) (Feed f) = Unit {0}
IsSafeOn s Left ds t (Arc arc) pace = Unit {0}

-- if the action is a straight traverse with a tool, it meets none of these points
abbrev pub IsSafe : Stock → (Point3 → Type 0) → List Cylinder → Option Tool → Action → Type 0
IsSafe s Left ds None action = Unit {0}
IsSafe s Left ds (Some t) (Move m) = IsSafeOn s Left ds t m.way m.pace
IsSafe s Left ds (Some t) _ = Unit {0}
