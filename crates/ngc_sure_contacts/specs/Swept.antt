-- What tools sweep in the motions of a program: the points that they may reach. Our own. Whatever the shape
-- of its cutter, a tool is inside the cylinders of its parts.
use Rattle.std.specs.Prelude.{◌≡◌, ◌⊎◌, ℕ, ◌*◌, ◌<◌, ℤ, pos, ◌+ℤ◌, ◌≤ℤ◌, unsigned_abs, List, [], ◌∷◌, Option, Some, None, true}
use Rattle.std.specs.Int.{int_min}
use Rattle.ngc_fixed_length.specs.Limits.{LENGTH_LIMIT}
use Rattle.ngc_fixed_length.specs.Places.{shifted, dot}
use Rattle.ngc_fixed_length.specs.declared.modes.Plane.TheVariants.{XY}
use Rattle.ngc_fixed_length.specs.declared.points.Point2.{Point2}
use Rattle.ngc_fixed_length.specs.declared.points.Point3.{Point3}
use Rattle.ngc_arc_geometry.specs.Shape.{ArcShape}
use Rattle.ngc_arc_geometry.specs.Radii.{inner_radius, outer_radius}
use Rattle.ngc_arc_geometry.specs.Sector.{in_sector}
use Rattle.ngc_machine_files.specs.declared.parts.Part.{Part}
use Rattle.ngc_machine_files.specs.declared.tools.Tool.{Tool}
use Rattle.ngc_commands.specs.declared.command.Action.{Action}
use Rattle.ngc_commands.specs.declared.command.Action.TheVariants.{Move}
use Rattle.ngc_commands.specs.declared.command.Command.{Command}
use Rattle.ngc_commands.specs.declared.movement.Way.{Way}
use Rattle.ngc_commands.specs.declared.movement.Way.TheVariants.{Line, Arc}
use Rattle.ngc_commands.specs.declared.reached.Reached.{Reached}
use Rattle.ngc_commands.specs.Reached.{after}
use Rattle.ngc_stock.specs.declared.cylinder.Cylinder.{Cylinder}
use Rattle.ngc_stock.specs.declared.stock.Stock.{Stock}
use Rattle.ngc_stock.specs.Arcs.{IsBeside}
use Rattle.ngc_stock.specs.Cuts.{lower_tip}
use Rattle.ngc_stock.specs.Stocks.{radius, IsCutBy, IsInStock}

-- ---- a tool

-- the foot of the part above a part; no foot is over the limit
abbrev pub foot_over : ℤ → ℕ → ℤ
foot_over foot length = int_min (pos LENGTH_LIMIT) (foot +ℤ pos length)

-- parts from a foot up, each as a cylinder
abbrev pub stacked : ℤ → List Part → List Cylinder
stacked foot [] = []
stacked foot (p ∷ ps) =
    record { bottom = foot; radius = unsigned_abs p.radius } ∷ stacked (foot_over foot (unsigned_abs p.length)) ps

-- all parts of a tool
abbrev pub body : Tool → List Cylinder
body t = stacked t.bottom t.parts

-- without a tool there are none
abbrev pub body_in : Option Tool → List Cylinder
body_in None = []
body_in (Some t) = body t

-- ---- a motion

-- the n-th part of the vector d leads from the centre to a point in the arc's sector, between the circles
-- through its start and through its end
pub record IsOfArc (a : ArcShape) (n : ℕ) (d : Point2) : Type 0 where
  pub sector : in_sector a (shifted a.centre d) ≡ true
  pub inner : pos ((n * inner_radius a) * (n * inner_radius a)) ≤ℤ dot d d
  pub outer : dot d d ≤ℤ pos ((n * outer_radius a) * (n * outer_radius a))

-- at such a point a cylinder is over q, with its foot at most as high as q at the arc's lower end
pub record IsSweptAlong (t : Cylinder) (a : ArcShape) (q : Point3) : Type 0 where
  pub n : ℕ
  pub d : Point2
  pub some : 0 < n
  pub of_arc : IsOfArc a n d
  pub around : IsBeside a n d (radius t) q
  pub low : lower_tip t a.start a.end ≤ℤ q.z

-- along an arc in another plane than that of X and Y it may be over any point
abbrev pub IsSweptByArc : Cylinder → ArcShape → Point3 → Type 0
IsSweptByArc t a q = IsSweptAlong t a q ⊎ ¬ (a.plane ≡ XY)

abbrev pub IsSweptOn : Cylinder → Way → Point3 → Type 0
IsSweptOn t (Line a b) q = IsCutBy t a b q
IsSweptOn t (Arc a) q = IsSweptByArc t a q

-- some cylinder of a tool is over q
abbrev pub IsSweptByAny : List Cylinder → Way → Point3 → Type 0
IsSweptByAny [] way q = ⊥
IsSweptByAny (t ∷ ts) way q = IsSweptOn t way q ⊎ IsSweptByAny ts way q

-- ---- a program

-- an action is a motion that sweeps q, a feed or a traverse; without a tool nothing is swept
abbrev pub IsSweptIn : Option Tool → Action → Point3 → Type 0
IsSweptIn tool (Move m) q = IsSweptByAny (body_in tool) m.way q
IsSweptIn tool _ q = ⊥

-- some of the commands is one
abbrev pub IsSweptInAny : Reached → List Command → Point3 → Type 0
IsSweptInAny r [] q = ⊥
IsSweptInAny r (c ∷ cs) q = IsSweptIn r.tool c.action q ⊎ IsSweptInAny (after r c.action) cs q

-- a point of the stock that no motion of the commands sweeps
pub record IsUnswept (s : Stock) (r : Reached) (before : List Command) (q : Point3) : Type 0 where
  pub stock : IsInStock s q
  pub unswept : ¬ (IsSweptInAny r before q)
