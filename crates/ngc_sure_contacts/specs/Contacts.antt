-- Where a traverse surely goes through material. Our own. The premises that no proof covers: the material
-- doesn't move, the block is where the machine file says, the tool table is true, and a motion removes nothing
-- that its tool doesn't sweep. Positions are those of ideal lines and arcs.
use Rattle.std.specs.Prelude.{◌≡◌, ◌⊎◌, ℕ, ◌*◌, ◌<◌, ◌≤◌, ◌==◌, nat_lt, ℤ, pos, ◌+ℤ◌, ◌*ℤ◌, ◌≤ℤ◌, ◌<ℤ◌, List, [], ◌∷◌, take, slice_get, Option, Some, None, IfSome, if◌then◌else◌}
use Rattle.ngc_fixed_length.specs.declared.points.Point3.{Point3}
use Rattle.ngc_file_figures.specs.declared.limits.ToolLimits.{ToolLimits}
use Rattle.ngc_machine_files.specs.declared.tools.Tool.{Tool}
use Rattle.ngc_commands.specs.declared.command.Action.{Action}
use Rattle.ngc_commands.specs.declared.command.Action.TheVariants.{Move}
use Rattle.ngc_commands.specs.declared.command.Command.{Command}
use Rattle.ngc_commands.specs.declared.movement.Pace.{Pace}
use Rattle.ngc_commands.specs.declared.movement.Pace.TheVariants.{Rapid, Feed}
use Rattle.ngc_commands.specs.declared.movement.Way.{Way}
use Rattle.ngc_commands.specs.declared.movement.Way.TheVariants.{Line, Arc}
use Rattle.ngc_commands.specs.declared.reached.Reached.{Reached}
use Rattle.ngc_commands.specs.Reached.{after_all}
use Rattle.ngc_cells.specs.declared.stretch.Spot.{Spot}
use Rattle.ngc_cells.specs.Stretches.{IsAround}
use Rattle.ngc_stock.specs.declared.cylinder.Cylinder.{Cylinder}
use Rattle.ngc_stock.specs.declared.stock.Stock.{Stock}
use Rattle.ngc_stock.specs.Discs.{discs_of}
use Rattle.ngc_stock.specs.Stocks.{flat, radius, tip}
use Rattle.ngc_material.specs.declared.walk.Found.{Found}
use Rattle.ngc_sure_contacts.specs.Swept.{body, IsUnswept}
use Rattle.ngc_sure_contacts.specs.declared.contact.Contact.{Contact}
use Rattle.ngc_sure_contacts.specs.declared.contact.FoundTraverse.{FoundTraverse}

-- a contact is at least 0.01 mm deep
abbrev pub LEAST_DEPTH : ℕ
LEAST_DEPTH = 10000

abbrev pub at_place : Spot → ℤ → Point3
at_place p z = record { x = p.x; y = p.y; z = z }

-- at k/n of the line from a to b a cylinder is over a place where the material, from the stock's bottom up to a
-- height, is all there; its foot is below that height by the depth at least
pub record IsThrough (s : Stock) (There : Point3 → Type 0) (t : Cylinder) (a b : Point3) (c : Contact) : Type 0 where
  pub n : ℕ
  pub k : ℕ
  pub height : ℤ
  pub some : 0 < n
  pub within : k ≤ n
  pub over : IsAround n k (flat a) (flat b) (radius t) c.place
  pub whole : (z : ℤ) → s.bottom ≤ℤ z → z <ℤ height → There (at_place c.place z)
  pub least : LEAST_DEPTH ≤ c.depth
  pub high : (s.bottom +ℤ pos c.depth) ≤ℤ height
  pub deep : (tip t n k a b +ℤ pos (n * c.depth)) ≤ℤ (pos n *ℤ height)

-- one of these cylinders is
abbrev pub IsThroughByAny : Stock → (Point3 → Type 0) → List Cylinder → Point3 → Point3 → Contact → Type 0
IsThroughByAny s There [] a b c = ⊥
IsThroughByAny s There (t ∷ ts) a b c = IsThrough s There t a b c ⊎ IsThroughByAny s There ts a b c

-- cylinders that are inside a part of a tool: the discs of its cutter, which is part 0, or the part itself
abbrev pub one_of : Option Cylinder → List Cylinder
one_of None = []
one_of (Some t) = t ∷ []

abbrev pub inside : List ToolLimits → Tool → ℕ → List Cylinder
inside table t part = if part == 0 then discs_of table t else one_of (slice_get (body t) part)

-- an action is a straight traverse that goes through material with this part of the tool
abbrev pub IsThroughOn : Stock → (Point3 → Type 0) → List Cylinder → Way → Pace → Contact → Type 0
IsThroughOn s There ts (Line a b) Rapid c = IsThroughByAny s There ts a b c
IsThroughOn s There ts (Line a b) (Feed f) c = ⊥
IsThroughOn s There ts (Arc arc) pace c = ⊥

abbrev pub IsThroughIn : Stock → (Point3 → Type 0) → List ToolLimits → Option Tool → Action → ℕ → Contact → Type 0
IsThroughIn s There table None action part c = ⊥
IsThroughIn s There table (Some t) (Move m) part c = IsThroughOn s There (inside table t part) m.way m.pace c
IsThroughIn s There table (Some t) _ part c = ⊥

-- the command of a traverse that was found goes through what is there, with the mounted tool
pub record IsContactWith (s : Stock) (There : Point3 → Type 0) (table : List ToolLimits) (tool : Option Tool) (commands : List Command) (f : Found) (c : Contact) : Type 0 where
  pub command : Command
  pub at : slice_get commands f.command ≡ Some command
  pub through : IsThroughIn s There table tool command.action f.part c

-- it goes through material that no motion before it has swept
abbrev pub IsContact : Stock → List ToolLimits → Reached → List Command → Found → Contact → Type 0
IsContact s table r commands f c =
    IsContactWith s (IsUnswept s r (take f.command commands)) table (after_all r (take f.command commands)).tool commands f c

-- each traverse that was found, with its contact if it surely goes through material
abbrev pub AreContacts : Stock → List ToolLimits → Reached → List Command → List Found → List FoundTraverse → Type 0
AreContacts s table r commands [] [] = Unit {0}
AreContacts s table r commands (f ∷ fs) (t ∷ ts) =
    (t.found ≡ f) × IfSome t.contact (IsContact s table r commands f) × AreContacts s table r commands fs ts
AreContacts s table r commands [] (t ∷ ts) = ⊥
AreContacts s table r commands (f ∷ fs) [] = ⊥

-- the deeper of two contacts; of equal ones the first
abbrev pub deeper : Option Contact → Option Contact → Option Contact
deeper None other = other
deeper (Some one) None = Some one
deeper (Some one) (Some other) = if nat_lt one.depth other.depth then Some other else Some one
