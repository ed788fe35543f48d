-- A map of heights, one for each cell of a stock, under which no motion has swept the material. Our own.
use Rattle.std.specs.Prelude.{◌≡◌, ℕ, ◌+◌, ◌*◌, ◌<◌, ◌≤◌, pos, ◌+ℤ◌, ◌≤ℤ◌, ◌<ℤ◌, List, length, slice_index, take}
use Rattle.ngc_fixed_length.specs.declared.points.Point3.{Point3}
use Rattle.ngc_commands.specs.declared.command.Command.{Command}
use Rattle.ngc_commands.specs.declared.reached.Reached.{Reached}
use Rattle.ngc_commands.specs.Reached.{after_all}
use Rattle.ngc_cells.specs.declared.grid.Grid.{Grid}
use Rattle.ngc_cells.specs.declared.stretch.Stretch.{Stretch}
use Rattle.ngc_cells.specs.Stretches.{IsNear}
use Rattle.ngc_cells.specs.Grids.{centre}
use Rattle.ngc_stock.specs.declared.stock.Stock.{Stock}
use Rattle.ngc_stock.specs.Stocks.{IsInCell}
use Rattle.ngc_sure_contacts.specs.Contacts.{LEAST_DEPTH}
use Rattle.ngc_sure_contacts.specs.Swept.{IsSweptInAny}
use Rattle.ngc_sure_contacts.specs.declared.contact.Contact.{Contact}

-- q is a point of the stock, and lower than the height of a cell that it is in
pub record IsUnder (s : Stock) (heights : List ℕ) (q : Point3) : Type 0 where
  pub cell : ℕ
  pub within : cell < s.grid.columns * s.grid.rows
  pub in_cell : IsInCell s.grid cell q
  pub bottom : s.bottom ≤ℤ q.z
  pub top : q.z <ℤ (s.bottom +ℤ pos s.height)
  pub below : q.z <ℤ (s.bottom +ℤ pos (slice_index heights cell))

-- no cell is raised, and those whose centres are near are lowered to the level at least
pub record AreSunk (g : Grid) (s : Stretch) (r level : ℕ) (old new : List ℕ) : Type 0 where
  pub count : length new ≡ length old
  pub near : (k : ℕ) → k < length old → IsNear s r (centre g k) → slice_index new k ≤ level
  pub kept : (k : ℕ) → k < length old → slice_index new k ≤ slice_index old k

-- no cell is raised, and what is under the new heights isn't swept
pub record AreSwept (s : Stock) (Swept : Point3 → Type 0) (old new : List ℕ) : Type 0 where
  pub count : length new ≡ length old
  pub kept : (k : ℕ) → k < length old → slice_index new k ≤ slice_index old k
  pub each : (q : Point3) → IsUnder s new q → ¬ (Swept q)

-- a contact names the centre of a cell that is near a stretch, and is higher than a tip by the contact's depth
pub record IsSeen (s : Stock) (heights : List ℕ) (t : Stretch) (r tip : ℕ) (c : Contact) : Type 0 where
  pub cell : ℕ
  pub within : cell < s.grid.columns * s.grid.rows
  pub near : IsNear t r (centre s.grid cell)
  pub place : c.place ≡ centre s.grid cell
  pub least : LEAST_DEPTH ≤ c.depth
  pub depth : slice_index heights cell ≡ tip + c.depth

-- the state before the command at a position: the mounted tool, and heights under which no command has swept
pub record IsBefore (s : Stock) (start : Reached) (commands : List Command) (position : ℕ) (reached : Reached) (heights : List ℕ) : Type 0 where
  pub state : reached ≡ after_all start (take position commands)
  pub unswept : (q : Point3) → IsUnder s heights q → ¬ (IsSweptInAny start (take position commands) q)
