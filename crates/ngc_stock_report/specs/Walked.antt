-- What the traverses and the feeds of a program may touch of a machine's material, and how deep its feeds
-- cut. `table` says what shapes the cutters of the tools have. Our own.
use Rattle.std.specs.Prelude.{◌≡◌, ◌⊎◌, ℕ, List, [], Option, Some, None, IsTrue}
use Rattle.ngc_file_figures.specs.declared.limits.ToolLimits.{ToolLimits}
use Rattle.ngc_machine_files.specs.Machine.{MachineFile}
use Rattle.ngc_commands.specs.declared.command.Command.{Command}
use Rattle.ngc_commands.specs.Reached.{at_start}
use Rattle.ngc_cells.specs.Grids.{IsGrid}
use Rattle.ngc_stock.specs.declared.cut.Cut.{Cut}
use Rattle.ngc_stock.specs.declared.stock.Stock.{Stock}
use Rattle.ngc_stock.specs.Walk.{uncut}
use Rattle.ngc_material.specs.declared.walk.Found.{Found}
use Rattle.ngc_material.specs.Cuts.{AreCuts}
use Rattle.ngc_material.specs.Heights.{AreHeights, are_reached}
use Rattle.ngc_material.specs.Remains.{AreLeft}
use Rattle.ngc_material.specs.Walks.{AreFound, with_feeds}
use Rattle.ngc_sure_contacts.specs.Contacts.{AreContacts}
use Rattle.ngc_sure_contacts.specs.declared.contact.FoundTraverse.{FoundTraverse}
use Rattle.ngc_stock_report.specs.Placed.{IsPlaced}

-- the material in the machine, the straight traverses and the feeds that may touch it, the deepest feed of each
-- tool, the height of each cell at the end, and the traverses once more, with where they surely go through
pub record WalkData : Type 0 where
  pub stock : Stock
  pub found : List Found
  pub feeds : List Found
  pub cuts : List Cut
  pub heights : List ℕ
  pub traverses : List FoundTraverse

-- some of the cells, or the end of a motion, is more than two metres from the machine's zero; or the cells are
-- more than 4,000,000, which `--cells` doesn't allow
abbrev pub IsFar : Stock → List Command → Type 0
IsFar s commands = ¬ (IsGrid s.grid) ⊎ ¬ (IsTrue (are_reached commands))

pub record IsFarFrom (most : ℕ) (m : MachineFile) (commands : List Command) : Type 0 where
  pub stock : Stock
  pub placed : IsPlaced most m stock
  pub far : IsFar stock commands

-- what a walk over the commands finds in the uncut material, in at most `most` cells
pub record IsWalk (most : ℕ) (table : List ToolLimits) (m : MachineFile) (commands : List Command) (w : WalkData) : Type 0 where
  pub placed : IsPlaced most m w.stock
  pub grid : IsGrid w.stock.grid
  pub near : IsTrue (are_reached commands)
  pub found : AreFound w.stock table (at_start m) (uncut w.stock) 0 commands w.found w.feeds
  pub cuts : AreCuts w.stock table (at_start m) (uncut w.stock) 0 commands w.found [] w.cuts
  pub left : AreLeft w.stock table (at_start m) (uncut w.stock) (with_feeds 0 commands w.found) w.heights
  pub cells : AreHeights w.stock w.heights
  pub sure : AreContacts w.stock table (at_start m) commands w.found w.traverses

-- no walk without a block of material, and none where it or a motion is far
abbrev pub IsWalked : ℕ → List ToolLimits → MachineFile → List Command → Option WalkData → Type 0
IsWalked most table m commands None = (m.stock ≡ None) ⊎ IsFarFrom most m commands
IsWalked most table m commands (Some w) = IsWalk most table m commands w
