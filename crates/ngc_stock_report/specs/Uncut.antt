-- Whether any feed of a program may cut the block of material. Our own.
use Rattle.std.specs.Prelude.{ℕ, ℤ, ◌+ℤ◌, List, [], ◌∷◌, ◌++◌, codes, IsTrue, Option, Some, None, is_none, Bool, true, false, not, ◌&&◌, ◌||◌, if◌then◌else◌}
use Rattle.ngc_cells.specs.declared.grid.Grid.{Grid}
use Rattle.ngc_commands.specs.Reached.{after, after_all, at_start}
use Rattle.ngc_commands.specs.declared.command.Action.{Action}
use Rattle.ngc_commands.specs.declared.command.Action.TheVariants.{Move}
use Rattle.ngc_commands.specs.declared.command.Command.{Command}
use Rattle.ngc_commands.specs.declared.movement.Pace.{Pace}
use Rattle.ngc_commands.specs.declared.movement.Pace.TheVariants.{Rapid, Feed}
use Rattle.ngc_commands.specs.declared.reached.Reached.{Reached}
use Rattle.ngc_machine_files.specs.Machine.{MachineFile}
use Rattle.ngc_machine_files.specs.declared.machine.StockBox.{StockBox}
use Rattle.ngc_machine_files.specs.declared.tools.Tool.{Tool}
use Rattle.ngc_report.specs.declared.form.Form.{Form}
use Rattle.ngc_report.specs.declared.form.Form.TheVariants.{Words, Json}
use Rattle.ngc_stock.specs.Below.{all_below, IsAbove}
use Rattle.ngc_stock.specs.declared.stock.Stock.{Stock}
use Rattle.ngc_stock_report.specs.Placed.{origin_at}

-- a feed, straight or along an arc
abbrev pub is_fed : Pace → Bool
is_fed Rapid = false
is_fed (Feed f) = true

abbrev pub is_feed : Action → Bool
is_feed (Move m) = is_fed m.pace
is_feed _ = false

-- some command is one
abbrev pub has_feed : List Command → Bool
has_feed [] = false
has_feed (c ∷ cs) = is_feed c.action || has_feed cs

-- no feed without a tool: what that cuts isn't known
abbrev pub is_known : Option Tool → Action → Bool
is_known None action = not (is_feed action)
is_known (Some t) action = true

-- so is each command, from a state
abbrev pub are_known : Reached → List Command → Bool
are_known r [] = true
are_known r (c ∷ cs) = is_known r.tool c.action && are_known (after r c.action) cs

-- the height of the block's top, in the machine
abbrev pub top_of : MachineFile → StockBox → ℤ
top_of m b = (origin_at m b.system).z +ℤ b.high.z

-- the block's cells, with their bottom at its top: a feed is below this bottom if its tip goes below the top of the
-- block
abbrev pub from_top : MachineFile → StockBox → Grid → Stock
from_top m b g = record { grid = g; bottom = top_of m b; height = 0 }

-- on no feed with a tool, from a state, the tip goes below the block's top while the tool is over the block's cells,
-- or at most its radius beside them
abbrev pub is_above : MachineFile → StockBox → Grid → Reached → List Command → Bool
is_above m b g r commands = is_none (all_below (from_top m b g) r 0 commands None)

-- there are feeds, each has a tool, and so are all of them
abbrev pub is_uncut : MachineFile → StockBox → Grid → List Command → Bool
is_uncut m b g commands =
    has_feed commands && are_known (at_start m) commands && is_above m b g (at_start m) commands

-- ---- what is said

unfoldable pub uncut_words : List ℕ
uncut_words = codes "warning: no feed cuts the block of material.\n"

unfoldable pub uncut_fact : List ℕ
uncut_fact = codes ",\n{\"fact\":\"warning\",\"text\":\"no feed cuts the block of material\"}"

abbrev pub uncut_line : Form → List ℕ
uncut_line Words = uncut_words
uncut_line Json = uncut_fact

abbrev pub block_text : Form → MachineFile → StockBox → Grid → List Command → List ℕ
block_text form m b g commands = if is_uncut m b g commands then uncut_line form else []

-- without a block nothing
abbrev pub uncut_text : Form → MachineFile → Option StockBox → Grid → List Command → List ℕ
uncut_text form m None g commands = []
uncut_text form m (Some b) g commands = block_text form m b g commands

-- ---- what it means

-- if the warning is there, no straight feed of the program cuts a point that is below the block's top in one of its
-- cells
abbrev pub UncutBlock : Type 0
UncutBlock = (m : MachineFile) (b : StockBox) (g : Grid) (before later : List Command) (c : Command) →
    IsTrue (is_uncut m b g (before ++ c ∷ later)) → IsAbove (from_top m b g) (after_all (at_start m) before).tool c.action
