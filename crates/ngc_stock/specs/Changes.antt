-- Tool changes over a stock, below its top. Our own. The premises are those of the silence (Silence).
use Rattle.std.specs.Prelude.{◌≡◌, ℕ, ◌+◌, ◌*◌, nat_lt, ℤ, pos, ◌+ℤ◌, ◌-ℤ◌, int_le, List, [], ◌∷◌, ◌++◌, Option, Some, None, Bool, ◌&&◌, if◌then◌else◌}
use Rattle.ngc_fixed_length.specs.declared.points.Point3.{Point3}
use Rattle.ngc_machine_files.specs.declared.tools.Tool.{Tool}
use Rattle.ngc_commands.specs.declared.command.Action.{Action}
use Rattle.ngc_commands.specs.declared.command.Action.TheVariants.{Mount}
use Rattle.ngc_commands.specs.declared.command.Command.{Command}
use Rattle.ngc_commands.specs.declared.reached.Reached.{Reached}
use Rattle.ngc_commands.specs.Reached.{after, after_all}
use Rattle.ngc_stock.specs.declared.change.Change.{Change}
use Rattle.ngc_stock.specs.declared.stock.Stock.{Stock}
use Rattle.ngc_stock.specs.Stocks.{radius, lowest_part, flat, natural_of, IsInStock, IsCutBy}

-- ---- how deep a tool is

-- along an axis, x is at most r from a row of cells
abbrev pub is_beside : ℤ → ℕ → ℕ → ℕ → ℤ → Bool
is_beside corner half count r x = int_le (corner -ℤ pos r) x && int_le x (corner +ℤ pos (2 * count * half + r))

-- a tool with its nose at p is over the cells, or at most its radius beside them along each axis
abbrev pub is_over : Stock → Tool → Point3 → Bool
is_over s t p =
    is_beside s.grid.corner.x s.grid.half s.grid.columns (radius (lowest_part t)) p.x &&
    is_beside s.grid.corner.y s.grid.half s.grid.rows (radius (lowest_part t)) p.y

-- how far the tip is then below the stock's top; 0 if the tool isn't over it, and without a tool
abbrev pub depth_at : Stock → Option Tool → Point3 → ℕ
depth_at s None p = 0
depth_at s (Some t) p =
    if is_over s t p then natural_of ((s.bottom +ℤ pos s.height) -ℤ (p.z +ℤ t.bottom)) else 0

-- ---- changes

abbrev pub tool_number : Option Tool → ℕ
tool_number None = 0
tool_number (Some t) = t.number

-- a change at which a tool is this deep
abbrev pub change_with : ℕ → ℕ → Point3 → Option Tool → ℕ → Option Change
change_with index line p tool depth =
    if nat_lt 0 depth then Some (record { command = index; line = line; tool = tool_number tool; place = flat p; depth = depth })
    else None

-- from one tool to another at a place: the deeper one counts, of equal ones the one before
abbrev pub change_from : Stock → ℕ → ℕ → Point3 → Option Tool → Option Tool → Option Change
change_from s index line p tool next =
    if nat_lt (depth_at s tool p) (depth_at s next p) then change_with index line p next (depth_at s next p)
    else change_with index line p tool (depth_at s tool p)

abbrev pub change_on : Stock → Reached → ℕ → ℕ → Action → Option Change
change_on s r index line (Mount next) = change_from s index line r.place r.tool next
change_on s r index line _ = None

-- a command with this index, if it is a tool change below the top
abbrev pub change_at : Stock → Reached → ℕ → Command → Option Change
change_at s r index c = change_on s r index c.line c.action

abbrev pub with_change : Option Change → List Change → List Change
with_change None later = later
with_change (Some change) later = change ∷ later

-- those of a program, from a state and an index
abbrev pub changes : Stock → Reached → ℕ → List Command → List Change
changes s r index [] = []
changes s r index (c ∷ cs) = with_change (change_at s r index c) (changes s (after r c.action) (index + 1) cs)

-- ---- what it means that a change isn't reported

-- no point of the stock is in the cutter of a tool with its nose at p
abbrev pub IsFree : Stock → Option Tool → Point3 → Type 0
IsFree s None p = Unit {0}
IsFree s (Some t) p = (q : Point3) → IsInStock s q → ¬ (IsCutBy (lowest_part t) p p q)

-- at a tool change both tools are free
abbrev pub IsFreeChange : Stock → Reached → Action → Type 0
IsFreeChange s r (Mount next) = IsFree s r.tool r.place × IsFree s next r.place
IsFreeChange s r _ = Unit {0}

-- a change that isn't reported: no point of the stock, cut or not, is in the cutters
abbrev pub FreeChange : Type 0
FreeChange = (s : Stock) (r : Reached) (index : ℕ) (c : Command) →
    change_at s r index c ≡ None → IsFreeChange s r c.action

-- a program of which no change is reported: so it is at each of its changes
abbrev pub FreeChanges : Type 0
FreeChanges = (s : Stock) (r : Reached) (before later : List Command) (c : Command) →
    changes s r 0 (before ++ c ∷ later) ≡ [] → IsFreeChange s (after_all r before) c.action
