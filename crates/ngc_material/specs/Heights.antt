-- The heights of a stock's cells, and which lines are near enough to it. Our own.
use Rattle.std.specs.Prelude.{◌≡◌, ℕ, ◌*◌, ◌<◌, ◌≤◌, List, [], ◌∷◌, length, slice_index, Bool, true, ◌&&◌}
use Rattle.ngc_fixed_length.specs.Signed.{is_within}
use Rattle.ngc_fixed_length.specs.declared.points.Point3.{Point3}
use Rattle.ngc_commands.specs.declared.command.Action.{Action}
use Rattle.ngc_commands.specs.declared.command.Action.TheVariants.{Move}
use Rattle.ngc_commands.specs.declared.command.Command.{Command}
use Rattle.ngc_commands.specs.declared.movement.Way.{Way}
use Rattle.ngc_commands.specs.declared.movement.Way.TheVariants.{Line, Arc}
use Rattle.ngc_cells.specs.Stretches.{REACH}
use Rattle.ngc_cells.specs.Grids.{IsGrid}
use Rattle.ngc_stock.specs.declared.stock.Stock.{Stock}

-- the cells of a stock, and a height for each of them
pub record AreHeights (s : Stock) (heights : List ℕ) : Type 0 where
  pub grid : IsGrid s.grid
  pub count : length heights ≡ s.grid.columns * s.grid.rows

-- no cell is higher than the stock was
abbrev pub AreWithin : Stock → List ℕ → Type 0
AreWithin s heights = (k : ℕ) → k < length heights → slice_index heights k ≤ s.height

-- a point within two metres of the machine's zero, in the plane
abbrev pub is_reached : Point3 → Bool
is_reached p = is_within REACH p.x && is_within REACH p.y

abbrev pub is_way_reached : Way → Bool
is_way_reached (Line a b) = is_reached a && is_reached b
is_way_reached (Arc arc) = is_reached arc.end

-- a motion ends within two metres, and a straight one also begins there
abbrev pub is_action_reached : Action → Bool
is_action_reached (Move m) = is_way_reached m.way
is_action_reached _ = true

abbrev pub are_reached : List Command → Bool
are_reached [] = true
are_reached (c ∷ cs) = is_action_reached c.action && are_reached cs
