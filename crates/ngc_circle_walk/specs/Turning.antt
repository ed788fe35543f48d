-- The state of the two wheels, and what contracts see of it. Our own.
use Rattle.std.specs.Prelude.{◌≡◌, ℕ, ◌+◌, ◌*◌, ◌<◌, ◌≤◌}
use Rattle.ngc_circle_walk.specs.declared.spoke.Spoke.{Spoke}
use Rattle.ngc_circle_walk.specs.declared.square.SquareWheel.TheInside.{Inside as SquareInside}
use Rattle.ngc_circle_walk.specs.declared.column.ColumnWheel.TheInside.{Inside as ColumnInside}
use Rattle.ngc_circle_walk.specs.Wheel.{square}

-- the position of the point, the length of its moves, and the greatest squared distance at which
-- the rule may choose the next point
pub record Turning : Type 0 where
  pub place : Spoke
  pub pace : ℕ
  pub rim : ℕ

abbrev pub square_turning : SquareInside → Turning
square_turning w = record { place = w.spoke; pace = w.step; rim = w.limit }

pub record IsSquareWheel (w : SquareInside) : Type 0 where
  pub some_step : 0 < w.step
  pub short_step : w.step ≤ 50000
  pub square : w.square ≡ square w.spoke.x w.spoke.y

-- how far the limit extends along one axis at this coordinate along the other: the whole root of
-- the remaining square
pub record IsColumn (limit at reach : ℕ) : Type 0 where
  pub inside : at * at ≤ limit
  pub reached : at * at + reach * reach ≤ limit
  pub greatest : limit < at * at + (reach + 1) * (reach + 1)

abbrev pub column_turning : ColumnInside → Turning
column_turning w = record { place = w.spoke; pace = w.step; rim = w.limit }

pub record IsColumnWheel (w : ColumnInside) : Type 0 where
  pub some_step : 0 < w.step
  pub short_step : w.step ≤ 50000
  pub column : IsColumn w.limit w.column.at w.column.reach
