use Rattle.std.proofs.Common.{◌≡◌, ◌*◌, length, take}
use Rattle.ngc_stock_report.specs.Levels.{AreLevels}
use Rattle.ngc_stock_report.proofs.marks.mark_all.Given as goal

-- the marks of the motions so far
abbrev pub invariant-loop-one : goal.invariant-loop-one
invariant-loop-one l = record {
  count : length l.levels ≡ l.grid.columns * l.grid.rows;
  marks : AreLevels l.grid (take l.one-index l.found) l.fn.levels l.levels;
}
