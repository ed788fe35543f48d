use Rattle.std.proofs.Common.{◌≡◌, ◌*◌, length}
use Rattle.ngc_stock.specs.Walk.{ArePiecesCut}
use Rattle.ngc_material.proofs.cutting.cut.Given as goal

abbrev pub invariant-loop-part : goal.invariant-loop-part
invariant-loop-part l = record {
  count : length l.heights ≡ l.stock.grid.columns * l.stock.grid.rows;
  cut : ArePiecesCut l.stock l.cylinder l.line.start l.line.end l.part l.fn.heights l.heights;
}
