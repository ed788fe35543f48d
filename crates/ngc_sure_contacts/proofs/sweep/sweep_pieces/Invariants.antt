use Rattle.std.proofs.Common.{◌≡◌, ◌*◌, length}
use Rattle.ngc_sure_contacts.proofs.Sinking.{ArePiecesSunk}
use Rattle.ngc_sure_contacts.proofs.sweep.sweep_pieces.Given as goal

abbrev pub invariant-loop-part : goal.invariant-loop-part
invariant-loop-part l = record {
  count : length l.heights ≡ l.stock.grid.columns * l.stock.grid.rows;
  sunk : ArePiecesSunk l.stock l.cylinder l.line.start l.line.end l.part l.fn.heights l.heights;
}
