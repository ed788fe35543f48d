use Rattle.std.proofs.Common.{◌≡◌, ◌*◌, length}
use Rattle.ngc_material.specs.Chords.{AreSomeCut}
use Rattle.ngc_material.proofs.sweep.Sweep.cut_piece.Given as goal

-- the heights after the chords so far
abbrev pub invariant-loop-index : goal.invariant-loop-index
invariant-loop-index l = record {
  count : length l.heights ≡ l.self.stock.grid.columns * l.self.stock.grid.rows;
  cut : AreSomeCut l.self.stock l.self.cylinder l.self.arc l.fn.heights l.heights;
}
