use Rattle.std.proofs.Common.{arith}
use Rattle.ngc_map_picture.proofs.relief.Relief.pixel.Goals as goal

pub offset_bounds-self-cell : goal.offset_bounds-self-cell
offset_bounds-self-cell c = omega (arith, c.cell_at-cell.ensures.within, c.requires.relief.grid_of.count)

pub bounds-self-cell : goal.bounds-self-cell
bounds-self-cell c = rw c.requires.relief.heights_of c.cell_at-cell.ensures.within

pub bounds-self-cell-2 : goal.bounds-self-cell-2
bounds-self-cell-2 c = rw c.requires.relief.touched_of c.cell_at-cell.ensures.within
