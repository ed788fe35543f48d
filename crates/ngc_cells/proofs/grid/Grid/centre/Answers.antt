use Rattle.ngc_cells.proofs.Grids.{column_fits, row_fits}
use Rattle.ngc_cells.proofs.grid.Grid.centre.Goals as goal

pub middle_of-requires-clause-index : goal.middle_of-requires-clause-index
middle_of-requires-clause-index c =
    let g = c.args.self.now in
    column_fits g.corner.x g.half g.columns g.rows c.args.cell c.requires.grid.x c.requires.grid.end_x c.requires.cell

pub middle_of-requires-2-clause-index : goal.middle_of-requires-2-clause-index
middle_of-requires-2-clause-index c =
    let g = c.args.self.now in
    row_fits g.corner.y g.half g.columns g.rows c.args.cell c.requires.grid.y c.requires.grid.end_y c.requires.cell
