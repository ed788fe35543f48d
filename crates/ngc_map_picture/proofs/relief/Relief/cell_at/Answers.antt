use Rattle.std.proofs.Common.{arith}
use Rattle.ngc_map_picture.proofs.Rows.{column_of, placed}
use Rattle.ngc_map_picture.proofs.relief.Relief.cell_at.Goals as goal

pub overflow_sub-row : goal.overflow_sub-row
overflow_sub-row c = c.requires.relief.rows

pub nonzero_div-row : goal.nonzero_div-row
nonzero_div-row c = c.requires.relief.least

pub overflow_sub-row-2 : goal.overflow_sub-row-2
overflow_sub-row-2 c =
    let r = c.args.self.now in
    omega (arith, column_of r.grid.rows r.side c.args.y c.requires.relief.least c.requires.y)

pub nonzero_div-column : goal.nonzero_div-column
nonzero_div-column c = c.requires.relief.least

pub overflow_mul-result : goal.overflow_mul-result
overflow_mul-result c =
    let r = c.args.self.now in
    omega (
      arith,
      placed r.grid.columns r.grid.rows r.side c.args.x c.args.y c.requires.relief.least c.requires.x c.requires.y,
      c.requires.relief.grid_of.count,
    )

pub overflow_add-result : goal.overflow_add-result
overflow_add-result c =
    let r = c.args.self.now in
    omega (
      arith,
      placed r.grid.columns r.grid.rows r.side c.args.x c.args.y c.requires.relief.least c.requires.x c.requires.y,
      c.requires.relief.grid_of.count,
    )

pub returns-clause-within : goal.returns-clause-within
returns-clause-within c =
    let r = c.args.self.now in
    placed r.grid.columns r.grid.rows r.side c.args.x c.args.y c.requires.relief.least c.requires.x c.requires.y
