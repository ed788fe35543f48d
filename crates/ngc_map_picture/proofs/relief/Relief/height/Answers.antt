use Rattle.std.proofs.Common.{arith}
use Rattle.ngc_map_picture.proofs.Rows.{low_picture}
use Rattle.ngc_map_picture.proofs.relief.Relief.height.Goals as goal

pub overflow_mul-result : goal.overflow_mul-result
overflow_mul-result c =
    omega (arith, low_picture c.args.self.now.grid.columns c.args.self.now.grid.rows c.args.self.now.side c.requires.grid_of.count c.requires.columns c.requires.most)
