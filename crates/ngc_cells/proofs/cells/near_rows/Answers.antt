use Rattle.std.proofs.Common.{arith}
use Rattle.ngc_cells.proofs.Kept.{kept64}
use Rattle.ngc_cells.proofs.Rows.{far_row}
use Rattle.ngc_cells.specs.Grids.{middle_of}
use Rattle.ngc_cells.proofs.cells.near_rows.Goals as goal

pub returns-clause-far : goal.returns-clause-far
returns-clause-far c =
    let g = c.args.grid.now in
    let s = c.args.stretch.now in
    let cy = kept64 g.corner.y (omega (arith, c.requires.grid.y)) in
    let are = rw cy at c.indices_in.ensures.are in
    λ row less out x. far_row s c.args.radius x (middle_of g.corner.y g.half row) c.requires.stretch.part
    (c.reach_span-span.ensures (middle_of g.corner.y g.half row) (λ i. out ((are row less).1 i)))
