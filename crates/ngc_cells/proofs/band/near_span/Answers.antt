use Rattle.std.proofs.Common.{arith}
use Rattle.ngc_cells.proofs.Kept.{kept64}
use Rattle.ngc_cells.proofs.Rows.{near_row}
use Rattle.ngc_cells.proofs.band.near_span.Goals as goal

pub returns : goal.returns
returns c =
    let y = kept64 c.args.y (omega (arith, c.requires.y)) in
    near_row c.args.stretch.now c.args.radius c.args.width c.args.y c.around_span-first.result c.around_span-last.result c.beside_span.result c.hull.result c.hull-2.result
    (omega (arith, c.requires.stretch.part)) c.requires.width
    (λ x. rw y at (c.around_span-first.ensures x)) (λ x. rw y at (c.around_span-last.ensures x)) (λ x. rw y at (c.beside_span.ensures x))
    c.hull.ensures.holds c.hull.ensures.between c.hull-2.ensures.holds c.hull-2.ensures.between
