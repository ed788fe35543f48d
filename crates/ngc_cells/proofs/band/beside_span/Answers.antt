use Rattle.std.proofs.Common.{arith}
use Rattle.ngc_cells.proofs.Kept.{kept64}
use Rattle.ngc_cells.proofs.band.beside_span.Goals as goal

pub returns-then-stretch : goal.returns-then-stretch
returns-then-stretch c =
    let y = kept64 c.args.y (omega (arith, c.requires.y)) in
    λ x. rw y at (c.upright_span.ensures x)

pub returns-then-stretch-2 : goal.returns-then-stretch-2
returns-then-stretch-2 c =
    let y = kept64 c.args.y (omega (arith, c.requires.y)) in
    λ x. rw y at (c.level_span.ensures x)

pub returns-else-stretch-2 : goal.returns-else-stretch-2
returns-else-stretch-2 c =
    let y = kept64 c.args.y (omega (arith, c.requires.y)) in
    λ x.
    let a = rw y at (c.across_span.ensures x) in
    let b = rw y at (c.along_span.ensures x) in
    let m = c.meet.ensures x in (
      (λ i. let p = m.0 i in (b.0 p.1, a.0 p.0)),
      (λ p. m.1 (a.1 p.1, b.1 p.0)),
    )
