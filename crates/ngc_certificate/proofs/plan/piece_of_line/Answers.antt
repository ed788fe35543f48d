use Rattle.std.proofs.Common.{ℕ, ◌+◌, ◌*◌, ◌/◌, ◌∙◌, ap, arith}
use Rattle.ngc_certificate.specs.Made.{line_piece}
use Rattle.ngc_certificate.proofs.Division.{count_of}
use Rattle.ngc_certificate.proofs.PlanLaws.{line_piece_is}
use Rattle.ngc_certificate.proofs.plan.piece_of_line.Goals as goal

pub overflow_cast-k : goal.overflow_cast-k
overflow_cast-k c =
    let number = count_of c.args.step c.args.start.now c.args.end.now c.args.count 0 c.args.count in
    omega (arith, c.requires.inside, number, c.ranges.count.fits)

pub line_piece_at-requires-clause-k : goal.line_piece_at-requires-clause-k
line_piece_at-requires-clause-k c =
    let number = count_of c.args.step c.args.start.now c.args.end.now c.args.count 0 c.args.count in
    omega (arith, c.requires.inside, number, c.ranges.count.fits)

pub returns : goal.returns
returns c =
    let number = count_of c.args.step c.args.start.now c.args.end.now c.args.count 0 c.args.count in
    line_piece_is c.args.step c.args.start.now c.args.end.now c.args.count c.args.k c.line_piece_at.result (omega (arith, c.requires.inside, number))
    (c.line_piece_at.ensures
    ∙ ap (λ (n : ℕ). line_piece c.args.step c.args.start.now c.args.end.now (65536 * c.args.k / n) (65536 * (c.args.k + 1) / n)) c.from.ensures)
