use Rattle.std.proofs.Common.{ap, sym, ◌∙◌}
use Rattle.ngc_fixed_length.specs.declared.points.GridBox.{GridBox}
use Rattle.ngc_place.specs.Inside.{low_corner, high_corner}
use Rattle.ngc_place.proofs.round.arc_box.Goals as goal

pub moved_box-requires-clause-step : goal.moved_box-requires-clause-step
moved_box-requires-clause-step c = c.requires.step

pub moved_box-requires-clause-shifts : goal.moved_box-requires-clause-shifts
moved_box-requires-clause-shifts c = c.requires.shifts

pub swept_box-requires : goal.swept_box-requires
swept_box-requires c = c.requires.step

pub returns-then-moves-clause-low : goal.returns-then-moves-clause-low
returns-then-moves-clause-low c =
    c.moved_box.ensures.low ∙ ap (λ b. low_corner c.args.step c.args.shifts.now.low b c.args.arc.now) (sym c.if-moves.true)

pub returns-then-moves-clause-high : goal.returns-then-moves-clause-high
returns-then-moves-clause-high c =
    c.moved_box.ensures.high ∙ ap (λ b. high_corner c.args.step c.args.shifts.now.high b c.args.arc.now) (sym c.if-moves.true)

pub returns-else-moves-clause-low : goal.returns-else-moves-clause-low
unfolding low_corner
returns-else-moves-clause-low c =
    ap (λ (b : GridBox). b.low) c.swept_box.ensures ∙ ap (λ b. low_corner c.args.step c.args.shifts.now.low b c.args.arc.now) (sym c.if-moves.false)

pub returns-else-moves-clause-high : goal.returns-else-moves-clause-high
unfolding high_corner
returns-else-moves-clause-high c =
    ap (λ (b : GridBox). b.high) c.swept_box.ensures ∙ ap (λ b. high_corner c.args.step c.args.shifts.now.high b c.args.arc.now) (sym c.if-moves.false)
