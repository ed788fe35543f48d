use Rattle.std.proofs.Common.{ap, ◌∙◌}
use Rattle.ngc_fixed_length.specs.Boxes.{grid_above, grid_below}
use Rattle.ngc_arc_geometry.proofs.SpanLemmas.{less_margin, more_margin}
use Rattle.ngc_arc_geometry.proofs.extent.GridRange.around.Goals as goal

pub returns-clause-low : goal.returns-clause-low
returns-clause-low c =
    c.inside.ensures.low ∙ ap (grid_above c.args.step) (less_margin c.args.span.now.low c.args.margin c.requires.low c.requires.greatest)

pub returns-clause-high : goal.returns-clause-high
returns-clause-high c =
    c.inside.ensures.high ∙ ap (grid_below c.args.step) (more_margin c.args.span.now.high c.args.margin c.requires.high c.requires.greatest)
