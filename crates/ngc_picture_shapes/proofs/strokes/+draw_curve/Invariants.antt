-- Each call has fewer halvings left.
use Rattle.ngc_picture_shapes.proofs.strokes.+draw_curve.Given as goal

abbrev pub decreases-draw_curve : goal.decreases-draw_curve
decreases-draw_curve g l = l.halvings
