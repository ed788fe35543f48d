-- Each call has fewer halvings left.
use Rattle.ngc_picture_shapes.proofs.sheet.+with_curve.Given as goal

abbrev pub decreases-with_curve : goal.decreases-with_curve
decreases-with_curve l = l.halvings
