-- Each call has fewer tries left.
use Rattle.ngc_drawing.proofs.label.+settle.Given as goal

abbrev pub decreases-settle : goal.decreases-settle
decreases-settle l = l.tries
