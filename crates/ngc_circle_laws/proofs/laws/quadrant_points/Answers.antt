use Rattle.ngc_circle_laws.proofs.Axes.{extremes_are}
use Rattle.ngc_circle_laws.proofs.laws.quadrant_points.Goals as goal

pub returns : goal.returns
returns c = extremes_are
