use Rattle.ngc_compensation.proofs.Corners as corners
use Rattle.ngc_compensation.proofs.laws.corners_are_beside.Goals as goal

pub returns : goal.returns
returns c = corners.corners_are_beside
