use Rattle.ngc_frames.proofs.Points.{names}
use Rattle.ngc_frames.proofs.laws.names_its_points.Goals as goal

pub returns : goal.returns
returns c = names
