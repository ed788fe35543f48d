use Rattle.ngc_arc_geometry.proofs.FollowedPaths.{weak_path}
use Rattle.ngc_arc_geometry.proofs.laws.weak_path.Goals as goal

pub returns : goal.returns
returns c = weak_path
