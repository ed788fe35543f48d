-- A path that follows an arc stays in its swept box.
use Rattle.ngc_arc_geometry.specs.ArcPath.{FollowingIsWeak}

pub weak_path : FollowingIsWeak
weak_path step a path follows = (follows.0, follows.1.weak)
