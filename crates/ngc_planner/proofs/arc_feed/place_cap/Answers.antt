use Rattle.std.proofs.Common.{arith, refl}
use Rattle.ngc_planner.proofs.ArcFeedLaws.{plane_small}
use Rattle.ngc_planner.proofs.arc_feed.place_cap.Goals as goal

pub returns-clause-bound : goal.returns-clause-bound
returns-clause-bound c =
    plane_small _ _ c.from.result c.from-3.result c.from-4.result c.from-5.result c.from-2.result (omega arith) (omega arith) (omega arith)
    (omega arith) (omega arith) refl refl
