use Rattle.std.proofs.Common.{arith}
use Rattle.ngc_planner.proofs.ArcFeedLaws.{radius_some}
use Rattle.ngc_planner.proofs.arc_feed.arc_turn_at.Goals as goal

pub place_turn-requires : goal.place_turn-requires
place_turn-requires g c =
    let some = radius_some c.args.arc.now c.axis_distance-out.ensures.arc in
    omega (arith, some, c.outer_radius.ensures.value, c.max-radius.ensures)
