use Rattle.ngc_planner.proofs.CoordinateLaws.{kept}
use Rattle.ngc_planner.proofs.headings.tangent.Goals as goal

pub opposite-requires : goal.opposite-requires
opposite-requires c = rw (kept c.beyond-u.result c.beyond-u.ensures.bound) c.beyond-u.ensures.bound

pub in_plane-requires-clause-u : goal.in_plane-requires-clause-u
in_plane-requires-clause-u c = rw (kept c.beyond-v.result c.beyond-v.ensures.bound) c.beyond-v.ensures.bound

pub in_plane-requires-clause-v : goal.in_plane-requires-clause-v
in_plane-requires-clause-v c = rw (kept c.opposite.result c.opposite.ensures.bound) c.opposite.ensures.bound

pub opposite-requires-in-Counterclockwise : goal.opposite-requires-in-Counterclockwise
opposite-requires-in-Counterclockwise c = rw (kept c.beyond-v.result c.beyond-v.ensures.bound) c.beyond-v.ensures.bound

pub returns-in-Clockwise : goal.returns-in-Clockwise
returns-in-Clockwise c =
    let u = kept c.beyond-u.result c.beyond-u.ensures.bound in
    let v = kept c.beyond-v.result c.beyond-v.ensures.bound in
    let w = kept c.opposite.result c.opposite.ensures.bound in
    rw (← c.turn.ensures, c.in-Clockwise.is) (cc (u, v, w))

pub returns-in-Counterclockwise : goal.returns-in-Counterclockwise
returns-in-Counterclockwise c =
    let u = kept c.beyond-u.result c.beyond-u.ensures.bound in
    let v = kept c.beyond-v.result c.beyond-v.ensures.bound in
    let w = kept c.opposite-in-Counterclockwise.result c.opposite-in-Counterclockwise.ensures.bound in
    rw (← c.turn.ensures, c.in-Counterclockwise.is) (cc (u, v, w))
