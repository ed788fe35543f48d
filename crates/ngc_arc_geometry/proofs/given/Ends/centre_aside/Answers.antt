use Rattle.std.proofs.Common.{◌≤◌, ◌-ℤ◌, unsigned_abs, arith, ap}
use Rattle.std.proofs.lemmas.Int.{ints}
use Rattle.ngc_fixed_length.specs.declared.points.Point2.{Point2}
use Rattle.ngc_arc_geometry.specs.Centre.{start_in, end_in, middle}
use Rattle.ngc_arc_geometry.proofs.CentreLemmas.{halfway_within}
use Rattle.ngc_arc_geometry.proofs.CentreRange.{range_aside}
use Rattle.ngc_arc_geometry.proofs.Planes.{u_near, v_near}
use Rattle.ngc_arc_geometry.proofs.given.Ends.centre_aside.Goals as goal

pub moved-requires : goal.moved-requires
moved-requires c =
    let e = c.args.self.now in
    let half = halfway_within (start_in e).u (end_in e).u 90000000000 (u_near e.plane e.start c.requires.ends.start)
    (u_near e.plane e.end c.requires.ends.end) in
    let middle_is = ap (λ (p : Point2). p.u) c.middle-middle.ensures in
    omega (arith, ints, half, middle_is, c.offset_from_middle-offset.ensures.short.u_bound)

pub moved-requires-2 : goal.moved-requires-2
moved-requires-2 c =
    let e = c.args.self.now in
    let half = halfway_within (start_in e).v (end_in e).v 90000000000 (v_near e.plane e.start c.requires.ends.start)
    (v_near e.plane e.end c.requires.ends.end) in
    let middle_is = ap (λ (p : Point2). p.v) c.middle-middle.ensures in
    omega (arith, ints, half, middle_is, c.offset_from_middle-offset.ensures.short.v_bound)

pub returns-clause-radii : goal.returns-clause-radii
returns-clause-radii c =
    let e = c.args.self.now in
    let offset = c.offset_from_middle-offset.result in
    let short = c.offset_from_middle-offset.ensures.short in
    let middle_u = ap (λ (p : Point2). p.u) c.middle-middle.ensures in
    let middle_v = ap (λ (p : Point2). p.v) c.middle-middle.ensures in
    let near_u : unsigned_abs (c.moved.result -ℤ (middle e).u) ≤ unsigned_abs offset.u = omega (arith, ints, middle_u, short.u_bound) in
    let near_v : unsigned_abs (c.moved-2.result -ℤ (middle e).v) ≤ unsigned_abs offset.v = omega (arith, ints, middle_v, short.v_bound) in
    range_aside e (record { u = c.moved.result; v = c.moved-2.result }) c.args.square (unsigned_abs offset.u)
    (unsigned_abs offset.v) near_u near_v c.requires.chord c.requires.reached c.requires.limit short.u_bound short.v_bound short.u short.v
