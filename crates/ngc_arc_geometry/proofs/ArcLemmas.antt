-- Properties of every arc.
use Rattle.std.proofs.Common.{◌*◌, ◌≤◌, ◌-ℤ◌, unsigned_abs, arith}
use Rattle.std.proofs.lemmas.Int.{ints}
use Rattle.ngc_arc_geometry.specs.Shape.{ArcShape, start_of}
use Rattle.ngc_arc_geometry.specs.Radii.{squared_distance, IsArc}
use Rattle.ngc_arc_geometry.proofs.Squares.{first_within, second_within}
use Rattle.ngc_arc_geometry.proofs.Planes.{u_near, v_near}

-- the centre's distance from zero is at most the start's plus a radius
at_start : (a : ArcShape) → IsArc a → squared_distance a.centre (start_of a) ≤ 2000020000 * 2000020000
at_start a arc = omega (arith, arc.radius)

pub centre_u : (a : ArcShape) → IsArc a → unsigned_abs a.centre.u ≤ 93000000000
centre_u a arc =
    let near = u_near a.plane a.start arc.start in
    let short = first_within ((start_of a).u -ℤ a.centre.u) ((start_of a).v -ℤ a.centre.v) 2000020000 (at_start a arc) in
    omega (arith, ints, near, short)

pub centre_v : (a : ArcShape) → IsArc a → unsigned_abs a.centre.v ≤ 93000000000
centre_v a arc =
    let near = v_near a.plane a.start arc.start in
    let short = second_within ((start_of a).u -ℤ a.centre.u) ((start_of a).v -ℤ a.centre.v) 2000020000 (at_start a arc) in
    omega (arith, ints, near, short)
