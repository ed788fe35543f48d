use Rattle.std.proofs.Common.{◌≡◌, ◌≤◌, ◌*◌, ◌-ℤ◌, arith}
use Rattle.std.proofs.lemmas.Int.{ints}
use Rattle.ngc_arc_geometry.specs.Radii.{squared_distance}
use Rattle.ngc_arc_geometry.specs.Centre.{start_in}
use Rattle.ngc_arc_geometry.proofs.Squares.{first_within, second_within}
use Rattle.ngc_arc_geometry.proofs.Planes.{u_near, v_near}
use Rattle.ngc_arc_geometry.proofs.arc.Arc.centre_format.Goals as goal

pub point-requires-clause-u : goal.point-requires-clause-u
point-requires-clause-u c =
    let start = c.start_in_plane-2.result in
    let centre = c.centre-centre.result in
    let same : start ≡ start_in c.args.ends.now = cc in
    let near = rw (← same) at (u_near c.args.ends.now.plane c.args.ends.now.start c.requires.start) in
    let radius : squared_distance centre start ≤ 2000000000 * 2000000000 = omega arith in
    let short = first_within (start.u -ℤ centre.u) (start.v -ℤ centre.v) 2000000000 radius in
    omega (arith, ints, near, short)

pub point-requires-clause-v : goal.point-requires-clause-v
point-requires-clause-v c =
    let start = c.start_in_plane-2.result in
    let centre = c.centre-centre.result in
    let same : start ≡ start_in c.args.ends.now = cc in
    let near = rw (← same) at (v_near c.args.ends.now.plane c.args.ends.now.start c.requires.start) in
    let radius : squared_distance centre start ≤ 2000000000 * 2000000000 = omega arith in
    let short = second_within (start.u -ℤ centre.u) (start.v -ℤ centre.v) 2000000000 radius in
    omega (arith, ints, near, short)
