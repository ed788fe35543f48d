use Rattle.std.proofs.Common.{◌≡◌, ◌<◌, ◌≤◌, length, arith, refl, ap, ◌∙◌, lit<}
use Rattle.ngc_fixed_length.specs.Places.{at_height, height}
use Rattle.ngc_arc_geometry.specs.Sector.{extremes}
use Rattle.ngc_picture_shapes.specs.Arcs.{extreme_point}
use Rattle.ngc_picture_shapes.specs.Views.{tip_spot}
use Rattle.ngc_picture_shapes.proofs.MappedLists.{how_many, one_more, all_mapped}
use Rattle.ngc_picture_shapes.proofs.strokes.corner_spots.Goals as goal

pub push-requires : goal.push-requires
push-requires c =
    let few = how_many (λ p. tip_spot c.args.eye.now (extreme_point c.args.arc.now p)) c.as_slice-point-items.result.now c.loop-point.point-index
    c.loop-point.spots.items (omega arith) c.loop-point.invariant in
    let within : length c.as_slice-point-items.result.now ≤ 4 = c.as_slice-point-items.ensures.fits in
    let room : length c.loop-point.spots.items < 5 = omega (arith, few, within, c.loop-point-test.true) in
    (lit< tt, room)

pub loop-point-preserved : goal.loop-point-preserved
loop-point-preserved c =
    let arc = c.args.arc.now in
    let seen : c.spot.result ≡ tip_spot c.args.eye.now (at_height arc.plane c.point-item.result (height arc.plane arc.start)) =
    rw (c.spot.ensures, c.at_height.ensures, c.height-height.ensures, c.plane-plane.ensures, c.start.ensures.value) refl in
    one_more (λ p. tip_spot c.args.eye.now (extreme_point arc p)) c.as_slice-point-items.result.now c.loop-point.point-index c.point-item.result
    c.loop-point.spots.items c.push.new.self.items c.spot.result
    c.loop-point-test.true c.loop-point.invariant (seen ∙ ap (λ p. tip_spot c.args.eye.now (extreme_point arc p)) c.point-item.is) c.push.ensures.items

pub push-requires-2 : goal.push-requires-2
push-requires-2 c =
    let few = how_many (λ p. tip_spot c.args.eye.now (extreme_point c.args.arc.now p)) c.as_slice-point-items.result.now c.loop-point.point-index
    c.loop-point.spots.items (omega arith) c.loop-point.invariant in
    let within : length c.as_slice-point-items.result.now ≤ 4 = c.as_slice-point-items.ensures.fits in
    let room : length c.loop-point.spots.items < 5 = omega (arith, few, within) in
    (lit< tt, room)

pub returns : goal.returns
returns c =
    let arc = c.args.arc.now in
    let all = all_mapped (λ p. tip_spot c.args.eye.now (extreme_point arc p)) c.as_slice-point-items.result.now c.loop-point.point-index c.loop-point.spots.items
    (omega arith) c.loop-point.invariant in
    let points : c.as_slice-point-items.result.now ≡ extremes arc = c.as_slice-point-items.ensures.value ∙ c.extremes.ensures in
    let last : c.spot-2.result ≡ tip_spot c.args.eye.now arc.end = rw (c.spot-2.ensures, c.end.ensures.value) refl in
    rw (c.push-2.ensures.items, all, points, last) refl
