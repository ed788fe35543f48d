use Rattle.std.proofs.Common.{◌≡◌, ◌<◌, ◌≤◌, length, get_or, pos, to_z, of_z, arith, refl, lit<}
use Rattle.std.specs.Int.{w64}
use Rattle.std.proofs.lemmas.Int.{ints}
use Rattle.ngc_arc_geometry.specs.Radii.{outer_radius}
use Rattle.ngc_picture_shapes.specs.Strokes.{round, is_seen_clockwise}
use Rattle.ngc_picture_shapes.specs.Views.{micrometres}
use Rattle.ngc_picture_shapes.specs.declared.shape.Shape.TheVariants as shapes
use Rattle.ngc_picture_shapes.proofs.MappedLists.{how_many, one_more, all_mapped}
use Rattle.ngc_picture_shapes.proofs.strokes.rounds.Goals as goal

pub push-requires : goal.push-requires
push-requires c =
    let few = how_many (round c.args.eye.now.view c.args.arc.now) c.as_slice-spot-items.result.now c.loop-spot.spot-index c.loop-spot.shapes.items
    (omega arith) c.loop-spot.invariant in
    let within : length c.as_slice-spot-items.result.now ≤ 5 = c.as_slice-spot-items.ensures.fits in
    let room : length c.loop-spot.shapes.items < 5 = omega (arith, few, within, c.loop-spot-test.true) in
    (lit< tt, room)

pub loop-spot-preserved : goal.loop-spot-preserved
loop-spot-preserved c =
    let arc = c.args.arc.now in
    let xs = c.as_slice-spot-items.result.now in
    let i = c.loop-spot.spot-index in
    let kept : to_z w64 (of_z w64 c.to_micrometres-radius.result) ≡ c.to_micrometres-radius.result = omega (arith, ints) in
    let cast : to_z w64 c.outer_radius.result ≡ pos c.outer_radius.result = omega (arith, ints) in
    let radius : c.to_micrometres-radius.result ≡ micrometres (pos (outer_radius arc)) =
    rw (cast, c.outer_radius.ensures.value) at c.to_micrometres-radius.ensures in
    let clockwise : c.is_seen_clockwise-clockwise.result ≡ is_seen_clockwise c.args.eye.now.view arc.turn =
    rw c.turn.ensures at c.is_seen_clockwise-clockwise.ensures in
    let is : shapes.Round (to_z w64 (of_z w64 c.to_micrometres-radius.result)) c.is_seen_clockwise-clockwise.result
    (get_or xs i (record { across = pos 0; up = pos 0 })) ≡ round c.args.eye.now.view arc (get_or xs i (record { across = pos 0; up = pos 0 })) =
    rw (kept, radius, clockwise) refl in
    one_more (round c.args.eye.now.view arc) xs i (record { across = pos 0; up = pos 0 }) c.loop-spot.shapes.items c.push.new.self.items _ c.loop-spot-test.true
    c.loop-spot.invariant is c.push.ensures.items

pub returns : goal.returns
returns c =
    let all = all_mapped (round c.args.eye.now.view c.args.arc.now) c.as_slice-spot-items.result.now c.loop-spot.spot-index c.loop-spot.shapes.items
    (omega arith) c.loop-spot.invariant in
    rw (all, c.as_slice-spot-items.ensures.value, c.corner_spots.ensures) refl
