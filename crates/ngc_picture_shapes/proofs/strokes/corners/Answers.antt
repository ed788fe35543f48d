use Rattle.std.proofs.Common.{◌<◌, ◌≤◌, length, pos, arith, refl, lit<}
use Rattle.ngc_picture_shapes.specs.declared.shape.Shape.TheVariants as drawn
use Rattle.ngc_picture_shapes.proofs.MappedLists.{how_many, one_more, all_mapped}
use Rattle.ngc_picture_shapes.proofs.strokes.corners.Goals as goal

pub push-requires : goal.push-requires
push-requires c =
    let few = how_many (λ p. drawn.Line p) c.as_slice-spot-items.result.now c.loop-spot.spot-index c.loop-spot.shapes.items
    (omega arith) c.loop-spot.invariant in
    let within : length c.as_slice-spot-items.result.now ≤ 5 = c.as_slice-spot-items.ensures.fits in
    let room : length c.loop-spot.shapes.items < 5 = omega (arith, few, within, c.loop-spot-test.true) in
    (lit< tt, room)

pub loop-spot-preserved : goal.loop-spot-preserved
loop-spot-preserved c =
    one_more (λ p. drawn.Line p) c.as_slice-spot-items.result.now c.loop-spot.spot-index (record { across = pos 0; up = pos 0 }) c.loop-spot.shapes.items
    c.push.new.self.items _
    c.loop-spot-test.true c.loop-spot.invariant refl c.push.ensures.items

pub returns : goal.returns
returns c =
    let all = all_mapped (λ p. drawn.Line p) c.as_slice-spot-items.result.now c.loop-spot.spot-index c.loop-spot.shapes.items
    (omega arith) c.loop-spot.invariant in
    rw (all, c.as_slice-spot-items.ensures.value, c.corner_spots.ensures) refl
