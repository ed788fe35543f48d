use Rattle.std.proofs.Common.{◌<◌, ◌≤◌, rules, refl, arith}
use Rattle.ngc_map_picture.specs.Maps.{width}
use Rattle.ngc_map_picture.proofs.Blocked.{up_to_all, up_to_byte, up_to_byte_stops, up_to_none, up_to_short}
use Rattle.ngc_map_picture.proofs.Rows.{all_pixels, no_pixels, pixels_next}
use Rattle.ngc_map_picture.proofs.picture.add_pixels.Goals as goal

pub loop-x-init : goal.loop-x-init
loop-x-init g c = record {
  added = up_to_none _ _ _ _ c.requires.short (all_pixels c.args.relief.now c.args.y (width c.args.relief.now));
  failures = refl;
}

pub add-requires : goal.add-requires
add-requires g c = up_to_short _ _ _ _ _ _ c.loop-x.invariant.added

pub loop-x-preserved : goal.loop-x-preserved
loop-x-preserved g c =
    let r = c.args.relief.now in
    let inside : c.loop-x.x < width r = rw (← c.width-x-end.ensures) c.loop-x-test.true in
    record {
      added = up_to_byte _ _ _ _ _ _ _ _ _ _ _ c.loop-x.invariant.added (pixels_next r c.args.y c.loop-x.x (width r) inside) c.pixel-pixel.ensures c.in-Ok.ensures.ok;
      failures = search rules;
    }

pub returns-in-Err-clause-fault : goal.returns-in-Err-clause-fault
returns-in-Err-clause-fault g c =
    let r = c.args.relief.now in
    let inside : c.loop-x.x < width r = rw (← c.width-x-end.ensures) c.loop-x-test.true in
    up_to_byte_stops _ _ _ _ _ _ _ _ _ _ c.loop-x.invariant.added (pixels_next r c.args.y c.loop-x.x (width r) inside) c.pixel-pixel.ensures c.in-Err.ensures.fault

pub returns-clause-ok : goal.returns-clause-ok
returns-clause-ok g c =
    let r = c.args.relief.now in
    let past : width r ≤ c.loop-x.x = omega (arith, c.loop-x-test.false, c.width-x-end.ensures) in
    up_to_all _ _ _ _ _ _ c.loop-x.invariant.added (no_pixels r c.args.y c.loop-x.x (width r) past)
