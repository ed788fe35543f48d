use Rattle.std.proofs.Common.{◌<◌, ◌≤◌, rules, refl, arith}
use Rattle.ngc_map_picture.specs.Maps.{height}
use Rattle.ngc_map_picture.proofs.Blocked.{up_to_all, up_to_more, up_to_none, up_to_short, up_to_stops}
use Rattle.ngc_map_picture.proofs.Rows.{all_rows, no_rows, rows_next}
use Rattle.ngc_map_picture.proofs.picture.add_rows.Goals as goal

pub loop-y-init : goal.loop-y-init
loop-y-init g c = record {
  added = up_to_none _ _ _ _ c.requires.short (all_rows c.args.relief.now (height c.args.relief.now));
  failures = refl;
}

pub add_row-requires-clause-short : goal.add_row-requires-clause-short
add_row-requires-clause-short g c = up_to_short _ _ _ _ _ _ c.loop-y.invariant.added

pub loop-y-preserved : goal.loop-y-preserved
loop-y-preserved g c =
    let r = c.args.relief.now in
    let inside : c.loop-y.y < height r = rw (← c.height-y-end.ensures) c.loop-y-test.true in
    record {
      added = up_to_more _ _ _ _ _ _ _ _ _ _ c.loop-y.invariant.added (rows_next r c.loop-y.y (height r) inside) c.in-Ok.ensures.ok;
      failures = search rules;
    }

pub returns-in-Err-clause-fault : goal.returns-in-Err-clause-fault
returns-in-Err-clause-fault g c =
    let r = c.args.relief.now in
    let inside : c.loop-y.y < height r = rw (← c.height-y-end.ensures) c.loop-y-test.true in
    up_to_stops _ _ _ _ _ _ _ _ _ c.loop-y.invariant.added (rows_next r c.loop-y.y (height r) inside) c.in-Err.ensures.fault

pub returns-clause-ok : goal.returns-clause-ok
returns-clause-ok g c =
    let r = c.args.relief.now in
    let past : height r ≤ c.loop-y.y = omega (arith, c.loop-y-test.false, c.height-y-end.ensures) in
    up_to_all _ _ _ _ _ _ c.loop-y.invariant.added (no_rows r c.loop-y.y (height r) past)
