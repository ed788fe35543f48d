use Rattle.std.proofs.Common.{[], ◌∷◌}
use Rattle.std.proofs.lemmas.Result.{on_ok_weaker, on_err_weaker}
use Rattle.ngc_map_picture.specs.Maps.{pixels, width}
use Rattle.ngc_map_picture.proofs.Blocked.{adds_both, adds_then_stops_last, stops_first}
use Rattle.ngc_map_picture.proofs.picture.add_row.Goals as goal

pub add_pixels-requires-clause-short : goal.add_pixels-requires-clause-short
add_pixels-requires-clause-short g c = c.in-Ok.ensures.ok.short

pub returns-in-Ok-clause-ok : goal.returns-in-Ok-clause-ok
returns-in-Ok-clause-ok g c = on_ok_weaker c.add_pixels.result (adds_both _ _ _ _ _ _ _ _ c.in-Ok.ensures.ok) c.add_pixels.ensures.ok

pub returns-in-Ok-clause-fault : goal.returns-in-Ok-clause-fault
returns-in-Ok-clause-fault g c = on_err_weaker c.add_pixels.result (adds_then_stops_last _ _ _ _ _ _ _ c.in-Ok.ensures.ok) c.add_pixels.ensures.fault

pub returns-in-Err-clause-fault : goal.returns-in-Err-clause-fault
returns-in-Err-clause-fault g c =
    let r = c.args.relief.now in
    stops_first _ _ c.args.rows.now.waiting.items (0 ∷ []) (pixels r c.args.y 0 (width r)) c.in-Err.ensures.fault
