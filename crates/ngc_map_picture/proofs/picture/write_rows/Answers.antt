use Rattle.std.proofs.Common.{arith}
use Rattle.std.proofs.lemmas.Result.{on_ok_weaker, on_err_weaker}
use Rattle.ngc_map_picture.proofs.Blocked.{all_then_end, all_then_stops, stops_before_end}
use Rattle.ngc_map_picture.proofs.picture.write_rows.Goals as goal

pub add_rows-requires-clause-short : goal.add_rows-requires-clause-short
add_rows-requires-clause-short g c = rw c.requires.empty (omega arith)

pub finish-requires : goal.finish-requires
finish-requires g c = c.in-Ok.ensures.ok.short

pub returns-in-Ok-clause-ok : goal.returns-in-Ok-clause-ok
returns-in-Ok-clause-ok g c = on_ok_weaker c.finish.result (all_then_end _ _ _ _ _ _ c.requires.empty c.requires.sums c.in-Ok.ensures.ok) c.finish.ensures.ok

pub returns-in-Ok-clause-fault : goal.returns-in-Ok-clause-fault
returns-in-Ok-clause-fault g c = on_err_weaker c.finish.result (all_then_stops _ _ _ _ _ _ c.requires.empty c.requires.sums c.in-Ok.ensures.ok) c.finish.ensures.fault

pub returns-in-Err-clause-fault : goal.returns-in-Err-clause-fault
returns-in-Err-clause-fault g c = stops_before_end _ _ _ _ c.requires.empty c.in-Err.ensures.fault
