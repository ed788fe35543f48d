use Rattle.std.proofs.lemmas.Result.{on_ok_weaker, on_err_weaker}
use Rattle.ngc_map_picture.proofs.Pictures.{whole_picture, stopped_in_front, stopped_in_rest}
use Rattle.ngc_map_picture.proofs.picture.write_map.Goals as goal

pub returns-in-Ok-clause-ok : goal.returns-in-Ok-clause-ok
returns-in-Ok-clause-ok g c =
    on_ok_weaker c.write_rest.result (whole_picture _ _ _ c.args.relief.now _ _ c.width.ensures c.height.ensures c.in-Ok.ensures.ok) c.write_rest.ensures.ok

pub returns-in-Ok-clause-fault : goal.returns-in-Ok-clause-fault
returns-in-Ok-clause-fault g c =
    on_err_weaker c.write_rest.result (stopped_in_rest _ _ _ c.args.relief.now _ _ c.width.ensures c.height.ensures c.in-Ok.ensures.ok) c.write_rest.ensures.fault

pub returns-in-Err-clause-fault : goal.returns-in-Err-clause-fault
returns-in-Err-clause-fault g c = stopped_in_front _ _ c.args.relief.now _ _ c.width.ensures c.height.ensures c.in-Err.ensures.fault
