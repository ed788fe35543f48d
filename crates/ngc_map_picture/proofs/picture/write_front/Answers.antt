use Rattle.std.proofs.lemmas.Result.{on_ok_weaker, on_err_weaker}
use Rattle.ngc_text.proofs.AppendedTexts.{appends_both}
use Rattle.ngc_map_picture.proofs.Written.{prefix_longer, begins_last}
use Rattle.ngc_map_picture.proofs.picture.write_front.Goals as goal

pub returns-in-Ok-clause-ok : goal.returns-in-Ok-clause-ok
returns-in-Ok-clause-ok g c = on_ok_weaker c.write_settings.result (appends_both _ _ _ _ _ c.in-Ok.ensures.ok) c.write_settings.ensures.ok

pub returns-in-Ok-clause-fault : goal.returns-in-Ok-clause-fault
returns-in-Ok-clause-fault g c = on_err_weaker c.write_settings.result (begins_last _ _ _ _ _ c.in-Ok.ensures.ok) c.write_settings.ensures.fault

pub returns-in-Err-clause-fault : goal.returns-in-Err-clause-fault
returns-in-Err-clause-fault g c = prefix_longer _ _ _ _ c.in-Err.ensures.fault
