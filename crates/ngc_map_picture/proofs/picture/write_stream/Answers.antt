use Rattle.std.proofs.lemmas.Result.{on_ok_weaker, on_err_weaker}
use Rattle.ngc_text.proofs.AppendedTexts.{appends_both}
use Rattle.ngc_map_picture.specs.Blocks.{stream}
use Rattle.ngc_map_picture.proofs.Written.{prefix_longer, begins_last}
use Rattle.ngc_map_picture.proofs.picture.write_stream.Goals as goal

pub returns-in-Ok-clause-ok : goal.returns-in-Ok-clause-ok
unfolding stream
returns-in-Ok-clause-ok g c = on_ok_weaker c.write_rows.result (appends_both _ _ _ _ _ c.in-Ok.ensures.ok) c.write_rows.ensures.ok

pub returns-in-Ok-clause-fault : goal.returns-in-Ok-clause-fault
unfolding stream
returns-in-Ok-clause-fault g c = on_err_weaker c.write_rows.result (begins_last _ _ _ _ _ c.in-Ok.ensures.ok) c.write_rows.ensures.fault

pub returns-in-Err-clause-fault : goal.returns-in-Err-clause-fault
unfolding stream
returns-in-Err-clause-fault g c = prefix_longer _ _ _ _ c.in-Err.ensures.fault
