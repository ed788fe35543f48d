use Rattle.std.proofs.lemmas.Result.{on_ok_weaker, on_err_weaker}
use Rattle.ngc_text.proofs.AppendedTexts.{appends_both}
use Rattle.ngc_map_picture.specs.Png.{last_chunk}
use Rattle.ngc_map_picture.proofs.Written.{prefix_longer, begins_last}
use Rattle.ngc_map_picture.proofs.picture.write_rest.Goals as goal

pub returns-in-Ok-clause-ok : goal.returns-in-Ok-clause-ok
unfolding last_chunk
returns-in-Ok-clause-ok g c = on_ok_weaker c.write_chunk.result (appends_both _ _ _ _ _ c.in-Ok.ensures.ok) c.write_chunk.ensures.ok

pub returns-in-Ok-clause-fault : goal.returns-in-Ok-clause-fault
unfolding last_chunk
returns-in-Ok-clause-fault g c = on_err_weaker c.write_chunk.result (begins_last _ _ _ _ _ c.in-Ok.ensures.ok) c.write_chunk.ensures.fault

pub returns-in-Err-clause-fault : goal.returns-in-Err-clause-fault
unfolding last_chunk
returns-in-Err-clause-fault g c = prefix_longer _ _ _ _ c.in-Err.ensures.fault
