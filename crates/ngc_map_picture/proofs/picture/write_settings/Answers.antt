use Rattle.std.proofs.lemmas.Result.{on_ok_weaker, on_err_weaker}
use Rattle.ngc_text.proofs.AppendedTexts.{appends_both}
use Rattle.ngc_map_picture.specs.Png.{settings}
use Rattle.ngc_map_picture.proofs.Written.{prefix_longer, begins_last}
use Rattle.ngc_map_picture.proofs.picture.write_settings.Goals as goal

pub returns-in-Ok-clause-ok : goal.returns-in-Ok-clause-ok
unfolding settings
returns-in-Ok-clause-ok g c = on_ok_weaker c.write_palette.result (appends_both _ _ _ _ _ c.in-Ok.ensures.ok) c.write_palette.ensures.ok

pub returns-in-Ok-clause-fault : goal.returns-in-Ok-clause-fault
unfolding settings
returns-in-Ok-clause-fault g c = on_err_weaker c.write_palette.result (begins_last _ _ _ _ _ c.in-Ok.ensures.ok) c.write_palette.ensures.fault

pub returns-in-Err-clause-fault : goal.returns-in-Err-clause-fault
unfolding settings
returns-in-Err-clause-fault g c = prefix_longer _ _ _ _ c.in-Err.ensures.fault
