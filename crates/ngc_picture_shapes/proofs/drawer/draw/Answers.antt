use Rattle.ngc_certificate_text.proofs.CollectedTexts.{longer}
use Rattle.ngc_picture_shapes.proofs.drawer.draw.Goals as goal

pub returns-in-Err-clause-text : goal.returns-in-Err-clause-text
returns-in-Err-clause-text g c = longer _ _ _ _ c.in-Err.ensures.fault
