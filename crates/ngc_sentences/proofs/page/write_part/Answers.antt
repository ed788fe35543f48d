use Rattle.ngc_sentences.proofs.CollectedTexts.{longer}
use Rattle.ngc_sentences.proofs.page.write_part.Goals as goal

pub returns-in-Err-clause-text : goal.returns-in-Err-clause-text
returns-in-Err-clause-text g c = longer _ _ _ _ c.in-Err.ensures.fault
