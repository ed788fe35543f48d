use Rattle.ngc_sentences.proofs.CollectedTexts.{longer}
use Rattle.ngc_sentences.proofs.Said.{through}
use Rattle.ngc_sentences.proofs.page.write_text.Goals as goal

pub returns-in-Err-clause-text : goal.returns-in-Err-clause-text
returns-in-Err-clause-text g c = longer _ _ _ _ c.in-Err.ensures.fault

pub returns-in-Ok-write_out-clause-text : goal.returns-in-Ok-write_out-clause-text
returns-in-Ok-write_out-clause-text g c =
    through c.write_all.result _ _ _ _ _ _ c.in-Ok-write_out.ensures.ok c.in-Ok-write_out.ensures.empty c.write_all.ensures.ok c.write_all.ensures.fault

pub returns-in-Err-write_out-clause-text : goal.returns-in-Err-write_out-clause-text
returns-in-Err-write_out-clause-text g c = longer _ _ _ _ c.in-Err-write_out.ensures.fault
