use Rattle.ngc_text.proofs.AppendedTexts.{appends_both}
use Rattle.ngc_report.specs.declared.form.Form.TheVariants.{Words}
use Rattle.ngc_program_report.specs.Texts.{ending}
use Rattle.ngc_program_report.proofs.WrittenLaws.{appends_as, begins_as, begins_first, begins_last, err_weaker, ok_weaker, on_err}
use Rattle.ngc_simulator.specs.Cells.{no_material_words}
use Rattle.ngc_simulator.proofs.report_shop.write_no_material_words.Goals as goal

pub returns-in_err-write_all-clause-fault : goal.returns-in_err-write_all-clause-fault
returns-in_err-write_all-clause-fault g c =
    on_err _ _ (begins_first _ _ no_material_words (ending Words 729) (begins_as _ _ _ _ c.no_material_words.ensures c.in_err-write_all.ensures.fault))

pub returns-clause-ok : goal.returns-clause-ok
returns-clause-ok g c =
    ok_weaker c.write_ending.result _ _
    (λ wrote. appends_both _ _ _ no_material_words (ending Words 729) (appends_as _ _ _ _ c.no_material_words.ensures c.in_ok-write_all.ensures.ok) wrote)
    c.write_ending.ensures.ok

pub returns-clause-fault : goal.returns-clause-fault
returns-clause-fault g c =
    err_weaker c.write_ending.result _ _
    (λ wrote. begins_last _ _ _ no_material_words (ending Words 729) (appends_as _ _ _ _ c.no_material_words.ensures c.in_ok-write_all.ensures.ok) wrote)
    c.write_ending.ensures.fault
