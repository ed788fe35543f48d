use Rattle.ngc_certificate_text.proofs.CollectedTexts.{longer, rest_collected}
use Rattle.ngc_certificate_text.proofs.WrittenCertificate.{counted}
use Rattle.ngc_certificate_text.proofs.write.write_setting.Goals as goal

pub returns-in-Err-clause-text : goal.returns-in-Err-clause-text
returns-in-Err-clause-text g c = longer _ _ _ _ c.in-Err.ensures.fault

pub returns-clause-text : goal.returns-clause-text
returns-clause-text g c =
    rest_collected c.write_motions.result _ _ _ _ _ _ _ _ _ c.in-Ok.ensures.ok
    (counted c.args.name.now _ _ c.count.result (g.M.MotionList.entries c.args.motions.now) c.count.ensures.value c.add_setting.ensures) c.write_motions.ensures.text
