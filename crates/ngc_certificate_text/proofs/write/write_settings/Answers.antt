use Rattle.ngc_certificate_text.proofs.WrittenCertificate.{stopped_in_first, stopped_in_second, stopped_behind, made_whole}
use Rattle.ngc_certificate_text.proofs.write.write_settings.Goals as goal

pub returns-in-Err-clause-text : goal.returns-in-Err-clause-text
returns-in-Err-clause-text g c = stopped_in_first _ _ _ _ _ _ _ _ c.add_text.ensures c.in-Err.ensures.text

pub returns-in-Err-write_setting-clause-text : goal.returns-in-Err-write_setting-clause-text
returns-in-Err-write_setting-clause-text g c = stopped_in_second _ _ _ _ _ _ _ _ _ _ c.add_text.ensures c.in-Ok.ensures.text c.in-Err-write_setting.ensures.text

pub returns-in-Err-make_space-clause-text : goal.returns-in-Err-make_space-clause-text
returns-in-Err-make_space-clause-text g c =
    stopped_behind _ _ _ _ _ _ _ _ _ _ _ _ c.add_text.ensures c.in-Ok.ensures.text c.in-Ok-write_setting.ensures.text c.in-Err-make_space.ensures.fault

pub returns-clause-text : goal.returns-clause-text
returns-clause-text g c =
    made_whole _ _ _ _ _ _ _ _ _ _ _ _ _ _ c.add_text.ensures c.in-Ok.ensures.text c.in-Ok-write_setting.ensures.text c.in-Ok-make_space.ensures.ok
    c.add_text-2.ensures
