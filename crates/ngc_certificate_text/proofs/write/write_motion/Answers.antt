use Rattle.ngc_certificate_text.proofs.CollectedTexts.{longer, rest_collected}
use Rattle.ngc_certificate_text.proofs.WrittenCertificate.{motion_numbered}
use Rattle.ngc_certificate_text.proofs.write.write_motion.Goals as goal

pub returns-in-Err-clause-text : goal.returns-in-Err-clause-text
returns-in-Err-clause-text g c = longer _ _ _ _ c.in-Err.ensures.fault

pub returns-clause-text : goal.returns-clause-text
returns-clause-text g c =
    rest_collected c.write_pieces.result _ _ _ _ _ _ _ _ _ c.in-Ok.ensures.ok
    (motion_numbered (g.M.MotionList.entries c.args.motions.now) c.args.i _ _ _ _ c.command_index.ensures c.piece_count.ensures.value c.add_motion.ensures)
    c.write_pieces.ensures.text
